-- A worked system: task T disables and suspends interrupts, and an alarm's task H preempts it where they are open.
use Rattle.std.specs.Prelude.{◌≡◌, ℕ, true, false, List, [], ◌∷◌, ◌++◌, map, drop, codes, replicate, Some, None, pos, negsuc, sum_by, refl}
use Rattle.elf_image.specs.Image.{ImageData}
use Rattle.oil_model.specs.declared.system.System.{System}
use Rattle.timing_file.specs.declared.timing.Timing.{Timing}
use Rattle.rv32_decode.specs.Instructions.{insn_of_word, insn_under, imm_of, branch_of}
use Rattle.rv32_machine.specs.Code.{insn_at}
use Rattle.osek_kernel.specs.declared.context.Context.TheVariants as contexts
use Rattle.osek_kernel.specs.declared.service.Code.TheVariants.{Done}
use Rattle.osek_kernel.specs.declared.service.Service.TheVariants.{TerminateTask, DisableAllInterrupts, EnableAllInterrupts, SuspendAllInterrupts, ResumeAllInterrupts}
use Rattle.osek_kernel.specs.Served.{going_on}
use Rattle.osek_machine.specs.Events.{Event}
use Rattle.flow_graph.specs.Graph.{entries_of}
use Rattle.flow_graph.specs.Judging.{early_fault}
use Rattle.flow_graph.specs.declared.flow.Flow.{Flow}
use Rattle.wcet_atomic_blocks.specs.Blocks.{at_entry, behind, beginnings}
use Rattle.wcet_atomic_blocks.specs.Plants.{PlantData}
use Rattle.abstract_sched.specs.declared.states.AbsState.{AbsState}
use Rattle.abstract_sched.specs.declared.states.TaskAt.TheVariants.{Suspended, At}
use Rattle.whole_rows.specs.Rows.{RowsData}
use Rattle.row_build.specs.Columns.{cost}
use Rattle.row_build.specs.Rows.{rows_of}
use Rattle.activation_windows.specs.Samples.Words.{image_at, symbol, task, scheduler, node, straight, serving, block, state, stands, goes, asks, takes, ending, times, plus, minus, rows_over, columns_at, meets_all, used, leavings, faults}

abbrev pub system : System
system = record {
  tasks = task (codes "T") 1 (0 ∷ []) ∷ task (codes "H") 2 [] ∷ [];
  isrs = [];
  resources = scheduler 2 ∷ [];
  alarms = record { name = codes "Tick"; counter = 0; task = 1; cycle = 1000; modes = 0 ∷ [] } ∷ [];
  counters = codes "C" ∷ [];
  modes = codes "Main" ∷ [];
}

-- T at 0x100: DisableAllInterrupts; EnableAllInterrupts; SuspendAllInterrupts; ResumeAllInterrupts; TerminateTask
abbrev words_of_t : List ℕ
words_of_t =
    0x00000513 ∷ 0x00600893 ∷ 0x00000073 ∷ 0x00000513 ∷ 0x00700893 ∷ 0x00000073 ∷ 0x00000513 ∷ 0x00800893 ∷ 0x00000073
    ∷ 0x00000513 ∷ 0x00900893 ∷ 0x00000073 ∷ 0x00000513 ∷ 0x00200893 ∷ 0x00000073 ∷ []

-- H at 0x13c: TerminateTask
abbrev words_of_h : List ℕ
words_of_h = 0x00000513 ∷ 0x00200893 ∷ 0x00000073 ∷ []

abbrev pub image : ImageData
image = image_at 0x100 (words_of_t ++ words_of_h) (symbol (codes "Task_T") 0x100 ∷ symbol (codes "Task_H") 0x13c ∷ [])

abbrev pub timing : Timing
timing = record {
  classes = record { costs = replicate 8 1 };
  services = record { costs = replicate 13 20 };
  alarm = 30;
  interrupt = 10;
  ticks = record { name = codes "C"; number = 1 } ∷ [];
  distances = [];
  loops = [];
  taken = 1;
  extra = [];
}

abbrev pub flow : Flow
flow = record {
  nodes = node 0 [] 0x100 ∷ node 0 [] 0x104 ∷ node 0 [] 0x108 ∷ node 0 [] 0x10c ∷ node 0 [] 0x110 ∷ node 0 [] 0x114 ∷ node 0 [] 0x118
      ∷ node 0 [] 0x11c ∷ node 0 [] 0x120 ∷ node 0 [] 0x124 ∷ node 0 [] 0x128 ∷ node 0 [] 0x12c ∷ node 0 [] 0x130 ∷ node 0 [] 0x134
      ∷ node 0 [] 0x138 ∷ node 1 [] 0x13c ∷ node 1 [] 0x140 ∷ node 1 [] 0x144 ∷ [];
  leaving = straight 1 ∷ straight 2 ∷ serving 6 0 (Some 3) ∷ straight 4 ∷ straight 5 ∷ serving 7 0 (Some 6) ∷ straight 7 ∷ straight 8
      ∷ serving 8 0 (Some 9) ∷ straight 10 ∷ straight 11 ∷ serving 9 0 (Some 12) ∷ straight 13 ∷ straight 14 ∷ serving 2 0 None ∷ straight 16
      ∷ straight 17 ∷ serving 2 0 None ∷ [];
}

abbrev pub plant : PlantData
plant = record {
  image = image;
  system = system;
  timing = timing;
  flow = flow;
  blocks = record {
    blocks = block (at_entry 0 0) 0x7 (2 ∷ []) ∷ block (behind 0 2 3) 0x38 (5 ∷ [])
        ∷ block (behind 0 5 6) 0x1c0 (8 ∷ []) ∷ block (behind 0 8 9) 0xe00 (11 ∷ [])
        ∷ block (behind 0 11 12) 0x7000 (14 ∷ []) ∷ block (at_entry 1 15) 0x38000 (17 ∷ []) ∷ [];
    entries = 0 ∷ 5 ∷ [];
    afters = None ∷ None ∷ Some 1 ∷ None ∷ None ∷ Some 2 ∷ None ∷ None ∷ Some 3 ∷ None ∷ None ∷ Some 4 ∷ replicate 6 None;
  };
}

abbrev pub states : List AbsState
states =
    state (At 0 false [] ∷ Suspended ∷ []) None
    ∷ state (At 0 false [] ∷ At 5 false [] ∷ []) None
    ∷ record (state (At 1 false [] ∷ Suspended ∷ []) None) { mode = 0; disabled = true; suspended = 0 }
    ∷ state (At 2 false [] ∷ Suspended ∷ []) None
    ∷ state (At 2 false [] ∷ At 5 false [] ∷ []) None
    ∷ record (state (At 3 false [] ∷ Suspended ∷ []) None) { mode = 0; disabled = false; suspended = 1 }
    ∷ state (At 4 false [] ∷ Suspended ∷ []) None
    ∷ state (At 4 false [] ∷ At 5 false [] ∷ []) None
    ∷ state (Suspended ∷ Suspended ∷ []) None
    ∷ state (Suspended ∷ At 5 false [] ∷ []) None
    ∷ []

-- ---- The flow is that of the code, which has no fault, and the blocks begin where they do

early_case : early_fault system timing (entries_of image system) ≡ None
early_case = refl

leavings_case : leavings plant ≡ flow.leaving
unfolding insn_at insn_of_word insn_under imm_of branch_of
leavings_case = refl

faults_case : faults plant ≡ replicate 18 None
unfolding insn_at insn_of_word insn_under imm_of branch_of
faults_case = refl

beginnings_case : map (λ block. block.begin) plant.blocks.blocks ≡ beginnings flow (0 ∷ 15 ∷ [])
beginnings_case = refl

-- ---- The rows of T

abbrev pub rows_of_t : RowsData
rows_of_t = record {
  costs = map pos (0 ∷ 30 ∷ 20 ∷ 30 ∷ 20 ∷ 20 ∷ 30 ∷ 20 ∷ 30 ∷ 20 ∷ 20 ∷ 30 ∷ 20 ∷ 30 ∷ 20 ∷ replicate 12 1 ++ (replicate 6 0));
  rows = rows_over 33 (
      -- the activation has one start
      (plus 0 ∷ [])
      -- states
      ∷ (minus 0 ∷ plus 1 ∷ plus 2 ∷ minus 4 ∷ [])
      ∷ (minus 1 ∷ plus 4 ∷ [])
      ∷ (minus 2 ∷ plus 5 ∷ [])
      ∷ (minus 5 ∷ plus 6 ∷ plus 7 ∷ minus 9 ∷ [])
      ∷ (minus 6 ∷ plus 9 ∷ [])
      ∷ (minus 7 ∷ plus 10 ∷ [])
      ∷ (minus 10 ∷ plus 11 ∷ plus 12 ∷ minus 14 ∷ [])
      ∷ (minus 11 ∷ plus 14 ∷ [])
      -- nodes
      ∷ (plus 15 ∷ minus 32 ∷ [])
      ∷ (minus 15 ∷ plus 16 ∷ [])
      ∷ (plus 2 ∷ minus 16 ∷ [])
      ∷ (plus 17 ∷ minus 27 ∷ [])
      ∷ (minus 17 ∷ plus 18 ∷ [])
      ∷ (plus 5 ∷ minus 18 ∷ [])
      ∷ (plus 19 ∷ minus 28 ∷ [])
      ∷ (minus 19 ∷ plus 20 ∷ [])
      ∷ (plus 7 ∷ minus 20 ∷ [])
      ∷ (plus 21 ∷ minus 29 ∷ [])
      ∷ (minus 21 ∷ plus 22 ∷ [])
      ∷ (plus 10 ∷ minus 22 ∷ [])
      ∷ (plus 23 ∷ minus 30 ∷ [])
      ∷ (minus 23 ∷ plus 24 ∷ [])
      ∷ (plus 12 ∷ minus 24 ∷ [])
      ∷ (plus 25 ∷ minus 31 ∷ [])
      ∷ (minus 25 ∷ plus 26 ∷ [])
      ∷ (plus 4 ∷ plus 9 ∷ plus 14 ∷ minus 26 ∷ [])
      -- where contexts stand at the start
      ∷ (minus 0 ∷ plus 32 ∷ [])
      ∷ (minus 0 ∷ minus 4 ∷ plus 32 ∷ [])
      ∷ (minus 0 ∷ plus 32 ∷ [])
      -- begun blocks
      ∷ (minus 2 ∷ plus 27 ∷ [])
      ∷ (minus 2 ∷ plus 27 ∷ [])
      ∷ (minus 5 ∷ plus 28 ∷ [])
      ∷ (minus 5 ∷ minus 9 ∷ plus 28 ∷ [])
      ∷ (minus 7 ∷ plus 29 ∷ [])
      ∷ (minus 7 ∷ plus 29 ∷ [])
      ∷ (minus 10 ∷ plus 30 ∷ [])
      ∷ (minus 10 ∷ minus 14 ∷ plus 30 ∷ [])
      ∷ (minus 1 ∷ minus 6 ∷ minus 11 ∷ plus 31 ∷ [])
      ∷ (minus 1 ∷ minus 3 ∷ minus 6 ∷ minus 8 ∷ minus 11 ∷ minus 13 ∷ plus 31 ∷ [])
      -- sources
      ∷ (times (pos 970) 1 ∷ times (negsuc 19) 2 ∷ times (pos 970) 3 ∷ times (negsuc 19) 4 ∷ times (negsuc 19) 5 ∷ times (pos 970) 6
      ∷ times (negsuc 19) 7 ∷ times (pos 970) 8 ∷ times (negsuc 19) 9 ∷ times (negsuc 19) 10 ∷ times (pos 970) 11 ∷ times (negsuc 19) 12
      ∷ times (pos 970) 13 ∷ times (negsuc 19) 14 ∷ minus 15 ∷ minus 16 ∷ minus 17 ∷ minus 18 ∷ minus 19 ∷ minus 20 ∷ minus 21 ∷ minus 22
      ∷ minus 23 ∷ minus 24 ∷ minus 25 ∷ minus 26 ∷ [])
      ∷ []);
  rights = map pos (1 ∷ replicate 39 0 ++ (2000 ∷ []));
}

rows_of_t_case : rows_of plant states 0 ≡ rows_of_t
unfolding insn_at insn_of_word insn_under imm_of branch_of
rows_of_t_case = refl

-- ---- The rows of H

abbrev pub rows_of_h : RowsData
rows_of_h = record {
  costs = map pos (replicate 5 30 ++ (20 ∷ 30 ∷ 20 ∷ 30 ∷ 20 ∷ 30 ∷ 20 ∷ replicate 12 1 ++ (replicate 15 0)));
  rows = rows_over 39 (
      -- the activation has one start
      (plus 0 ∷ plus 1 ∷ plus 2 ∷ plus 3 ∷ [])
      -- states
      ∷ (minus 0 ∷ plus 5 ∷ [])
      ∷ (minus 1 ∷ plus 7 ∷ [])
      ∷ (minus 2 ∷ plus 9 ∷ [])
      ∷ (minus 3 ∷ plus 11 ∷ [])
      -- nodes
      ∷ (plus 12 ∷ minus 24 ∷ minus 29 ∷ [])
      ∷ (minus 12 ∷ plus 13 ∷ minus 30 ∷ [])
      ∷ (minus 13 ∷ minus 31 ∷ [])
      ∷ (plus 14 ∷ minus 25 ∷ [])
      ∷ (minus 14 ∷ plus 15 ∷ [])
      ∷ (minus 15 ∷ [])
      ∷ (plus 16 ∷ minus 26 ∷ minus 32 ∷ [])
      ∷ (minus 16 ∷ plus 17 ∷ minus 33 ∷ [])
      ∷ (minus 17 ∷ minus 34 ∷ [])
      ∷ (plus 18 ∷ minus 27 ∷ [])
      ∷ (minus 18 ∷ plus 19 ∷ [])
      ∷ (minus 19 ∷ [])
      ∷ (plus 20 ∷ minus 28 ∷ minus 35 ∷ [])
      ∷ (minus 20 ∷ plus 21 ∷ minus 36 ∷ [])
      ∷ (minus 21 ∷ minus 37 ∷ [])
      ∷ (plus 22 ∷ minus 38 ∷ [])
      ∷ (minus 22 ∷ plus 23 ∷ [])
      ∷ (plus 5 ∷ plus 7 ∷ plus 9 ∷ plus 11 ∷ minus 23 ∷ [])
      -- where contexts stand at the start
      ∷ (minus 0 ∷ plus 29 ∷ [])
      ∷ (plus 29 ∷ [])
      ∷ (minus 0 ∷ plus 30 ∷ [])
      ∷ (plus 30 ∷ [])
      ∷ (minus 0 ∷ plus 31 ∷ [])
      ∷ (plus 31 ∷ [])
      ∷ (minus 1 ∷ plus 32 ∷ [])
      ∷ (plus 32 ∷ [])
      ∷ (minus 1 ∷ plus 33 ∷ [])
      ∷ (plus 33 ∷ [])
      ∷ (minus 1 ∷ plus 34 ∷ [])
      ∷ (plus 34 ∷ [])
      ∷ (minus 2 ∷ plus 35 ∷ [])
      ∷ (plus 35 ∷ [])
      ∷ (minus 2 ∷ plus 36 ∷ [])
      ∷ (plus 36 ∷ [])
      ∷ (minus 2 ∷ plus 37 ∷ [])
      ∷ (plus 37 ∷ [])
      ∷ (minus 0 ∷ minus 1 ∷ minus 2 ∷ minus 3 ∷ plus 38 ∷ [])
      ∷ (minus 0 ∷ minus 1 ∷ minus 2 ∷ minus 3 ∷ minus 4 ∷ minus 6 ∷ minus 8 ∷ minus 10 ∷ plus 38 ∷ [])
      ∷ (minus 0 ∷ minus 1 ∷ minus 2 ∷ minus 3 ∷ plus 29 ∷ plus 30 ∷ plus 31 ∷ plus 32 ∷ plus 33 ∷ plus 34 ∷ plus 35 ∷ plus 36 ∷ plus 37 ∷ [])
      ∷ (minus 0 ∷ minus 1 ∷ minus 2 ∷ minus 3 ∷ plus 38 ∷ [])
      -- begun blocks
      ∷ (plus 24 ∷ [])
      ∷ (plus 24 ∷ [])
      ∷ (plus 25 ∷ [])
      ∷ (plus 25 ∷ [])
      ∷ (plus 26 ∷ [])
      ∷ (plus 26 ∷ [])
      ∷ (plus 27 ∷ [])
      ∷ (plus 27 ∷ [])
      ∷ (plus 28 ∷ [])
      ∷ (plus 28 ∷ [])
      -- sources
      ∷ (times (pos 970) 0 ∷ times (pos 970) 1 ∷ times (pos 970) 2 ∷ times (pos 970) 3 ∷ times (pos 970) 4 ∷ times (negsuc 19) 5 ∷ times (pos 970) 6
      ∷ times (negsuc 19) 7 ∷ times (pos 970) 8 ∷ times (negsuc 19) 9 ∷ times (pos 970) 10 ∷ times (negsuc 19) 11 ∷ minus 12 ∷ minus 13
      ∷ minus 14 ∷ minus 15 ∷ minus 16 ∷ minus 17 ∷ minus 18 ∷ minus 19 ∷ minus 20 ∷ minus 21 ∷ minus 22 ∷ minus 23 ∷ [])
      ∷ []);
  rights = map pos (1 ∷ replicate 54 0 ++ (2000 ∷ []));
}

rows_of_h_case : rows_of plant states 1 ≡ rows_of_h
unfolding insn_at insn_of_word insn_under imm_of branch_of
rows_of_h_case = refl

-- ---- A run: the alarm is taken between the two locks

abbrev pub run : List Event
run =
    asks (contexts.Task 0) (stands 0x138 []) TerminateTask 0 (ending (contexts.Task 0)) 20
    ∷ goes (contexts.Task 0) (stands 0x134 []) (stands 0x138 [])
    ∷ goes (contexts.Task 0) (stands 0x130 []) (stands 0x134 [])
    ∷ asks (contexts.Task 0) (stands 0x12c []) ResumeAllInterrupts 0 (going_on Done) 20
    ∷ goes (contexts.Task 0) (stands 0x128 []) (stands 0x12c [])
    ∷ goes (contexts.Task 0) (stands 0x124 []) (stands 0x128 [])
    ∷ asks (contexts.Task 0) (stands 0x120 []) SuspendAllInterrupts 0 (going_on Done) 20
    ∷ goes (contexts.Task 0) (stands 0x11c []) (stands 0x120 [])
    ∷ goes (contexts.Task 0) (stands 0x118 []) (stands 0x11c [])
    ∷ asks (contexts.Task 1) (stands 0x144 []) TerminateTask 0 (ending (contexts.Task 1)) 20
    ∷ goes (contexts.Task 1) (stands 0x140 []) (stands 0x144 [])
    ∷ goes (contexts.Task 1) (stands 0x13c []) (stands 0x140 [])
    ∷ takes 0 (Some (contexts.Task 1)) 30
    ∷ asks (contexts.Task 0) (stands 0x114 []) EnableAllInterrupts 0 (going_on Done) 20
    ∷ goes (contexts.Task 0) (stands 0x110 []) (stands 0x114 [])
    ∷ goes (contexts.Task 0) (stands 0x10c []) (stands 0x110 [])
    ∷ asks (contexts.Task 0) (stands 0x108 []) DisableAllInterrupts 0 (going_on Done) 20
    ∷ goes (contexts.Task 0) (stands 0x104 []) (stands 0x108 [])
    ∷ goes (contexts.Task 0) (stands 0x100 []) (stands 0x104 [])
    ∷ []

-- the columns of the activation of T that the newest step ends
abbrev pub uses_of_t : List ℕ
uses_of_t = 12 ∷ 24 ∷ 23 ∷ 30 ∷ 10 ∷ 22 ∷ 21 ∷ 29 ∷ 7 ∷ 20 ∷ 19 ∷ 9 ∷ 26 ∷ 25 ∷ 31 ∷ 6 ∷ 28 ∷ 5 ∷ 18 ∷ 17 ∷ 27 ∷ 2 ∷ 16 ∷ 15 ∷ 32 ∷ 0 ∷ []

t_uses_case : used plant 0 0 run ≡ Some (columns_at plant states 0 uses_of_t)
unfolding insn_at insn_of_word insn_under imm_of branch_of
t_uses_case = refl

t_costs_case : sum_by (cost plant) (columns_at plant states 0 uses_of_t) ≡ 162
unfolding insn_at insn_of_word insn_under imm_of branch_of
t_costs_case = refl

t_meets_case : meets_all plant states 0 (columns_at plant states 0 uses_of_t) ≡ true
unfolding insn_at insn_of_word insn_under imm_of branch_of
t_meets_case = refl

-- the columns of the activation of H that the newest step ends, when the run has 10 steps
abbrev pub uses_of_h : List ℕ
uses_of_h = 7 ∷ 23 ∷ 22 ∷ 38 ∷ 1 ∷ []

h_uses_case : used plant 1 0 (drop 9 run) ≡ Some (columns_at plant states 1 uses_of_h)
unfolding insn_at insn_of_word insn_under imm_of branch_of
h_uses_case = refl

h_costs_case : sum_by (cost plant) (columns_at plant states 1 uses_of_h) ≡ 52
unfolding insn_at insn_of_word insn_under imm_of branch_of
h_costs_case = refl

h_meets_case : meets_all plant states 1 (columns_at plant states 1 uses_of_h) ≡ true
unfolding insn_at insn_of_word insn_under imm_of branch_of
h_meets_case = refl
