-- A worked system: task T can't be preempted but where it calls Schedule, and an alarm activates task H.
use Rattle.std.specs.Prelude.{◌≡◌, ℕ, true, false, List, [], ◌∷◌, ◌++◌, map, drop, codes, replicate, Some, None, pos, negsuc, sum_by, refl}
use Rattle.elf_image.specs.Image.{ImageData}
use Rattle.oil_model.specs.declared.system.System.{System}
use Rattle.timing_file.specs.declared.timing.Timing.{Timing}
use Rattle.rv32_decode.specs.Instructions.{insn_of_word, insn_under, imm_of, branch_of}
use Rattle.rv32_machine.specs.Code.{insn_at}
use Rattle.osek_kernel.specs.declared.context.Context.TheVariants as contexts
use Rattle.osek_kernel.specs.declared.service.Code.TheVariants.{Done}
use Rattle.osek_kernel.specs.declared.service.Service.TheVariants.{TerminateTask, Schedule}
use Rattle.osek_kernel.specs.Served.{going_on}
use Rattle.osek_machine.specs.Events.{Event}
use Rattle.flow_graph.specs.Graph.{entries_of}
use Rattle.flow_graph.specs.Judging.{early_fault}
use Rattle.flow_graph.specs.declared.flow.Flow.{Flow}
use Rattle.wcet_atomic_blocks.specs.Blocks.{at_entry, behind, beginnings}
use Rattle.wcet_atomic_blocks.specs.Plants.{PlantData}
use Rattle.abstract_sched.specs.declared.states.AbsState.{AbsState}
use Rattle.abstract_sched.specs.declared.states.TaskAt.TheVariants.{Suspended, At}
use Rattle.whole_rows.specs.Rows.{RowsData}
use Rattle.row_build.specs.Columns.{cost}
use Rattle.row_build.specs.Rows.{rows_of}
use Rattle.activation_windows.specs.Samples.Words.{image_at, symbol, task, scheduler, node, straight, serving, block, state, stands, goes, asks, takes, ending, times, plus, minus, rows_over, columns_at, meets_all, used, used_so_far, leavings, faults}

abbrev pub system : System
system = record {
  tasks = record (task (codes "T") 1 (0 ∷ [])) { inner = Some 2 } ∷ task (codes "H") 2 [] ∷ [];
  isrs = [];
  resources = scheduler 2 ∷ [];
  alarms = record { name = codes "Tick"; counter = 0; task = 1; cycle = 1000; modes = 0 ∷ [] } ∷ [];
  counters = codes "C" ∷ [];
  modes = codes "Main" ∷ [];
}

-- T at 0x100: Schedule; TerminateTask. H at 0x118: TerminateTask
abbrev pub image : ImageData
image =
    image_at 0x100
    (0x00000513 ∷ 0x00c00893 ∷ 0x00000073 ∷ 0x00000513 ∷ 0x00200893 ∷ 0x00000073 ∷ 0x00000513 ∷ 0x00200893 ∷ 0x00000073 ∷ [])
    (symbol (codes "Task_T") 0x100 ∷ symbol (codes "Task_H") 0x118 ∷ [])

abbrev pub timing : Timing
timing = record {
  classes = record { costs = replicate 8 1 };
  services = record { costs = replicate 13 20 };
  alarm = 30;
  interrupt = 10;
  ticks = record { name = codes "C"; number = 1 } ∷ [];
  distances = [];
  loops = [];
  taken = 1;
  extra = [];
}

abbrev pub flow : Flow
flow = record {
  nodes = node 0 [] 0x100 ∷ node 0 [] 0x104 ∷ node 0 [] 0x108 ∷ node 0 [] 0x10c ∷ node 0 [] 0x110 ∷ node 0 [] 0x114 ∷ node 1 [] 0x118
      ∷ node 1 [] 0x11c ∷ node 1 [] 0x120 ∷ [];
  leaving = straight 1 ∷ straight 2 ∷ serving 12 0 (Some 3) ∷ straight 4 ∷ straight 5 ∷ serving 2 0 None ∷ straight 7 ∷ straight 8
      ∷ serving 2 0 None ∷ [];
}

abbrev pub plant : PlantData
plant = record {
  image = image;
  system = system;
  timing = timing;
  flow = flow;
  blocks = record {
    blocks = block (at_entry 0 0) 0x7 (2 ∷ []) ∷ block (behind 0 2 3) 0x38 (5 ∷ [])
        ∷ block (at_entry 1 6) 0x1c0 (8 ∷ []) ∷ [];
    entries = 0 ∷ 2 ∷ [];
    afters = None ∷ None ∷ Some 1 ∷ replicate 6 None;
  };
}

abbrev pub states : List AbsState
states =
    state (At 0 true [] ∷ Suspended ∷ []) None
    ∷ state (At 0 true [] ∷ At 2 false [] ∷ []) None
    ∷ state (At 1 true [] ∷ Suspended ∷ []) None
    ∷ state (At 1 false [] ∷ At 2 false [] ∷ []) None
    ∷ state (At 1 true [] ∷ At 2 false [] ∷ []) None
    ∷ state (Suspended ∷ Suspended ∷ []) None
    ∷ state (Suspended ∷ At 2 false [] ∷ []) None
    ∷ []

-- ---- The flow is that of the code, which has no fault, and the blocks begin where they do

early_case : early_fault system timing (entries_of image system) ≡ None
early_case = refl

leavings_case : leavings plant ≡ flow.leaving
unfolding insn_at insn_of_word insn_under imm_of branch_of
leavings_case = refl

faults_case : faults plant ≡ replicate 9 None
unfolding insn_at insn_of_word insn_under imm_of branch_of
faults_case = refl

beginnings_case : map (λ block. block.begin) plant.blocks.blocks ≡ beginnings flow (0 ∷ 6 ∷ [])
beginnings_case = refl

-- ---- The rows of T

abbrev pub rows_of_t : RowsData
rows_of_t = record {
  costs = map pos (0 ∷ 30 ∷ 20 ∷ 30 ∷ 20 ∷ 30 ∷ 20 ∷ 30 ∷ 20 ∷ 30 ∷ 20 ∷ replicate 6 1 ++ (0 ∷ 0 ∷ 0 ∷ []));
  rows = rows_over 20 (
      -- the activation has one start
      (plus 0 ∷ [])
      -- states
      ∷ (minus 0 ∷ plus 1 ∷ plus 2 ∷ [])
      ∷ (minus 1 ∷ plus 4 ∷ [])
      ∷ (minus 2 ∷ plus 5 ∷ plus 6 ∷ minus 8 ∷ [])
      ∷ (minus 4 ∷ plus 8 ∷ [])
      ∷ (minus 5 ∷ plus 10 ∷ [])
      -- nodes
      ∷ (plus 11 ∷ minus 19 ∷ [])
      ∷ (minus 11 ∷ plus 12 ∷ [])
      ∷ (plus 2 ∷ plus 4 ∷ minus 12 ∷ [])
      ∷ (plus 13 ∷ minus 17 ∷ [])
      ∷ (minus 13 ∷ plus 14 ∷ [])
      ∷ (plus 6 ∷ plus 10 ∷ minus 14 ∷ [])
      ∷ (plus 15 ∷ minus 18 ∷ [])
      ∷ (minus 15 ∷ plus 16 ∷ [])
      ∷ (plus 8 ∷ minus 16 ∷ [])
      -- where contexts stand at the start
      ∷ (minus 0 ∷ plus 19 ∷ [])
      ∷ (minus 0 ∷ minus 1 ∷ minus 3 ∷ plus 19 ∷ [])
      ∷ (minus 0 ∷ plus 19 ∷ [])
      -- begun blocks
      ∷ (minus 2 ∷ minus 4 ∷ plus 17 ∷ [])
      ∷ (minus 2 ∷ minus 5 ∷ minus 8 ∷ minus 9 ∷ plus 17 ∷ [])
      ∷ (minus 1 ∷ minus 5 ∷ plus 18 ∷ [])
      ∷ (minus 4 ∷ minus 7 ∷ plus 18 ∷ [])
      -- sources
      ∷ (times (pos 970) 1 ∷ times (negsuc 19) 2 ∷ times (pos 970) 3 ∷ times (negsuc 19) 4 ∷ times (pos 970) 5 ∷ times (negsuc 19) 6
      ∷ times (pos 970) 7 ∷ times (negsuc 19) 8 ∷ times (pos 970) 9 ∷ times (negsuc 19) 10 ∷ minus 11 ∷ minus 12 ∷ minus 13 ∷ minus 14
      ∷ minus 15 ∷ minus 16 ∷ [])
      ∷ []);
  rights = map pos (1 ∷ replicate 21 0 ++ (2000 ∷ []));
}

rows_of_t_case : rows_of plant states 0 ≡ rows_of_t
unfolding insn_at insn_of_word insn_under imm_of branch_of
rows_of_t_case = refl

-- ---- The rows of H

abbrev pub rows_of_h : RowsData
rows_of_h = record {
  costs = map pos (replicate 4 30 ++ (20 ∷ 30 ∷ 20 ∷ 30 ∷ 20 ∷ 30 ∷ 20 ∷ replicate 6 1 ++ (replicate 9 0)));
  rows = rows_over 26 (
      -- the activation has one start
      (plus 0 ∷ plus 1 ∷ plus 2 ∷ [])
      -- states
      ∷ (minus 0 ∷ plus 4 ∷ [])
      ∷ (minus 4 ∷ plus 6 ∷ [])
      ∷ (minus 1 ∷ plus 8 ∷ [])
      ∷ (minus 2 ∷ minus 8 ∷ plus 10 ∷ [])
      -- nodes
      ∷ (plus 11 ∷ minus 17 ∷ minus 19 ∷ [])
      ∷ (minus 11 ∷ plus 12 ∷ minus 20 ∷ [])
      ∷ (plus 4 ∷ minus 12 ∷ minus 21 ∷ [])
      ∷ (plus 13 ∷ minus 18 ∷ minus 22 ∷ [])
      ∷ (minus 13 ∷ plus 14 ∷ minus 23 ∷ [])
      ∷ (plus 8 ∷ minus 14 ∷ minus 24 ∷ [])
      ∷ (plus 15 ∷ minus 25 ∷ [])
      ∷ (minus 15 ∷ plus 16 ∷ [])
      ∷ (plus 6 ∷ plus 10 ∷ minus 16 ∷ [])
      -- where contexts stand at the start
      ∷ (minus 0 ∷ plus 19 ∷ [])
      ∷ (minus 0 ∷ minus 3 ∷ plus 19 ∷ [])
      ∷ (minus 0 ∷ plus 20 ∷ [])
      ∷ (minus 0 ∷ minus 3 ∷ plus 20 ∷ [])
      ∷ (minus 0 ∷ plus 21 ∷ [])
      ∷ (minus 0 ∷ minus 3 ∷ plus 21 ∷ [])
      ∷ (minus 1 ∷ plus 22 ∷ [])
      ∷ (minus 1 ∷ minus 7 ∷ plus 22 ∷ [])
      ∷ (minus 1 ∷ plus 23 ∷ [])
      ∷ (minus 1 ∷ minus 7 ∷ plus 23 ∷ [])
      ∷ (minus 1 ∷ plus 24 ∷ [])
      ∷ (minus 1 ∷ minus 7 ∷ plus 24 ∷ [])
      ∷ (minus 0 ∷ minus 1 ∷ minus 2 ∷ plus 25 ∷ [])
      ∷ (minus 2 ∷ minus 4 ∷ minus 5 ∷ minus 8 ∷ minus 9 ∷ plus 25 ∷ [])
      ∷ (minus 0 ∷ minus 1 ∷ minus 2 ∷ plus 19 ∷ plus 20 ∷ plus 21 ∷ plus 22 ∷ plus 23 ∷ plus 24 ∷ [])
      ∷ (minus 0 ∷ minus 1 ∷ minus 2 ∷ plus 25 ∷ [])
      -- begun blocks
      ∷ (plus 17 ∷ [])
      ∷ (minus 0 ∷ minus 3 ∷ plus 17 ∷ [])
      ∷ (minus 4 ∷ plus 18 ∷ [])
      ∷ (minus 1 ∷ minus 7 ∷ plus 18 ∷ [])
      -- sources
      ∷ (times (pos 970) 0 ∷ times (pos 970) 1 ∷ times (pos 970) 2 ∷ times (pos 970) 3 ∷ times (negsuc 19) 4 ∷ times (pos 970) 5
      ∷ times (negsuc 19) 6 ∷ times (pos 970) 7 ∷ times (negsuc 19) 8 ∷ times (pos 970) 9 ∷ times (negsuc 19) 10 ∷ minus 11 ∷ minus 12
      ∷ minus 13 ∷ minus 14 ∷ minus 15 ∷ minus 16 ∷ [])
      ∷ []);
  rights = map pos (1 ∷ replicate 33 0 ++ (2000 ∷ []));
}

rows_of_h_case : rows_of plant states 1 ≡ rows_of_h
unfolding insn_at insn_of_word insn_under imm_of branch_of
rows_of_h_case = refl

-- ---- A run: the alarm comes before T calls Schedule

abbrev pub run : List Event
run =
    asks (contexts.Task 0) (stands 0x114 []) TerminateTask 0 (ending (contexts.Task 0)) 20
    ∷ goes (contexts.Task 0) (stands 0x110 []) (stands 0x114 [])
    ∷ goes (contexts.Task 0) (stands 0x10c []) (stands 0x110 [])
    ∷ asks (contexts.Task 1) (stands 0x120 []) TerminateTask 0 (ending (contexts.Task 1)) 20
    ∷ goes (contexts.Task 1) (stands 0x11c []) (stands 0x120 [])
    ∷ goes (contexts.Task 1) (stands 0x118 []) (stands 0x11c [])
    ∷ asks (contexts.Task 0) (stands 0x108 []) Schedule 0 (going_on Done) 20
    ∷ goes (contexts.Task 0) (stands 0x104 []) (stands 0x108 [])
    ∷ takes 0 (Some (contexts.Task 1)) 30
    ∷ goes (contexts.Task 0) (stands 0x100 []) (stands 0x104 [])
    ∷ []

-- the columns of the activation of T that the newest step ends
abbrev pub uses_of_t : List ℕ
uses_of_t = 6 ∷ 14 ∷ 13 ∷ 17 ∷ 8 ∷ 16 ∷ 15 ∷ 18 ∷ 4 ∷ 12 ∷ 1 ∷ 11 ∷ 19 ∷ 0 ∷ []

t_uses_case : used plant 0 0 run ≡ Some (columns_at plant states 0 uses_of_t)
unfolding insn_at insn_of_word insn_under imm_of branch_of
t_uses_case = refl

t_costs_case : sum_by (cost plant) (columns_at plant states 0 uses_of_t) ≡ 96
unfolding insn_at insn_of_word insn_under imm_of branch_of
t_costs_case = refl

t_meets_case : meets_all plant states 0 (columns_at plant states 0 uses_of_t) ≡ true
unfolding insn_at insn_of_word insn_under imm_of branch_of
t_meets_case = refl

-- the columns of the activation of H that the newest step ends, when the run has 7 steps
abbrev pub uses_of_h : List ℕ
uses_of_h = 6 ∷ 16 ∷ 15 ∷ 25 ∷ 4 ∷ 12 ∷ 20 ∷ 0 ∷ []

h_uses_case : used plant 1 0 (drop 3 run) ≡ Some (columns_at plant states 1 uses_of_h)
unfolding insn_at insn_of_word insn_under imm_of branch_of
h_uses_case = refl

h_costs_case : sum_by (cost plant) (columns_at plant states 1 uses_of_h) ≡ 73
unfolding insn_at insn_of_word insn_under imm_of branch_of
h_costs_case = refl

h_meets_case : meets_all plant states 1 (columns_at plant states 1 uses_of_h) ≡ true
unfolding insn_at insn_of_word insn_under imm_of branch_of
h_meets_case = refl

-- the columns of the activation of H that goes on, when the run has 2 steps
abbrev pub uses_of_h_waiting : List ℕ
uses_of_h_waiting = 20 ∷ 0 ∷ []

h_waiting_uses_case : used_so_far plant 1 0 (drop 8 run) ≡ Some (columns_at plant states 1 uses_of_h_waiting)
unfolding insn_at insn_of_word insn_under imm_of branch_of
h_waiting_uses_case = refl

h_waiting_costs_case : sum_by (cost plant) (columns_at plant states 1 uses_of_h_waiting) ≡ 30
unfolding insn_at insn_of_word insn_under imm_of branch_of
h_waiting_costs_case = refl

h_waiting_meets_case : meets_all plant states 1 (columns_at plant states 1 uses_of_h_waiting) ≡ true
unfolding insn_at insn_of_word insn_under imm_of branch_of
h_waiting_meets_case = refl
