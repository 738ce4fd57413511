-- A worked system with two modes: an alarm activates task H in the first, and in the second H is active at the start.
use Rattle.std.specs.Prelude.{◌≡◌, ℕ, true, false, List, [], ◌∷◌, ◌++◌, map, drop, codes, replicate, Some, None, pos, negsuc, sum_by, refl}
use Rattle.elf_image.specs.Image.{ImageData}
use Rattle.oil_model.specs.declared.system.System.{System}
use Rattle.timing_file.specs.declared.timing.Timing.{Timing}
use Rattle.rv32_decode.specs.Instructions.{insn_of_word, insn_under, imm_of, branch_of}
use Rattle.rv32_machine.specs.Code.{insn_at}
use Rattle.osek_kernel.specs.declared.context.Context.TheVariants as contexts
use Rattle.osek_kernel.specs.declared.service.Service.TheVariants.{TerminateTask}
use Rattle.osek_machine.specs.Events.{Event}
use Rattle.flow_graph.specs.Graph.{entries_of}
use Rattle.flow_graph.specs.Judging.{early_fault}
use Rattle.flow_graph.specs.declared.flow.Flow.{Flow}
use Rattle.wcet_atomic_blocks.specs.Blocks.{at_entry, beginnings}
use Rattle.wcet_atomic_blocks.specs.Plants.{PlantData}
use Rattle.abstract_sched.specs.declared.states.AbsState.{AbsState}
use Rattle.abstract_sched.specs.declared.states.TaskAt.TheVariants.{Suspended, At}
use Rattle.whole_rows.specs.Rows.{RowsData}
use Rattle.row_build.specs.Columns.{cost}
use Rattle.row_build.specs.Rows.{rows_of}
use Rattle.activation_windows.specs.Samples.Words.{image_at, symbol, task, scheduler, node, straight, serving, block, state, stands, goes, asks, ending, times, plus, minus, rows_over, columns_at, meets_all, used, used_so_far, leavings, faults}

abbrev pub system : System
system = record {
  tasks = task (codes "T") 1 (0 ∷ 1 ∷ []) ∷ task (codes "H") 2 (1 ∷ []) ∷ [];
  isrs = [];
  resources = scheduler 2 ∷ [];
  alarms = record { name = codes "Tick"; counter = 0; task = 1; cycle = 1000; modes = 0 ∷ [] } ∷ [];
  counters = codes "C" ∷ [];
  modes = codes "Main" ∷ codes "Other" ∷ [];
}

-- T at 0x100: li t0, 7; TerminateTask. H at 0x110: TerminateTask
abbrev pub image : ImageData
image =
    image_at 0x100 (0x00700293 ∷ 0x00000513 ∷ 0x00200893 ∷ 0x00000073 ∷ 0x00000513 ∷ 0x00200893 ∷ 0x00000073 ∷ [])
    (symbol (codes "Task_T") 0x100 ∷ symbol (codes "Task_H") 0x110 ∷ [])

abbrev pub timing : Timing
timing = record {
  classes = record { costs = replicate 8 1 };
  services = record { costs = replicate 13 20 };
  alarm = 30;
  interrupt = 10;
  ticks = record { name = codes "C"; number = 1 } ∷ [];
  distances = [];
  loops = [];
  taken = 1;
  extra = [];
}

abbrev pub flow : Flow
flow = record {
  nodes = node 0 [] 0x100 ∷ node 0 [] 0x104 ∷ node 0 [] 0x108 ∷ node 0 [] 0x10c ∷ node 1 [] 0x110 ∷ node 1 [] 0x114 ∷ node 1 [] 0x118 ∷ [];
  leaving = straight 1 ∷ straight 2 ∷ straight 3 ∷ serving 2 0 None ∷ straight 5 ∷ straight 6 ∷ serving 2 0 None ∷ [];
}

abbrev pub plant : PlantData
plant = record {
  image = image;
  system = system;
  timing = timing;
  flow = flow;
  blocks = record {
    blocks = block (at_entry 0 0) 0xf (3 ∷ []) ∷ block (at_entry 1 4) 0x70 (6 ∷ []) ∷ [];
    entries = 0 ∷ 1 ∷ [];
    afters = replicate 7 None;
  };
}

abbrev pub states : List AbsState
states =
    state (At 0 false [] ∷ Suspended ∷ []) None
    ∷ record (state (At 0 false [] ∷ At 1 false [] ∷ []) None) { mode = 1; disabled = false; suspended = 0 }
    ∷ state (At 0 false [] ∷ At 1 false [] ∷ []) None
    ∷ state (Suspended ∷ Suspended ∷ []) None
    ∷ record (state (At 0 false [] ∷ Suspended ∷ []) None) { mode = 1; disabled = false; suspended = 0 }
    ∷ state (Suspended ∷ At 1 false [] ∷ []) None
    ∷ record (state (Suspended ∷ Suspended ∷ []) None) { mode = 1; disabled = false; suspended = 0 }
    ∷ []

-- ---- The flow is that of the code, which has no fault, and the blocks begin where they do

early_case : early_fault system timing (entries_of image system) ≡ None
early_case = refl

leavings_case : leavings plant ≡ flow.leaving
unfolding insn_at insn_of_word insn_under imm_of branch_of
leavings_case = refl

faults_case : faults plant ≡ replicate 7 None
unfolding insn_at insn_of_word insn_under imm_of branch_of
faults_case = refl

beginnings_case : map (λ block. block.begin) plant.blocks.blocks ≡ beginnings flow (0 ∷ 4 ∷ [])
beginnings_case = refl

-- ---- The rows of T

abbrev pub rows_of_t : RowsData
rows_of_t = record {
  costs = map pos (0 ∷ 0 ∷ 30 ∷ 20 ∷ 20 ∷ 30 ∷ 20 ∷ 20 ∷ replicate 5 1 ++ (replicate 5 0));
  rows = rows_over 18 (
      -- the activation has one start
      (plus 0 ∷ plus 1 ∷ [])
      -- states
      ∷ (minus 0 ∷ plus 2 ∷ plus 3 ∷ minus 6 ∷ [])
      ∷ (minus 1 ∷ plus 4 ∷ [])
      ∷ (minus 2 ∷ plus 6 ∷ [])
      ∷ (minus 4 ∷ plus 7 ∷ [])
      -- nodes
      ∷ (plus 8 ∷ minus 14 ∷ [])
      ∷ (minus 8 ∷ plus 9 ∷ [])
      ∷ (minus 9 ∷ plus 10 ∷ [])
      ∷ (plus 3 ∷ plus 7 ∷ minus 10 ∷ [])
      ∷ (plus 11 ∷ minus 13 ∷ minus 15 ∷ [])
      ∷ (minus 11 ∷ plus 12 ∷ minus 16 ∷ [])
      ∷ (plus 4 ∷ plus 6 ∷ minus 12 ∷ minus 17 ∷ [])
      -- where contexts stand at the start
      ∷ (minus 0 ∷ minus 1 ∷ plus 14 ∷ [])
      ∷ (minus 0 ∷ minus 4 ∷ minus 6 ∷ plus 14 ∷ [])
      ∷ (minus 1 ∷ plus 15 ∷ [])
      ∷ (minus 1 ∷ minus 2 ∷ minus 5 ∷ plus 15 ∷ [])
      ∷ (minus 1 ∷ plus 16 ∷ [])
      ∷ (minus 1 ∷ minus 2 ∷ minus 5 ∷ plus 16 ∷ [])
      ∷ (minus 1 ∷ plus 17 ∷ [])
      ∷ (minus 1 ∷ minus 2 ∷ minus 5 ∷ plus 17 ∷ [])
      ∷ (minus 0 ∷ minus 1 ∷ plus 14 ∷ [])
      ∷ (minus 0 ∷ minus 1 ∷ plus 15 ∷ plus 16 ∷ plus 17 ∷ [])
      -- begun blocks
      ∷ (minus 2 ∷ plus 13 ∷ [])
      ∷ (minus 1 ∷ minus 2 ∷ minus 5 ∷ plus 13 ∷ [])
      -- sources
      ∷ (times (pos 970) 2 ∷ times (negsuc 19) 3 ∷ times (negsuc 19) 4 ∷ times (pos 970) 5 ∷ times (negsuc 19) 6 ∷ times (negsuc 19) 7 ∷ minus 8
      ∷ minus 9 ∷ minus 10 ∷ minus 11 ∷ minus 12 ∷ [])
      ∷ []);
  rights = map pos (1 ∷ replicate 23 0 ++ (2000 ∷ []));
}

rows_of_t_case : rows_of plant states 0 ≡ rows_of_t
unfolding insn_at insn_of_word insn_under imm_of branch_of
rows_of_t_case = refl

-- ---- The rows of H

abbrev pub rows_of_h : RowsData
rows_of_h = record {
  costs = map pos (0 ∷ 30 ∷ 30 ∷ 20 ∷ 30 ∷ 20 ∷ 30 ∷ 20 ∷ replicate 5 1 ++ (replicate 6 0));
  rows = rows_over 19 (
      -- the activation has one start
      (plus 0 ∷ plus 1 ∷ plus 2 ∷ [])
      -- states
      ∷ (minus 0 ∷ plus 3 ∷ [])
      ∷ (minus 1 ∷ plus 5 ∷ [])
      ∷ (minus 2 ∷ plus 7 ∷ [])
      -- nodes
      ∷ (plus 8 ∷ minus 13 ∷ minus 14 ∷ [])
      ∷ (minus 8 ∷ plus 9 ∷ minus 15 ∷ [])
      ∷ (minus 9 ∷ plus 10 ∷ minus 16 ∷ [])
      ∷ (minus 10 ∷ minus 17 ∷ [])
      ∷ (plus 11 ∷ minus 18 ∷ [])
      ∷ (minus 11 ∷ plus 12 ∷ [])
      ∷ (plus 3 ∷ plus 5 ∷ plus 7 ∷ minus 12 ∷ [])
      -- where contexts stand at the start
      ∷ (minus 0 ∷ minus 1 ∷ plus 14 ∷ [])
      ∷ (plus 14 ∷ [])
      ∷ (minus 0 ∷ minus 1 ∷ plus 15 ∷ [])
      ∷ (plus 15 ∷ [])
      ∷ (minus 0 ∷ minus 1 ∷ plus 16 ∷ [])
      ∷ (plus 16 ∷ [])
      ∷ (minus 0 ∷ minus 1 ∷ plus 17 ∷ [])
      ∷ (plus 17 ∷ [])
      ∷ (minus 0 ∷ minus 1 ∷ minus 2 ∷ plus 18 ∷ [])
      ∷ (minus 0 ∷ minus 1 ∷ minus 2 ∷ minus 4 ∷ minus 6 ∷ plus 18 ∷ [])
      ∷ (minus 0 ∷ minus 1 ∷ minus 2 ∷ plus 14 ∷ plus 15 ∷ plus 16 ∷ plus 17 ∷ [])
      ∷ (minus 0 ∷ minus 1 ∷ minus 2 ∷ plus 18 ∷ [])
      -- begun blocks
      ∷ (plus 13 ∷ [])
      ∷ (plus 13 ∷ [])
      -- sources
      ∷ (times (pos 970) 1 ∷ times (pos 970) 2 ∷ times (negsuc 19) 3 ∷ times (pos 970) 4 ∷ times (negsuc 19) 5 ∷ times (pos 970) 6
      ∷ times (negsuc 19) 7 ∷ minus 8 ∷ minus 9 ∷ minus 10 ∷ minus 11 ∷ minus 12 ∷ [])
      ∷ []);
  rights = map pos (1 ∷ replicate 24 0 ++ (2000 ∷ []));
}

rows_of_h_case : rows_of plant states 1 ≡ rows_of_h
unfolding insn_at insn_of_word insn_under imm_of branch_of
rows_of_h_case = refl

-- ---- A run in the second mode: H goes first

abbrev pub run : List Event
run =
    asks (contexts.Task 0) (stands 0x10c []) TerminateTask 0 (ending (contexts.Task 0)) 20
    ∷ goes (contexts.Task 0) (stands 0x108 []) (stands 0x10c [])
    ∷ goes (contexts.Task 0) (stands 0x104 []) (stands 0x108 [])
    ∷ goes (contexts.Task 0) (stands 0x100 []) (stands 0x104 [])
    ∷ asks (contexts.Task 1) (stands 0x118 []) TerminateTask 0 (ending (contexts.Task 1)) 20
    ∷ goes (contexts.Task 1) (stands 0x114 []) (stands 0x118 [])
    ∷ goes (contexts.Task 1) (stands 0x110 []) (stands 0x114 [])
    ∷ []

-- the columns of the activation of T that the newest step ends
abbrev pub uses_of_t : List ℕ
uses_of_t = 7 ∷ 10 ∷ 9 ∷ 8 ∷ 14 ∷ 4 ∷ 12 ∷ 11 ∷ 15 ∷ 1 ∷ []

t_uses_case : used plant 0 1 run ≡ Some (columns_at plant states 0 uses_of_t)
unfolding insn_at insn_of_word insn_under imm_of branch_of
t_uses_case = refl

t_costs_case : sum_by (cost plant) (columns_at plant states 0 uses_of_t) ≡ 45
unfolding insn_at insn_of_word insn_under imm_of branch_of
t_costs_case = refl

t_meets_case : meets_all plant states 0 (columns_at plant states 0 uses_of_t) ≡ true
unfolding insn_at insn_of_word insn_under imm_of branch_of
t_meets_case = refl

-- the columns of the activation of H that the newest step ends, when the run has 3 steps
abbrev pub uses_of_h : List ℕ
uses_of_h = 3 ∷ 12 ∷ 11 ∷ 18 ∷ 0 ∷ []

h_uses_case : used plant 1 1 (drop 4 run) ≡ Some (columns_at plant states 1 uses_of_h)
unfolding insn_at insn_of_word insn_under imm_of branch_of
h_uses_case = refl

h_costs_case : sum_by (cost plant) (columns_at plant states 1 uses_of_h) ≡ 22
unfolding insn_at insn_of_word insn_under imm_of branch_of
h_costs_case = refl

h_meets_case : meets_all plant states 1 (columns_at plant states 1 uses_of_h) ≡ true
unfolding insn_at insn_of_word insn_under imm_of branch_of
h_meets_case = refl

-- the columns of the activation of T that goes on, when the run has 2 steps
abbrev pub uses_of_t_waiting : List ℕ
uses_of_t_waiting = 12 ∷ 11 ∷ 15 ∷ 1 ∷ []

t_waiting_uses_case : used_so_far plant 0 1 (drop 5 run) ≡ Some (columns_at plant states 0 uses_of_t_waiting)
unfolding insn_at insn_of_word insn_under imm_of branch_of
t_waiting_uses_case = refl

t_waiting_costs_case : sum_by (cost plant) (columns_at plant states 0 uses_of_t_waiting) ≡ 2
unfolding insn_at insn_of_word insn_under imm_of branch_of
t_waiting_costs_case = refl

t_waiting_meets_case : meets_all plant states 0 (columns_at plant states 0 uses_of_t_waiting) ≡ true
unfolding insn_at insn_of_word insn_under imm_of branch_of
t_waiting_meets_case = refl
