-- A worked system: an alarm's task H preempts task T, which works on a register and ends.
use Rattle.std.specs.Prelude.{◌≡◌, ℕ, true, false, List, [], ◌∷◌, ◌++◌, map, drop, codes, replicate, Some, None, pos, negsuc, sum_by, refl}
use Rattle.elf_image.specs.Image.{ImageData}
use Rattle.oil_model.specs.declared.system.System.{System}
use Rattle.timing_file.specs.declared.timing.Timing.{Timing}
use Rattle.rv32_decode.specs.Instructions.{insn_of_word, insn_under, imm_of, branch_of}
use Rattle.rv32_machine.specs.Code.{insn_at}
use Rattle.osek_kernel.specs.declared.context.Context.TheVariants as contexts
use Rattle.osek_kernel.specs.declared.service.Service.TheVariants.{TerminateTask}
use Rattle.osek_machine.specs.Events.{Event}
use Rattle.flow_graph.specs.Graph.{entries_of}
use Rattle.flow_graph.specs.Judging.{early_fault}
use Rattle.flow_graph.specs.declared.flow.Flow.{Flow}
use Rattle.wcet_atomic_blocks.specs.Blocks.{at_entry, beginnings}
use Rattle.wcet_atomic_blocks.specs.Plants.{PlantData}
use Rattle.abstract_sched.specs.declared.states.AbsState.{AbsState}
use Rattle.abstract_sched.specs.declared.states.TaskAt.TheVariants.{Suspended, At}
use Rattle.whole_rows.specs.Rows.{RowsData}
use Rattle.row_build.specs.Columns.{cost}
use Rattle.row_build.specs.Rows.{rows_of}
use Rattle.activation_windows.specs.Samples.Words.{image_at, symbol, task, scheduler, node, straight, serving, block, state, stands, goes, asks, takes, ending, times, plus, minus, rows_over, columns_at, meets_all, used, used_so_far, leavings, faults}

abbrev pub system : System
system = record {
  tasks = task (codes "T") 1 (0 ∷ []) ∷ task (codes "H") 2 [] ∷ [];
  isrs = [];
  resources = scheduler 2 ∷ [];
  alarms = record { name = codes "Tick"; counter = 0; task = 1; cycle = 1000; modes = 0 ∷ [] } ∷ [];
  counters = codes "C" ∷ [];
  modes = codes "Main" ∷ [];
}

-- T at 0x100: li t0, 7; TerminateTask. H at 0x110: TerminateTask
abbrev pub image : ImageData
image =
    image_at 0x100 (0x00700293 ∷ 0x00000513 ∷ 0x00200893 ∷ 0x00000073 ∷ 0x00000513 ∷ 0x00200893 ∷ 0x00000073 ∷ [])
    (symbol (codes "Task_T") 0x100 ∷ symbol (codes "Task_H") 0x110 ∷ [])

abbrev pub timing : Timing
timing = record {
  classes = record { costs = replicate 8 1 };
  services = record { costs = replicate 13 20 };
  alarm = 30;
  interrupt = 10;
  ticks = record { name = codes "C"; number = 1 } ∷ [];
  distances = [];
  loops = [];
  taken = 1;
  extra = [];
}

abbrev pub flow : Flow
flow = record {
  nodes = node 0 [] 0x100 ∷ node 0 [] 0x104 ∷ node 0 [] 0x108 ∷ node 0 [] 0x10c ∷ node 1 [] 0x110 ∷ node 1 [] 0x114 ∷ node 1 [] 0x118 ∷ [];
  leaving = straight 1 ∷ straight 2 ∷ straight 3 ∷ serving 2 0 None ∷ straight 5 ∷ straight 6 ∷ serving 2 0 None ∷ [];
}

abbrev pub plant : PlantData
plant = record {
  image = image;
  system = system;
  timing = timing;
  flow = flow;
  blocks = record {
    blocks = block (at_entry 0 0) 0xf (3 ∷ []) ∷ block (at_entry 1 4) 0x70 (6 ∷ []) ∷ [];
    entries = 0 ∷ 1 ∷ [];
    afters = replicate 7 None;
  };
}

abbrev pub states : List AbsState
states =
    state (At 0 false [] ∷ Suspended ∷ []) None
    ∷ state (At 0 false [] ∷ At 1 false [] ∷ []) None
    ∷ state (Suspended ∷ Suspended ∷ []) None
    ∷ state (Suspended ∷ At 1 false [] ∷ []) None
    ∷ []

-- ---- The flow is that of the code, which has no fault, and the blocks begin where they do

early_case : early_fault system timing (entries_of image system) ≡ None
early_case = refl

leavings_case : leavings plant ≡ flow.leaving
unfolding insn_at insn_of_word insn_under imm_of branch_of
leavings_case = refl

faults_case : faults plant ≡ replicate 7 None
unfolding insn_at insn_of_word insn_under imm_of branch_of
faults_case = refl

beginnings_case : map (λ block. block.begin) plant.blocks.blocks ≡ beginnings flow (0 ∷ 4 ∷ [])
beginnings_case = refl

-- ---- The rows of T

abbrev pub rows_of_t : RowsData
rows_of_t = record {
  costs = map pos (0 ∷ 30 ∷ 20 ∷ 30 ∷ 20 ∷ replicate 5 1 ++ (0 ∷ 0 ∷ []));
  rows = rows_over 12 (
      -- the activation has one start
      (plus 0 ∷ [])
      -- states
      ∷ (minus 0 ∷ plus 1 ∷ plus 2 ∷ minus 4 ∷ [])
      ∷ (minus 1 ∷ plus 4 ∷ [])
      -- nodes
      ∷ (plus 5 ∷ minus 11 ∷ [])
      ∷ (minus 5 ∷ plus 6 ∷ [])
      ∷ (minus 6 ∷ plus 7 ∷ [])
      ∷ (plus 2 ∷ minus 7 ∷ [])
      ∷ (plus 8 ∷ minus 10 ∷ [])
      ∷ (minus 8 ∷ plus 9 ∷ [])
      ∷ (plus 4 ∷ minus 9 ∷ [])
      -- where contexts stand at the start
      ∷ (minus 0 ∷ plus 11 ∷ [])
      ∷ (minus 0 ∷ minus 4 ∷ plus 11 ∷ [])
      ∷ (minus 0 ∷ plus 11 ∷ [])
      -- begun blocks
      ∷ (minus 1 ∷ plus 10 ∷ [])
      ∷ (minus 1 ∷ minus 3 ∷ plus 10 ∷ [])
      -- sources
      ∷ (times (pos 970) 1 ∷ times (negsuc 19) 2 ∷ times (pos 970) 3 ∷ times (negsuc 19) 4 ∷ minus 5 ∷ minus 6 ∷ minus 7 ∷ minus 8 ∷ minus 9 ∷ [])
      ∷ []);
  rights = map pos (1 ∷ replicate 14 0 ++ (2000 ∷ []));
}

rows_of_t_case : rows_of plant states 0 ≡ rows_of_t
unfolding insn_at insn_of_word insn_under imm_of branch_of
rows_of_t_case = refl

-- ---- The rows of H

abbrev pub rows_of_h : RowsData
rows_of_h = record {
  costs = map pos (30 ∷ 30 ∷ 30 ∷ 20 ∷ 30 ∷ 20 ∷ replicate 5 1 ++ (replicate 6 0));
  rows = rows_over 17 (
      -- the activation has one start
      (plus 0 ∷ plus 1 ∷ [])
      -- states
      ∷ (minus 0 ∷ plus 3 ∷ [])
      ∷ (minus 1 ∷ plus 5 ∷ [])
      -- nodes
      ∷ (plus 6 ∷ minus 11 ∷ minus 12 ∷ [])
      ∷ (minus 6 ∷ plus 7 ∷ minus 13 ∷ [])
      ∷ (minus 7 ∷ plus 8 ∷ minus 14 ∷ [])
      ∷ (minus 8 ∷ minus 15 ∷ [])
      ∷ (plus 9 ∷ minus 16 ∷ [])
      ∷ (minus 9 ∷ plus 10 ∷ [])
      ∷ (plus 3 ∷ plus 5 ∷ minus 10 ∷ [])
      -- where contexts stand at the start
      ∷ (minus 0 ∷ plus 12 ∷ [])
      ∷ (plus 12 ∷ [])
      ∷ (minus 0 ∷ plus 13 ∷ [])
      ∷ (plus 13 ∷ [])
      ∷ (minus 0 ∷ plus 14 ∷ [])
      ∷ (plus 14 ∷ [])
      ∷ (minus 0 ∷ plus 15 ∷ [])
      ∷ (plus 15 ∷ [])
      ∷ (minus 0 ∷ minus 1 ∷ plus 16 ∷ [])
      ∷ (minus 0 ∷ minus 1 ∷ minus 2 ∷ minus 4 ∷ plus 16 ∷ [])
      ∷ (minus 0 ∷ minus 1 ∷ plus 12 ∷ plus 13 ∷ plus 14 ∷ plus 15 ∷ [])
      ∷ (minus 0 ∷ minus 1 ∷ plus 16 ∷ [])
      -- begun blocks
      ∷ (plus 11 ∷ [])
      ∷ (plus 11 ∷ [])
      -- sources
      ∷ (times (pos 970) 0 ∷ times (pos 970) 1 ∷ times (pos 970) 2 ∷ times (negsuc 19) 3 ∷ times (pos 970) 4 ∷ times (negsuc 19) 5 ∷ minus 6
      ∷ minus 7 ∷ minus 8 ∷ minus 9 ∷ minus 10 ∷ [])
      ∷ []);
  rights = map pos (1 ∷ replicate 23 0 ++ (2000 ∷ []));
}

rows_of_h_case : rows_of plant states 1 ≡ rows_of_h
unfolding insn_at insn_of_word insn_under imm_of branch_of
rows_of_h_case = refl

-- ---- A run: T is preempted behind its second instruction

abbrev pub run : List Event
run =
    asks (contexts.Task 0) (stands 0x10c []) TerminateTask 0 (ending (contexts.Task 0)) 20
    ∷ goes (contexts.Task 0) (stands 0x108 []) (stands 0x10c [])
    ∷ asks (contexts.Task 1) (stands 0x118 []) TerminateTask 0 (ending (contexts.Task 1)) 20
    ∷ goes (contexts.Task 1) (stands 0x114 []) (stands 0x118 [])
    ∷ goes (contexts.Task 1) (stands 0x110 []) (stands 0x114 [])
    ∷ takes 0 (Some (contexts.Task 1)) 30
    ∷ goes (contexts.Task 0) (stands 0x104 []) (stands 0x108 [])
    ∷ goes (contexts.Task 0) (stands 0x100 []) (stands 0x104 [])
    ∷ []

-- the columns of the activation of T that the newest step ends
abbrev pub uses_of_t : List ℕ
uses_of_t = 2 ∷ 7 ∷ 4 ∷ 9 ∷ 8 ∷ 10 ∷ 1 ∷ 6 ∷ 5 ∷ 11 ∷ 0 ∷ []

t_uses_case : used plant 0 0 run ≡ Some (columns_at plant states 0 uses_of_t)
unfolding insn_at insn_of_word insn_under imm_of branch_of
t_uses_case = refl

t_costs_case : sum_by (cost plant) (columns_at plant states 0 uses_of_t) ≡ 75
unfolding insn_at insn_of_word insn_under imm_of branch_of
t_costs_case = refl

t_meets_case : meets_all plant states 0 (columns_at plant states 0 uses_of_t) ≡ true
unfolding insn_at insn_of_word insn_under imm_of branch_of
t_meets_case = refl

-- the columns of the activation of H that the newest step ends, when the run has 6 steps
abbrev pub uses_of_h : List ℕ
uses_of_h = 3 ∷ 10 ∷ 9 ∷ 16 ∷ 0 ∷ []

h_uses_case : used plant 1 0 (drop 2 run) ≡ Some (columns_at plant states 1 uses_of_h)
unfolding insn_at insn_of_word insn_under imm_of branch_of
h_uses_case = refl

h_costs_case : sum_by (cost plant) (columns_at plant states 1 uses_of_h) ≡ 52
unfolding insn_at insn_of_word insn_under imm_of branch_of
h_costs_case = refl

h_meets_case : meets_all plant states 1 (columns_at plant states 1 uses_of_h) ≡ true
unfolding insn_at insn_of_word insn_under imm_of branch_of
h_meets_case = refl

-- the columns of the activation of T that goes on, when the run has 5 steps
abbrev pub uses_of_t_meanwhile : List ℕ
uses_of_t_meanwhile = 9 ∷ 8 ∷ 10 ∷ 1 ∷ 6 ∷ 5 ∷ 11 ∷ 0 ∷ []

t_meanwhile_uses_case : used_so_far plant 0 0 (drop 3 run) ≡ Some (columns_at plant states 0 uses_of_t_meanwhile)
unfolding insn_at insn_of_word insn_under imm_of branch_of
t_meanwhile_uses_case = refl

t_meanwhile_costs_case : sum_by (cost plant) (columns_at plant states 0 uses_of_t_meanwhile) ≡ 34
unfolding insn_at insn_of_word insn_under imm_of branch_of
t_meanwhile_costs_case = refl

t_meanwhile_meets_case : meets_all plant states 0 (columns_at plant states 0 uses_of_t_meanwhile) ≡ true
unfolding insn_at insn_of_word insn_under imm_of branch_of
t_meanwhile_meets_case = refl
