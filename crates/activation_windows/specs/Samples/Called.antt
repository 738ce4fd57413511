-- A worked system: task T calls a function that goes round a loop and returns.
use Rattle.std.specs.Prelude.{◌≡◌, ℕ, true, false, List, [], ◌∷◌, ◌++◌, map, codes, replicate, Some, None, pos, negsuc, sum_by, refl}
use Rattle.elf_image.specs.Image.{ImageData}
use Rattle.oil_model.specs.declared.system.System.{System}
use Rattle.timing_file.specs.declared.timing.Timing.{Timing}
use Rattle.rv32_decode.specs.Instructions.{insn_of_word, insn_under, imm_of, branch_of}
use Rattle.rv32_machine.specs.Code.{insn_at}
use Rattle.osek_kernel.specs.declared.context.Context.TheVariants as contexts
use Rattle.osek_kernel.specs.declared.service.Service.TheVariants.{TerminateTask}
use Rattle.osek_machine.specs.Events.{Event}
use Rattle.flow_graph.specs.Graph.{entries_of}
use Rattle.flow_graph.specs.Judging.{early_fault}
use Rattle.flow_graph.specs.declared.edge.EdgeKind.TheVariants as kinds
use Rattle.flow_graph.specs.declared.flow.Flow.{Flow}
use Rattle.wcet_atomic_blocks.specs.Blocks.{at_entry, beginnings}
use Rattle.wcet_atomic_blocks.specs.Plants.{PlantData}
use Rattle.abstract_sched.specs.declared.states.AbsState.{AbsState}
use Rattle.abstract_sched.specs.declared.states.TaskAt.TheVariants.{Suspended, At}
use Rattle.whole_rows.specs.Rows.{RowsData}
use Rattle.row_build.specs.Columns.{cost}
use Rattle.row_build.specs.Rows.{rows_of}
use Rattle.activation_windows.specs.Samples.Words.{image_at, symbol, task, scheduler, node, along, straight, branch, serving, block, state, stands, with_register, goes, asks, ending, times, plus, minus, rows_over, columns_at, meets_all, used, leavings, faults}

abbrev pub system : System
system = record {
  tasks = task (codes "T") 1 (0 ∷ []) ∷ [];
  isrs = [];
  resources = scheduler 1 ∷ [];
  alarms = [];
  counters = [];
  modes = codes "Main" ∷ [];
}

-- T at 0x100 calls 0x110, then TerminateTask. At 0x110: a loop of addi t0, t0, -1 and bne t0, zero, -4; return
abbrev pub image : ImageData
image =
    image_at 0x100 (0x010000ef ∷ 0x00000513 ∷ 0x00200893 ∷ 0x00000073 ∷ 0xfff28293 ∷ 0xfe029ee3 ∷ 0x00008067 ∷ [])
    (symbol (codes "Task_T") 0x100 ∷ [])

abbrev pub timing : Timing
timing = record {
  classes = record { costs = replicate 8 1 };
  services = record { costs = replicate 13 10 };
  alarm = 10;
  interrupt = 10;
  ticks = [];
  distances = [];
  loops = record { from = 0x110; to = 0x114; bound = 3 } ∷ [];
  taken = 1;
  extra = [];
}

abbrev pub flow : Flow
flow = record {
  nodes = node 0 [] 0x100 ∷ node 0 [] 0x104 ∷ node 0 [] 0x108 ∷ node 0 [] 0x10c ∷ node 0 (0x100 ∷ []) 0x110 ∷ node 0 (0x100 ∷ []) 0x114
      ∷ node 0 (0x100 ∷ []) 0x118 ∷ [];
  leaving = along kinds.Call 4 ∷ straight 2 ∷ straight 3 ∷ serving 2 0 None ∷ straight 5 ∷ branch 6 4 ∷ along kinds.Return 1 ∷ [];
}

abbrev pub plant : PlantData
plant = record {
  image = image;
  system = system;
  timing = timing;
  flow = flow;
  blocks = record {
    blocks = block (at_entry 0 0) 0x7f (3 ∷ []) ∷ [];
    entries = 0 ∷ [];
    afters = replicate 7 None;
  };
}

abbrev pub states : List AbsState
states =
    state (At 0 false [] ∷ []) None
    ∷ state (Suspended ∷ []) None
    ∷ []

-- ---- The flow is that of the code, which has no fault, and the blocks begin where they do

early_case : early_fault system timing (entries_of image system) ≡ None
early_case = refl

leavings_case : leavings plant ≡ flow.leaving
unfolding insn_at insn_of_word insn_under imm_of branch_of
leavings_case = refl

faults_case : faults plant ≡ replicate 7 None
unfolding insn_at insn_of_word insn_under imm_of branch_of
faults_case = refl

beginnings_case : map (λ block. block.begin) plant.blocks.blocks ≡ beginnings flow (0 ∷ [])
beginnings_case = refl

-- ---- The rows of T

abbrev pub rows_of_t : RowsData
rows_of_t = record {
  costs = map pos (0 ∷ 10 ∷ replicate 7 1 ++ (0 ∷ []));
  rows = rows_over 10 (
      -- the activation has one start
      (plus 0 ∷ [])
      -- states
      ∷ (minus 0 ∷ plus 1 ∷ [])
      -- nodes
      ∷ (plus 2 ∷ minus 9 ∷ [])
      ∷ (plus 3 ∷ minus 8 ∷ [])
      ∷ (minus 3 ∷ plus 4 ∷ [])
      ∷ (plus 1 ∷ minus 4 ∷ [])
      ∷ (minus 2 ∷ plus 5 ∷ minus 7 ∷ [])
      ∷ (minus 5 ∷ plus 6 ∷ plus 7 ∷ [])
      ∷ (minus 6 ∷ plus 8 ∷ [])
      -- where contexts stand at the start
      ∷ (minus 0 ∷ plus 9 ∷ [])
      ∷ (minus 0 ∷ plus 9 ∷ [])
      ∷ (minus 0 ∷ plus 9 ∷ [])
      -- loops
      ∷ (times (negsuc 2) 2 ∷ plus 7 ∷ [])
      ∷ []);
  rights = map pos (1 ∷ replicate 12 0);
}

rows_of_t_case : rows_of plant states 0 ≡ rows_of_t
unfolding insn_at insn_of_word insn_under imm_of branch_of
rows_of_t_case = refl

-- ---- A run: the loop is gone round once

abbrev pub run : List Event
run =
    asks (contexts.Task 0) (stands 0x10c []) TerminateTask 0 (ending (contexts.Task 0)) 10
    ∷ goes (contexts.Task 0) (stands 0x108 []) (stands 0x10c [])
    ∷ goes (contexts.Task 0) (stands 0x104 []) (stands 0x108 [])
    ∷ goes (contexts.Task 0) (stands 0x118 (0x100 ∷ [])) (stands 0x104 [])
    ∷ goes (contexts.Task 0) (stands 0x114 (0x100 ∷ [])) (stands 0x118 (0x100 ∷ []))
    ∷ goes (contexts.Task 0) (stands 0x110 (0x100 ∷ [])) (stands 0x114 (0x100 ∷ []))
    ∷ goes (contexts.Task 0) (with_register 5 1 (stands 0x114 (0x100 ∷ []))) (stands 0x110 (0x100 ∷ []))
    ∷ goes (contexts.Task 0) (stands 0x110 (0x100 ∷ [])) (stands 0x114 (0x100 ∷ []))
    ∷ goes (contexts.Task 0) (stands 0x100 []) (stands 0x110 (0x100 ∷ []))
    ∷ []

-- the columns of the activation of T that the newest step ends
abbrev pub uses_of_t : List ℕ
uses_of_t = 1 ∷ 4 ∷ 3 ∷ 8 ∷ 6 ∷ 5 ∷ 7 ∷ 5 ∷ 2 ∷ 9 ∷ 0 ∷ []

t_uses_case : used plant 0 0 run ≡ Some (columns_at plant states 0 uses_of_t)
unfolding insn_at insn_of_word insn_under imm_of branch_of
t_uses_case = refl

t_costs_case : sum_by (cost plant) (columns_at plant states 0 uses_of_t) ≡ 18
unfolding insn_at insn_of_word insn_under imm_of branch_of
t_costs_case = refl

t_meets_case : meets_all plant states 0 (columns_at plant states 0 uses_of_t) ≡ true
unfolding insn_at insn_of_word insn_under imm_of branch_of
t_meets_case = refl
