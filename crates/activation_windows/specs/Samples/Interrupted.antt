-- A worked system: an interrupt activates task T while task L, in a loop, holds the resource that T names too.
use Rattle.std.specs.Prelude.{◌≡◌, ℕ, true, false, List, [], ◌∷◌, ◌++◌, map, drop, codes, replicate, Some, None, pos, negsuc, sum_by, refl}
use Rattle.elf_image.specs.Image.{ImageData}
use Rattle.oil_model.specs.declared.system.System.{System}
use Rattle.timing_file.specs.declared.timing.Timing.{Timing}
use Rattle.rv32_decode.specs.Instructions.{insn_of_word, insn_under, imm_of, branch_of}
use Rattle.rv32_machine.specs.Code.{insn_at}
use Rattle.osek_kernel.specs.declared.context.Context.TheVariants as contexts
use Rattle.osek_kernel.specs.declared.service.Code.TheVariants.{Done}
use Rattle.osek_kernel.specs.declared.service.Service.TheVariants.{ActivateTask, TerminateTask, GetResource, ReleaseResource, EndIsr}
use Rattle.osek_kernel.specs.Served.{going_on}
use Rattle.osek_machine.specs.Events.{Event}
use Rattle.flow_graph.specs.Graph.{entries_of}
use Rattle.flow_graph.specs.Judging.{early_fault}
use Rattle.flow_graph.specs.declared.flow.Flow.{Flow}
use Rattle.wcet_atomic_blocks.specs.Blocks.{at_entry, behind, beginnings}
use Rattle.wcet_atomic_blocks.specs.Plants.{PlantData}
use Rattle.abstract_sched.specs.declared.states.AbsState.{AbsState}
use Rattle.abstract_sched.specs.declared.states.TaskAt.TheVariants.{Suspended, At}
use Rattle.whole_rows.specs.Rows.{RowsData}
use Rattle.row_build.specs.Columns.{cost}
use Rattle.row_build.specs.Rows.{rows_of}
use Rattle.activation_windows.specs.Samples.Words.{image_at, symbol, task, scheduler, node, straight, branch, serving, block, state, isr_at, stands, with_register, goes, asks, takes, ending, activating, times, plus, minus, rows_over, columns_at, meets_all, used, leavings, faults}

abbrev pub system : System
system = record {
  tasks = record (task (codes "L") 1 (0 ∷ [])) { resources = 0 ∷ [] } ∷ record (task (codes "T") 2 []) { resources = 0 ∷ [] } ∷ [];
  isrs = record { name = codes "I" } ∷ [];
  resources = record { name = codes "R"; ceiling = 2; internal = false } ∷ scheduler 2 ∷ [];
  alarms = [];
  counters = [];
  modes = codes "Main" ∷ [];
}

-- L at 0x100: GetResource R; a loop of addi t0, t0, -1 and bne t0, zero, -4; ReleaseResource R; TerminateTask
abbrev words_of_l : List ℕ
words_of_l =
    0x00000513 ∷ 0x00400893 ∷ 0x00000073 ∷ 0xfff28293 ∷ 0xfe029ee3 ∷ 0x00000513 ∷ 0x00500893 ∷ 0x00000073 ∷ 0x00000513 ∷ 0x00200893
    ∷ 0x00000073 ∷ []

-- T at 0x12c: TerminateTask
abbrev words_of_t : List ℕ
words_of_t = 0x00000513 ∷ 0x00200893 ∷ 0x00000073 ∷ []

-- I at 0x138: ActivateTask T; EndISR
abbrev words_of_i : List ℕ
words_of_i = 0x00100513 ∷ 0x00100893 ∷ 0x00000073 ∷ 0x00000513 ∷ 0x00f00893 ∷ 0x00000073 ∷ []

abbrev pub image : ImageData
image =
    image_at 0x100 (words_of_l ++ (words_of_t ++ words_of_i))
    (symbol (codes "Task_L") 0x100 ∷ symbol (codes "Task_T") 0x12c ∷ symbol (codes "Isr_I") 0x138 ∷ [])

abbrev pub timing : Timing
timing = record {
  classes = record { costs = replicate 8 1 };
  services = record { costs = replicate 13 10 };
  alarm = 10;
  interrupt = 10;
  ticks = [];
  distances = record { name = codes "I"; number = 100000 } ∷ [];
  loops = record { from = 0x10c; to = 0x110; bound = 4 } ∷ [];
  taken = 1;
  extra = [];
}

abbrev pub flow : Flow
flow = record {
  nodes = node 0 [] 0x100 ∷ node 0 [] 0x104 ∷ node 0 [] 0x108 ∷ node 0 [] 0x10c ∷ node 0 [] 0x110 ∷ node 0 [] 0x114 ∷ node 0 [] 0x118
      ∷ node 0 [] 0x11c ∷ node 0 [] 0x120 ∷ node 0 [] 0x124 ∷ node 0 [] 0x128 ∷ node 1 [] 0x12c ∷ node 1 [] 0x130 ∷ node 1 [] 0x134
      ∷ node 2 [] 0x138 ∷ node 2 [] 0x13c ∷ node 2 [] 0x140 ∷ node 2 [] 0x144 ∷ node 2 [] 0x148 ∷ node 2 [] 0x14c ∷ [];
  leaving = straight 1 ∷ straight 2 ∷ serving 4 0 (Some 3) ∷ straight 4 ∷ branch 5 3 ∷ straight 6 ∷ straight 7 ∷ serving 5 0 (Some 8) ∷ straight 9
      ∷ straight 10 ∷ serving 2 0 None ∷ straight 12 ∷ straight 13 ∷ serving 2 0 None ∷ straight 15 ∷ straight 16 ∷ serving 1 1 (Some 17)
      ∷ straight 18 ∷ straight 19 ∷ serving 15 0 None ∷ [];
}

abbrev pub plant : PlantData
plant = record {
  image = image;
  system = system;
  timing = timing;
  flow = flow;
  blocks = record {
    blocks = block (at_entry 0 0) 0x7 (2 ∷ []) ∷ block (behind 0 2 3) 0xf8 (7 ∷ [])
        ∷ block (behind 0 7 8) 0x700 (10 ∷ []) ∷ block (at_entry 1 11) 0x3800 (13 ∷ [])
        ∷ block (at_entry 2 14) 0x1c000 (16 ∷ []) ∷ block (behind 2 16 17) 0xe0000 (19 ∷ [])
        ∷ [];
    entries = 0 ∷ 3 ∷ 4 ∷ [];
    afters = None ∷ None ∷ Some 1 ∷ replicate 4 None ++ (Some 2 ∷ replicate 8 None ++ (Some 5 ∷ None ∷ None ∷ None ∷ []));
  };
}

abbrev pub states : List AbsState
states =
    state (At 0 false [] ∷ Suspended ∷ []) None
    ∷ state (At 0 false [] ∷ Suspended ∷ []) (isr_at 4)
    ∷ state (At 0 false [] ∷ At 3 false [] ∷ []) None
    ∷ state (At 0 false [] ∷ At 3 false [] ∷ []) (isr_at 4)
    ∷ state (At 0 false [] ∷ At 3 false [] ∷ []) (isr_at 5)
    ∷ state (At 1 false (0 ∷ []) ∷ Suspended ∷ []) None
    ∷ state (At 1 false (0 ∷ []) ∷ Suspended ∷ []) (isr_at 4)
    ∷ state (At 1 false (0 ∷ []) ∷ At 3 false [] ∷ []) None
    ∷ state (At 1 false (0 ∷ []) ∷ At 3 false [] ∷ []) (isr_at 4)
    ∷ state (At 1 false (0 ∷ []) ∷ At 3 false [] ∷ []) (isr_at 5)
    ∷ state (At 2 false [] ∷ Suspended ∷ []) None
    ∷ state (At 2 false [] ∷ Suspended ∷ []) (isr_at 4)
    ∷ state (At 2 false [] ∷ At 3 false [] ∷ []) None
    ∷ state (At 2 false [] ∷ At 3 false [] ∷ []) (isr_at 4)
    ∷ state (At 2 false [] ∷ At 3 false [] ∷ []) (isr_at 5)
    ∷ state (Suspended ∷ Suspended ∷ []) None
    ∷ state (Suspended ∷ Suspended ∷ []) (isr_at 4)
    ∷ state (Suspended ∷ At 3 false [] ∷ []) None
    ∷ state (Suspended ∷ At 3 false [] ∷ []) (isr_at 4)
    ∷ state (Suspended ∷ At 3 false [] ∷ []) (isr_at 5)
    ∷ []

-- ---- The flow is that of the code, which has no fault, and the blocks begin where they do

early_case : early_fault system timing (entries_of image system) ≡ None
early_case = refl

leavings_case : leavings plant ≡ flow.leaving
unfolding insn_at insn_of_word insn_under imm_of branch_of
leavings_case = refl

faults_case : faults plant ≡ replicate 20 None
unfolding insn_at insn_of_word insn_under imm_of branch_of
faults_case = refl

beginnings_case : map (λ block. block.begin) plant.blocks.blocks ≡ beginnings flow (0 ∷ 11 ∷ 14 ∷ [])
beginnings_case = refl

-- ---- The rows of T

abbrev pub rows_of_t : RowsData
rows_of_t = record {
  costs = map pos (replicate 20 10 ++ (replicate 15 1 ++ (replicate 20 0)));
  rows = rows_over 55 (
      -- the activation has one start
      (plus 0 ∷ plus 1 ∷ plus 2 ∷ plus 3 ∷ [])
      -- states
      ∷ (plus 4 ∷ plus 5 ∷ minus 7 ∷ [])
      ∷ (minus 4 ∷ plus 6 ∷ [])
      ∷ (minus 0 ∷ minus 6 ∷ plus 7 ∷ [])
      ∷ (plus 8 ∷ plus 9 ∷ minus 11 ∷ [])
      ∷ (minus 8 ∷ plus 10 ∷ [])
      ∷ (minus 1 ∷ minus 10 ∷ plus 11 ∷ [])
      ∷ (minus 9 ∷ plus 12 ∷ plus 13 ∷ minus 15 ∷ [])
      ∷ (minus 12 ∷ plus 14 ∷ [])
      ∷ (minus 2 ∷ minus 14 ∷ plus 15 ∷ [])
      ∷ (plus 16 ∷ plus 17 ∷ minus 19 ∷ [])
      ∷ (minus 16 ∷ plus 18 ∷ [])
      ∷ (minus 3 ∷ minus 18 ∷ plus 19 ∷ [])
      -- nodes
      ∷ (plus 20 ∷ minus 35 ∷ minus 40 ∷ [])
      ∷ (minus 20 ∷ plus 21 ∷ minus 41 ∷ [])
      ∷ (minus 21 ∷ minus 42 ∷ [])
      ∷ (plus 22 ∷ minus 24 ∷ minus 36 ∷ minus 43 ∷ [])
      ∷ (minus 22 ∷ plus 23 ∷ plus 24 ∷ minus 44 ∷ [])
      ∷ (minus 23 ∷ plus 25 ∷ minus 45 ∷ [])
      ∷ (minus 25 ∷ plus 26 ∷ minus 46 ∷ [])
      ∷ (plus 9 ∷ minus 26 ∷ minus 47 ∷ [])
      ∷ (plus 27 ∷ minus 37 ∷ minus 48 ∷ [])
      ∷ (minus 27 ∷ plus 28 ∷ minus 49 ∷ [])
      ∷ (minus 28 ∷ minus 50 ∷ [])
      ∷ (plus 29 ∷ minus 51 ∷ [])
      ∷ (minus 29 ∷ plus 30 ∷ [])
      ∷ (plus 5 ∷ plus 13 ∷ plus 17 ∷ minus 30 ∷ [])
      ∷ (plus 31 ∷ minus 38 ∷ [])
      ∷ (minus 31 ∷ plus 32 ∷ [])
      ∷ (plus 6 ∷ plus 10 ∷ plus 14 ∷ plus 18 ∷ minus 32 ∷ [])
      ∷ (plus 33 ∷ minus 39 ∷ minus 52 ∷ [])
      ∷ (minus 33 ∷ plus 34 ∷ minus 53 ∷ [])
      ∷ (plus 7 ∷ plus 11 ∷ plus 15 ∷ plus 19 ∷ minus 34 ∷ minus 54 ∷ [])
      -- where contexts stand at the start
      ∷ (minus 0 ∷ plus 40 ∷ [])
      ∷ (plus 40 ∷ [])
      ∷ (minus 0 ∷ plus 41 ∷ [])
      ∷ (plus 41 ∷ [])
      ∷ (minus 0 ∷ plus 42 ∷ [])
      ∷ (plus 42 ∷ [])
      ∷ (minus 1 ∷ plus 43 ∷ [])
      ∷ (minus 11 ∷ plus 43 ∷ [])
      ∷ (minus 1 ∷ plus 44 ∷ [])
      ∷ (minus 11 ∷ plus 44 ∷ [])
      ∷ (minus 1 ∷ plus 45 ∷ [])
      ∷ (minus 11 ∷ plus 45 ∷ [])
      ∷ (minus 1 ∷ plus 46 ∷ [])
      ∷ (minus 11 ∷ plus 46 ∷ [])
      ∷ (minus 1 ∷ plus 47 ∷ [])
      ∷ (minus 11 ∷ plus 47 ∷ [])
      ∷ (minus 2 ∷ plus 48 ∷ [])
      ∷ (plus 48 ∷ [])
      ∷ (minus 2 ∷ plus 49 ∷ [])
      ∷ (plus 49 ∷ [])
      ∷ (minus 2 ∷ plus 50 ∷ [])
      ∷ (plus 50 ∷ [])
      ∷ (minus 0 ∷ minus 1 ∷ minus 2 ∷ minus 3 ∷ plus 51 ∷ [])
      ∷ (minus 7 ∷ minus 9 ∷ minus 15 ∷ minus 19 ∷ plus 51 ∷ [])
      ∷ (minus 0 ∷ minus 1 ∷ minus 2 ∷ minus 3 ∷ plus 52 ∷ [])
      ∷ (minus 0 ∷ minus 1 ∷ minus 2 ∷ minus 3 ∷ minus 6 ∷ minus 10 ∷ minus 14 ∷ minus 18 ∷ plus 52 ∷ [])
      ∷ (minus 0 ∷ minus 1 ∷ minus 2 ∷ minus 3 ∷ plus 53 ∷ [])
      ∷ (minus 0 ∷ minus 1 ∷ minus 2 ∷ minus 3 ∷ minus 6 ∷ minus 10 ∷ minus 14 ∷ minus 18 ∷ plus 53 ∷ [])
      ∷ (minus 0 ∷ minus 1 ∷ minus 2 ∷ minus 3 ∷ plus 54 ∷ [])
      ∷ (minus 0 ∷ minus 1 ∷ minus 2 ∷ minus 3 ∷ minus 6 ∷ minus 10 ∷ minus 14 ∷ minus 18 ∷ plus 54 ∷ [])
      ∷ (minus 0 ∷ minus 1 ∷ minus 2 ∷ minus 3 ∷ plus 40 ∷ plus 41 ∷ plus 42 ∷ plus 43 ∷ plus 44 ∷ plus 45 ∷ plus 46 ∷ plus 47 ∷ plus 48 ∷ plus 49
      ∷ plus 50 ∷ [])
      ∷ (minus 0 ∷ minus 1 ∷ minus 2 ∷ minus 3 ∷ plus 51 ∷ [])
      ∷ (minus 0 ∷ minus 1 ∷ minus 2 ∷ minus 3 ∷ plus 52 ∷ plus 53 ∷ plus 54 ∷ [])
      -- begun blocks
      ∷ (plus 35 ∷ [])
      ∷ (plus 35 ∷ [])
      ∷ (plus 36 ∷ [])
      ∷ (minus 11 ∷ plus 36 ∷ [])
      ∷ (minus 9 ∷ plus 37 ∷ [])
      ∷ (plus 37 ∷ [])
      ∷ (minus 4 ∷ minus 8 ∷ minus 12 ∷ minus 16 ∷ plus 38 ∷ [])
      ∷ (minus 4 ∷ minus 8 ∷ minus 12 ∷ minus 16 ∷ plus 38 ∷ [])
      ∷ (minus 6 ∷ minus 10 ∷ minus 14 ∷ minus 18 ∷ plus 39 ∷ [])
      ∷ (minus 0 ∷ minus 1 ∷ minus 2 ∷ minus 3 ∷ minus 6 ∷ minus 10 ∷ minus 14 ∷ minus 18 ∷ plus 39 ∷ [])
      -- loops
      ∷ (plus 24 ∷ times (negsuc 3) 36 ∷ times (negsuc 3) 43 ∷ times (negsuc 3) 44 ∷ [])
      -- sources
      ∷ (times (negsuc 9) 0 ∷ times (negsuc 9) 1 ∷ times (negsuc 9) 2 ∷ times (negsuc 9) 3 ∷ times (pos 99990) 4 ∷ times (negsuc 9) 5
      ∷ times (negsuc 9) 6 ∷ times (negsuc 9) 7 ∷ times (pos 99990) 8 ∷ times (negsuc 9) 9 ∷ times (negsuc 9) 10 ∷ times (negsuc 9) 11
      ∷ times (pos 99990) 12 ∷ times (negsuc 9) 13 ∷ times (negsuc 9) 14 ∷ times (negsuc 9) 15 ∷ times (pos 99990) 16 ∷ times (negsuc 9) 17
      ∷ times (negsuc 9) 18 ∷ times (negsuc 9) 19 ∷ minus 20 ∷ minus 21 ∷ minus 22 ∷ minus 23 ∷ minus 24 ∷ minus 25 ∷ minus 26 ∷ minus 27
      ∷ minus 28 ∷ minus 29 ∷ minus 30 ∷ minus 31 ∷ minus 32 ∷ minus 33 ∷ minus 34 ∷ [])
      ∷ []);
  rights = map pos (1 ∷ replicate 76 0 ++ (200000 ∷ []));
}

rows_of_t_case : rows_of plant states 1 ≡ rows_of_t
unfolding insn_at insn_of_word insn_under imm_of branch_of
rows_of_t_case = refl

-- ---- The rows of L

abbrev pub rows_of_l : RowsData
rows_of_l = record {
  costs = map pos (0 ∷ replicate 21 10 ++ (replicate 15 1 ++ (replicate 6 0)));
  rows = rows_over 43 (
      -- the activation has one start
      (plus 0 ∷ [])
      -- states
      ∷ (minus 0 ∷ plus 1 ∷ plus 2 ∷ minus 5 ∷ [])
      ∷ (minus 1 ∷ plus 3 ∷ [])
      ∷ (plus 4 ∷ plus 5 ∷ minus 7 ∷ [])
      ∷ (minus 4 ∷ plus 6 ∷ [])
      ∷ (minus 3 ∷ minus 6 ∷ plus 7 ∷ [])
      ∷ (minus 2 ∷ plus 8 ∷ plus 9 ∷ [])
      ∷ (minus 8 ∷ plus 10 ∷ [])
      ∷ (plus 11 ∷ plus 12 ∷ minus 14 ∷ [])
      ∷ (minus 11 ∷ plus 13 ∷ [])
      ∷ (minus 10 ∷ minus 13 ∷ plus 14 ∷ [])
      ∷ (minus 9 ∷ plus 15 ∷ plus 16 ∷ minus 19 ∷ [])
      ∷ (minus 15 ∷ plus 17 ∷ [])
      ∷ (minus 12 ∷ plus 18 ∷ plus 19 ∷ minus 21 ∷ [])
      ∷ (minus 18 ∷ plus 20 ∷ [])
      ∷ (minus 17 ∷ minus 20 ∷ plus 21 ∷ [])
      -- nodes
      ∷ (plus 22 ∷ minus 42 ∷ [])
      ∷ (minus 22 ∷ plus 23 ∷ [])
      ∷ (plus 2 ∷ minus 23 ∷ [])
      ∷ (plus 24 ∷ minus 26 ∷ minus 37 ∷ [])
      ∷ (minus 24 ∷ plus 25 ∷ plus 26 ∷ [])
      ∷ (minus 25 ∷ plus 27 ∷ [])
      ∷ (minus 27 ∷ plus 28 ∷ [])
      ∷ (plus 9 ∷ plus 12 ∷ minus 28 ∷ [])
      ∷ (plus 29 ∷ minus 38 ∷ [])
      ∷ (minus 29 ∷ plus 30 ∷ [])
      ∷ (plus 16 ∷ minus 30 ∷ [])
      ∷ (plus 31 ∷ minus 39 ∷ [])
      ∷ (minus 31 ∷ plus 32 ∷ [])
      ∷ (plus 5 ∷ plus 19 ∷ minus 32 ∷ [])
      ∷ (plus 33 ∷ minus 40 ∷ [])
      ∷ (minus 33 ∷ plus 34 ∷ [])
      ∷ (plus 3 ∷ plus 6 ∷ plus 10 ∷ plus 13 ∷ plus 17 ∷ plus 20 ∷ minus 34 ∷ [])
      ∷ (plus 35 ∷ minus 41 ∷ [])
      ∷ (minus 35 ∷ plus 36 ∷ [])
      ∷ (plus 7 ∷ plus 14 ∷ plus 21 ∷ minus 36 ∷ [])
      -- where contexts stand at the start
      ∷ (minus 0 ∷ plus 42 ∷ [])
      ∷ (minus 0 ∷ minus 5 ∷ plus 42 ∷ [])
      ∷ (minus 0 ∷ plus 42 ∷ [])
      -- begun blocks
      ∷ (minus 2 ∷ plus 37 ∷ [])
      ∷ (minus 2 ∷ minus 14 ∷ plus 37 ∷ [])
      ∷ (minus 9 ∷ minus 12 ∷ plus 38 ∷ [])
      ∷ (minus 9 ∷ minus 19 ∷ plus 38 ∷ [])
      ∷ (minus 3 ∷ minus 10 ∷ minus 17 ∷ plus 39 ∷ [])
      ∷ (minus 7 ∷ minus 12 ∷ minus 21 ∷ plus 39 ∷ [])
      ∷ (minus 1 ∷ minus 4 ∷ minus 8 ∷ minus 11 ∷ minus 15 ∷ minus 18 ∷ plus 40 ∷ [])
      ∷ (minus 1 ∷ minus 4 ∷ minus 8 ∷ minus 11 ∷ minus 15 ∷ minus 18 ∷ plus 40 ∷ [])
      ∷ (minus 3 ∷ minus 6 ∷ minus 10 ∷ minus 13 ∷ minus 17 ∷ minus 20 ∷ plus 41 ∷ [])
      ∷ (minus 3 ∷ minus 6 ∷ minus 10 ∷ minus 13 ∷ minus 17 ∷ minus 20 ∷ plus 41 ∷ [])
      -- loops
      ∷ (plus 26 ∷ times (negsuc 3) 37 ∷ [])
      -- sources
      ∷ (times (pos 99990) 1 ∷ times (negsuc 9) 2 ∷ times (negsuc 9) 3 ∷ times (pos 99990) 4 ∷ times (negsuc 9) 5 ∷ times (negsuc 9) 6
      ∷ times (negsuc 9) 7 ∷ times (pos 99990) 8 ∷ times (negsuc 9) 9 ∷ times (negsuc 9) 10 ∷ times (pos 99990) 11 ∷ times (negsuc 9) 12
      ∷ times (negsuc 9) 13 ∷ times (negsuc 9) 14 ∷ times (pos 99990) 15 ∷ times (negsuc 9) 16 ∷ times (negsuc 9) 17 ∷ times (pos 99990) 18
      ∷ times (negsuc 9) 19 ∷ times (negsuc 9) 20 ∷ times (negsuc 9) 21 ∷ minus 22 ∷ minus 23 ∷ minus 24 ∷ minus 25 ∷ minus 26 ∷ minus 27
      ∷ minus 28 ∷ minus 29 ∷ minus 30 ∷ minus 31 ∷ minus 32 ∷ minus 33 ∷ minus 34 ∷ minus 35 ∷ minus 36 ∷ [])
      ∷ []);
  rights = map pos (1 ∷ replicate 49 0 ++ (200000 ∷ []));
}

rows_of_l_case : rows_of plant states 0 ≡ rows_of_l
unfolding insn_at insn_of_word insn_under imm_of branch_of
rows_of_l_case = refl

-- ---- A run: the interrupt comes when L has gone round once

abbrev pub run : List Event
run =
    asks (contexts.Task 0) (stands 0x128 []) TerminateTask 0 (ending (contexts.Task 0)) 10
    ∷ goes (contexts.Task 0) (stands 0x124 []) (stands 0x128 [])
    ∷ goes (contexts.Task 0) (stands 0x120 []) (stands 0x124 [])
    ∷ asks (contexts.Task 1) (stands 0x134 []) TerminateTask 0 (ending (contexts.Task 1)) 10
    ∷ goes (contexts.Task 1) (stands 0x130 []) (stands 0x134 [])
    ∷ goes (contexts.Task 1) (stands 0x12c []) (stands 0x130 [])
    ∷ asks (contexts.Task 0) (stands 0x11c []) ReleaseResource 0 (going_on Done) 10
    ∷ goes (contexts.Task 0) (stands 0x118 []) (stands 0x11c [])
    ∷ goes (contexts.Task 0) (stands 0x114 []) (stands 0x118 [])
    ∷ goes (contexts.Task 0) (stands 0x110 []) (stands 0x114 [])
    ∷ goes (contexts.Task 0) (stands 0x10c []) (stands 0x110 [])
    ∷ asks (contexts.Isr 0) (stands 0x14c []) EndIsr 0 (ending (contexts.Isr 0)) 10
    ∷ goes (contexts.Isr 0) (stands 0x148 []) (stands 0x14c [])
    ∷ goes (contexts.Isr 0) (stands 0x144 []) (stands 0x148 [])
    ∷ asks (contexts.Isr 0) (stands 0x140 []) ActivateTask 1 (activating 1) 10
    ∷ goes (contexts.Isr 0) (stands 0x13c []) (stands 0x140 [])
    ∷ goes (contexts.Isr 0) (stands 0x138 []) (stands 0x13c [])
    ∷ takes 0 (Some (contexts.Isr 0)) 10
    ∷ goes (contexts.Task 0) (with_register 5 1 (stands 0x110 [])) (stands 0x10c [])
    ∷ goes (contexts.Task 0) (stands 0x10c []) (stands 0x110 [])
    ∷ asks (contexts.Task 0) (stands 0x108 []) GetResource 0 (going_on Done) 10
    ∷ goes (contexts.Task 0) (stands 0x104 []) (stands 0x108 [])
    ∷ goes (contexts.Task 0) (stands 0x100 []) (stands 0x104 [])
    ∷ []

-- the columns of the activation of T that the newest step ends, when the run has 20 steps
abbrev pub uses_of_t : List ℕ
uses_of_t = 13 ∷ 30 ∷ 29 ∷ 51 ∷ 9 ∷ 26 ∷ 25 ∷ 23 ∷ 22 ∷ 43 ∷ 11 ∷ 34 ∷ 33 ∷ 52 ∷ 1 ∷ []

t_uses_case : used plant 1 0 (drop 3 run) ≡ Some (columns_at plant states 1 uses_of_t)
unfolding insn_at insn_of_word insn_under imm_of branch_of
t_uses_case = refl

t_costs_case : sum_by (cost plant) (columns_at plant states 1 uses_of_t) ≡ 48
unfolding insn_at insn_of_word insn_under imm_of branch_of
t_costs_case = refl

t_meets_case : meets_all plant states 1 (columns_at plant states 1 uses_of_t) ≡ true
unfolding insn_at insn_of_word insn_under imm_of branch_of
t_meets_case = refl

-- the columns of the activation of L that the newest step ends
abbrev pub uses_of_l : List ℕ
uses_of_l = 16 ∷ 30 ∷ 29 ∷ 38 ∷ 19 ∷ 32 ∷ 31 ∷ 39 ∷ 12 ∷ 28 ∷ 27 ∷ 25 ∷ 24 ∷ 14 ∷ 36 ∷ 35 ∷ 41 ∷ 10 ∷ 34 ∷ 33 ∷ 40 ∷ 8 ∷ 26 ∷ 24 ∷ 37 ∷ 2 ∷ 23 ∷ 22 ∷ 42 ∷ 0 ∷ []

l_uses_case : used plant 0 0 run ≡ Some (columns_at plant states 0 uses_of_l)
unfolding insn_at insn_of_word insn_under imm_of branch_of
l_uses_case = refl

l_costs_case : sum_by (cost plant) (columns_at plant states 0 uses_of_l) ≡ 86
unfolding insn_at insn_of_word insn_under imm_of branch_of
l_costs_case = refl

l_meets_case : meets_all plant states 0 (columns_at plant states 0 uses_of_l) ≡ true
unfolding insn_at insn_of_word insn_under imm_of branch_of
l_meets_case = refl
