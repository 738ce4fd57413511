-- The generated system: its code, its objects, its timing and its states.
use Rattle.std.specs.Prelude.{ℕ, zero, suc, ◌+◌, ◌*◌, ℤ, pos, negsuc, Bool, true, false, ◌==◌, List, [], ◌∷◌, ◌++◌, length, map, flat_map, filter, replicate, count_by, codes, decimal, None, if◌then◌else◌}
use Rattle.std.specs.List.{range_with_len}
use Rattle.elf_image.specs.declared.symbol.Symbol.{Symbol}
use Rattle.elf_image.specs.Image.{ImageData}
use Rattle.elf_image.specs.Plain.{plain_image}
use Rattle.rv32_decode.specs.declared.instruction.Insn.{Insn}
use Rattle.rv32_decode.specs.declared.instruction.Insn.TheVariants.{Branch, Imm, Ecall}
use Rattle.rv32_decode.specs.declared.instruction.BranchOp.TheVariants.{Bne}
use Rattle.rv32_decode.specs.declared.instruction.ImmOp.TheVariants.{Addi}
use Rattle.rv32_decode.specs.Instructions.{word_of_insn}
use Rattle.oil_grammar.specs.declared.tree.Attribute.{Attribute}
use Rattle.oil_grammar.specs.declared.tree.Object.{Object}
use Rattle.oil_grammar.specs.declared.tree.Tree.{Tree}
use Rattle.oil_grammar.specs.declared.tree.Value.{Value}
use Rattle.oil_grammar.specs.declared.tree.Value.TheVariants as value
use Rattle.oil_model.specs.declared.system.Alarm.{Alarm}
use Rattle.oil_model.specs.declared.system.System.{System}
use Rattle.oil_model.specs.declared.system.Task.{Task}
use Rattle.oil_model.specs.Meaning.{scheduler_resource}
use Rattle.timing_file.specs.declared.timing.Loop.{Loop}
use Rattle.timing_file.specs.declared.timing.Timing.{Timing}
use Rattle.abstract_sched.specs.declared.states.AbsState.{AbsState}
use Rattle.abstract_sched.specs.declared.states.TaskAt.{TaskAt}
use Rattle.abstract_sched.specs.declared.states.TaskAt.TheVariants.{Suspended, At}
use Rattle.demo_gen.specs.declared.task.DemoTask.{DemoTask}
use Rattle.demo_gen.specs.Draws.{base}

-- ---- Code

abbrev pub add : ℕ → ℕ → ℤ → Insn
add rd rs1 imm = Imm Addi rd rs1 imm

-- back to the word before, unless the register is 0
abbrev pub back : ℕ → Insn
back register = Branch Bne register 0 (negsuc 3)

-- the loop that a register of one more than its bound counts down, and TerminateTask
abbrev pub tail_of : ℕ → List Insn
tail_of bound = add 6 0 (pos (bound + 1)) ∷ add 6 6 (negsuc 0) ∷ back 6
    ∷ add 10 0 (pos 0) ∷ add 17 0 (pos 2) ∷ Ecall ∷ []

-- the instructions of a task
abbrev pub code_of : DemoTask → List Insn
code_of task = replicate task.steps (add 5 5 (pos 1)) ++ tail_of task.bound

abbrev pub words_of : List DemoTask → List ℕ
words_of tasks = map word_of_insn (flat_map code_of tasks)

abbrev pub task_name : ℕ → List ℕ
task_name number = codes "P" ++ decimal number

abbrev pub alarm_name : ℕ → List ℕ
alarm_name number = codes "A" ++ decimal number

abbrev pub symbol_of : DemoTask → Symbol
symbol_of task = record { name = codes "Task_" ++ task_name task.number; value = task.entry }

abbrev pub the_image : List DemoTask → ImageData
the_image tasks = plain_image base (words_of tasks) (map symbol_of tasks)

-- ---- The OIL tree

abbrev pub mode_name : List ℕ
mode_name = codes "Main"

abbrev pub counter_name : List ℕ
counter_name = codes "C"

abbrev pub attribute : ℕ → List ℕ → Value → Bool → Attribute
attribute level name v braces = record { level = level; name = name; value = v; braces = braces }

abbrev pub mode_object : Object
mode_object = record { kind = codes "APPMODE"; name = mode_name; attributes = [] }

abbrev pub counter_object : Object
counter_object = record { kind = codes "COUNTER"; name = counter_name; attributes = [] }

abbrev pub task_object : DemoTask → Object
task_object task = record {
  kind = codes "TASK";
  name = task_name task.number;
  attributes = attribute 1 (codes "PRIORITY") (value.Number false (task.number + 1)) false ∷ [];
}

-- on its counter, an alarm activates the task of the number
abbrev pub action_attributes : ℕ → List Attribute
action_attributes number =
    attribute 1 (codes "COUNTER") (value.Name counter_name) false
    ∷ attribute 1 (codes "ACTION") (value.Name (codes "ACTIVATETASK")) true
    ∷ attribute 2 (codes "TASK") (value.Name (task_name number)) false
    ∷ []

-- it is set at once, and then every so many ticks
abbrev pub start_attributes : ℕ → List Attribute
start_attributes cycle =
    attribute 1 (codes "AUTOSTART") (value.Bool true) true
    ∷ attribute 2 (codes "ALARMTIME") (value.Number false 0) false
    ∷ attribute 2 (codes "CYCLETIME") (value.Number false cycle) false
    ∷ attribute 2 (codes "APPMODE") (value.Name mode_name) false
    ∷ []

abbrev pub alarm_object : DemoTask → Object
alarm_object task = record {
  kind = codes "ALARM";
  name = alarm_name task.number;
  attributes = action_attributes task.number ++ start_attributes task.cycle;
}

abbrev pub objects_of : List DemoTask → List Object
objects_of tasks = mode_object ∷ counter_object ∷ map task_object tasks ++ map alarm_object tasks

abbrev pub the_tree : List DemoTask → Tree
the_tree tasks = record { version = codes "2.5"; cpu = codes "Demo"; objects = objects_of tasks }

-- ---- The system: each task is activated by its alarm alone

abbrev pub system_task : DemoTask → Task
system_task task = record { name = task_name task.number; priority = task.number + 1; resources = []; modes = []; inner = None }

abbrev pub system_alarm : DemoTask → Alarm
system_alarm task = record { name = alarm_name task.number; counter = 0; task = task.number; cycle = task.cycle; modes = 0 ∷ [] }

abbrev pub the_system : List DemoTask → System
the_system tasks = record {
  tasks = map system_task tasks;
  isrs = [];
  resources = scheduler_resource (length tasks) ∷ [];
  alarms = map system_alarm tasks;
  counters = counter_name ∷ [];
  modes = mode_name ∷ [];
}

-- ---- The timing

-- the two words of the task's loop
abbrev pub loop_of : DemoTask → Loop
loop_of task = record { from = task.entry + 4 * (task.steps + 1); to = task.entry + 4 * (task.steps + 2); bound = task.bound }

abbrev pub the_timing : List DemoTask → Timing
the_timing tasks = record {
  classes = record { costs = replicate 8 1 };
  services = record { costs = replicate 13 10 };
  alarm = 10;
  interrupt = 10;
  ticks = record { name = counter_name; number = 1 } ∷ [];
  distances = [];
  loops = map loop_of tasks;
  taken = 1;
  extra = [];
}

-- ---- The states: one for each set of active tasks, each at its only block

-- the sets of so many tasks, as whether each task is in it: those with the first task stand first
abbrev pub sets : ℕ → List (List Bool)
sets zero = [] ∷ []
sets (suc count) = map (λ set. true ∷ set) (sets count) ++ map (λ set. false ∷ set) (sets count)

abbrev pub size : List Bool → ℕ
size set = count_by (λ active. active) set

-- the sets by their sizes, then by the lists of their members
abbrev pub sets_in_order : ℕ → List (List Bool)
sets_in_order count = flat_map (λ n. filter (λ set. size set == n) (sets count)) (range_with_len 0 (suc count))

-- a task, with nothing held where it is active
abbrev pub task_at : ℕ → Bool → TaskAt
task_at number active = if active then At number false [] else Suspended

-- the tasks of a set from the one of a number on
abbrev pub tasks_at : ℕ → List Bool → List TaskAt
tasks_at number [] = []
tasks_at number (active ∷ set) = task_at number active ∷ tasks_at (suc number) set

abbrev pub state_of : List Bool → AbsState
state_of set = record { mode = 0; tasks = tasks_at 0 set; isr = None; disabled = false; suspended = 0 }

-- the states of a system of so many tasks
abbrev pub the_states : ℕ → List AbsState
the_states count = map state_of (sets_in_order count)
