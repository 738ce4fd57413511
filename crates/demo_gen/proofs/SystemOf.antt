-- The tree of a generated system stands for the system.
use Rattle.std.proofs.Common.{◌≡◌, ℕ, suc, ◌+◌, ◌*◌, ◌<◌, ◌≤◌, List, [], ◌∷◌, length, map, Some, refl, sym, ap, ◌∙◌, arith, max}
use Rattle.std.specs.Prelude.{codes, fold}
use Rattle.std.proofs.lemmas.Bool.{le-leb}
use Rattle.oil_grammar.specs.declared.tree.Object.{Object}
use Rattle.oil_model.specs.Attributes.{block}
use Rattle.oil_model.specs.Meaning as meaning
use Rattle.oil_model.specs.Meaning.{system_of, IsSystemOf}
use Rattle.oil_model.specs.References.{id_of, internal_of, priority_of, greatest, top_priority}
use Rattle.demo_gen.specs.declared.task.DemoTask.{DemoTask}
use Rattle.demo_gen.specs.Draws.{base, size_of}
use Rattle.demo_gen.specs.Demo.{task_name, mode_name, counter_name, task_object, alarm_object, objects_of, system_task, system_alarm, the_tree, the_system}
use Rattle.demo_gen.specs.Working.Drawn.{Follow, AreDrawn}
use Rattle.demo_gen.proofs.SystemNames.{tasks_are, alarms_are, counters_are, modes_are, isrs_are, resources_are, task_id, counter_id, mode_id}

pub priority : (task : DemoTask) → task.number < 8 → priority_of (task_object task) ≡ task.number + 1
priority task early = rw (le-leb (task.number + 1) 4294967295 (omega arith)) refl

one_task : (objects : List Object) (task : DemoTask) → task.number < 8 → meaning.task_of objects (task_object task) ≡ system_task task
unfolding internal_of block
one_task objects task early = rw (le-leb (task.number + 1) 4294967295 (omega arith)) refl

-- what the names in an alarm stand for
pub record Finds (objects : List Object) (number : ℕ) : Type 0 where
  pub counter : id_of (codes "COUNTER") objects counter_name ≡ Some 0
  pub mode : id_of (codes "APPMODE") objects mode_name ≡ Some 0
  pub task : id_of (codes "TASK") objects (task_name number) ≡ Some number

pub one_alarm : (objects : List Object) (task : DemoTask) → Finds objects task.number → task.cycle ≤ 72000 → meaning.alarm_of objects (alarm_object task) ≡ system_alarm task
unfolding block
one_alarm objects task finds low = rw (finds.counter, finds.mode, finds.task, le-leb task.cycle 2147483647 (omega arith)) refl

-- ---- The whole system

task_list : (objects : List Object) (number entry : ℕ) (tasks : List DemoTask) → number + length tasks ≤ 8 → Follow number entry tasks
    → map (meaning.task_of objects) (map task_object tasks) ≡ map system_task tasks
task_list objects number entry [] few follow = refl
task_list objects number entry (task ∷ tasks) few follow =
    rw (
      one_task objects task (omega (arith, follow.0.number_is)),
      task_list objects (number + 1) (entry + 4 * size_of task.steps) tasks (omega arith) follow.1,
    ) refl

alarm_list : (objects : List Object) → (number entry : ℕ) (tasks : List DemoTask) → ((n : ℕ) → n < number + length tasks → Finds objects n) → Follow number entry tasks
    → map (meaning.alarm_of objects) (map alarm_object tasks) ≡ map system_alarm tasks
alarm_list objects number entry [] finds follow = refl
alarm_list objects number entry (task ∷ tasks) finds follow =
    rw (
      one_alarm objects task (finds task.number (omega (arith, follow.0.number_is))) follow.0.cycle,
      alarm_list objects (number + 1) (entry + 4 * size_of task.steps) tasks (λ n below. finds n (omega arith)) follow.1,
    ) refl

next_greatest : (a b : ℕ) → a ≤ b → max a b ≡ b
next_greatest a b le = omega arith

greatest_of : (number entry : ℕ) (tasks : List DemoTask) → number + length tasks ≤ 8 → Follow number entry tasks
    → fold max number (map priority_of (map task_object tasks)) ≡ number + length tasks
greatest_of number entry [] few follow = omega arith
greatest_of number entry (task ∷ tasks) few follow =
    let top : max number (priority_of (task_object task)) ≡ number + 1 =
    rw (priority task (omega (arith, follow.0.number_is))) (omega (arith, follow.0.number_is)) in
    let count : number + 1 + length tasks ≡ number + suc (length tasks) = omega arith in
    ap (λ m. fold max m (map priority_of (map task_object tasks))) top
    ∙ greatest_of (number + 1) (entry + 4 * size_of task.steps) tasks (omega arith) follow.1 ∙ count

pub finds_in : (tasks : List DemoTask) → AreDrawn tasks → (number : ℕ) → number < length tasks → Finds (objects_of tasks) number
finds_in tasks drawn number below = record { counter = counter_id tasks; mode = mode_id tasks; task = task_id number tasks drawn below }

pub same_system : (tasks : List DemoTask) → AreDrawn tasks → the_system tasks ≡ system_of (the_tree tasks)
same_system tasks drawn =
    let objects = objects_of tasks in
    let top : top_priority objects ≡ length tasks =
    ap greatest (tasks_are tasks) ∙ (greatest_of 0 base tasks (omega (arith, drawn.few)) drawn.follow ∙ omega arith) in
    let task_part = ap (map (meaning.task_of objects)) (tasks_are tasks) ∙ task_list objects 0 base tasks (omega (arith, drawn.few)) drawn.follow in
    let alarm_part = ap (map (meaning.alarm_of objects)) (alarms_are tasks)
    ∙ alarm_list objects 0 base tasks (λ n below. finds_in tasks drawn n (omega arith)) drawn.follow in
    let isr_part = ap (map (meaning.isr_of objects)) (isrs_are tasks) in
    let resource_part = ap (map (meaning.resource_of objects)) (resources_are tasks) in
    let counter_part = ap (map (meaning.name_of objects)) (counters_are tasks) in
    let mode_part = ap (map (meaning.name_of objects)) (modes_are tasks) in
    sym (rw (task_part, alarm_part, isr_part, resource_part, top, counter_part, mode_part) refl)
