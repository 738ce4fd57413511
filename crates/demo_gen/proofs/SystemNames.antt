-- Which objects of a generated system have a kind or a name.
use Rattle.std.proofs.Common.{◌≡◌, ◌⊎◌, ℕ, ◌+◌, ◌*◌, ◌<◌, ◌≤◌, Bool, true, false, List, [], ◌∷◌, ◌++◌, length, map, Some, inl, inr, refl, ap, ◌∙◌, arith, decimal}
use Rattle.std.specs.Prelude.{codes, filter, bytes_eq, nat_lt}
use Rattle.std.specs.List.{position, position_or_len}
use Rattle.std.proofs.lemmas.Bool.{cases_lt, lt-ltb}
use Rattle.std.proofs.lemmas.List.{length-map}
use Rattle.std.proofs.lemmas.List.Elements.{filter-append}
use Rattle.std.proofs.lemmas.Slice.Eq.{bytes_eq-Decides}
use Rattle.oil_grammar.specs.declared.tree.Object.{Object}
use Rattle.oil_model.specs.References.{is_kind, is_named, of_kind, id_of}
use Rattle.demo_gen.specs.declared.task.DemoTask.{DemoTask}
use Rattle.demo_gen.specs.Draws.{base, size_of}
use Rattle.demo_gen.specs.Demo.{task_name, alarm_name, mode_name, counter_name, mode_object, counter_object, task_object, alarm_object, objects_of}
use Rattle.demo_gen.specs.Working.Drawn.{Follow, AreDrawn}
use Rattle.demo_gen.proofs.ObjectNames.{same_number, other_first}

-- ---- Tests of names

pub same_name : (name : List ℕ) → bytes_eq name name ≡ true
same_name name = (bytes_eq-Decides name name).1 refl

not_true : (b : Bool) → (b ≡ true → ⊥) → b ≡ false
not_true true none = absurd (none refl)
not_true false none = refl

pub other_name : (a b : List ℕ) → (a ≡ b → ⊥) → bytes_eq a b ≡ false
other_name a b differ = not_true (bytes_eq a b) (λ is. differ ((bytes_eq-Decides a b).0 is))

rest_is : (a b : ℕ) (xs ys : List ℕ) → (a ∷ xs) ≡ (b ∷ ys) → xs ≡ ys
rest_is a b xs ys is = cc

-- one byte, and the digits of a number
digits_differ : (first a b : ℕ) → a < 8 → b < 8 → (a ≡ b → ⊥) → bytes_eq (first ∷ decimal a) (first ∷ decimal b) ≡ false
digits_differ first a b early early' differ =
    other_name (first ∷ decimal a) (first ∷ decimal b) (λ is. differ (same_number a b early early' (rest_is first first (decimal a) (decimal b) is)))

pub other_task : (a b : ℕ) → a < 8 → b < 8 → (a ≡ b → ⊥) → bytes_eq (task_name a) (task_name b) ≡ false
other_task a b early early' differ = digits_differ 80 a b early early' differ

pub other_alarm : (a b : ℕ) → a < 8 → b < 8 → (a ≡ b → ⊥) → bytes_eq (alarm_name a) (alarm_name b) ≡ false
other_alarm a b early early' differ = digits_differ 65 a b early early' differ

pub alarm_no_task : (a b : ℕ) → bytes_eq (alarm_name a) (task_name b) ≡ false
alarm_no_task a b = other_name (alarm_name a) (task_name b) (λ is. other_first 65 80 (decimal a) (decimal b) is (λ h. omega (arith, h)))

-- ---- Kinds

all_kept : (p : Object → Bool) (f : DemoTask → Object) → ((task : DemoTask) → p (f task) ≡ true) → (tasks : List DemoTask) → filter p (map f tasks) ≡ map f tasks
all_kept p f passes [] = refl
all_kept p f passes (task ∷ tasks) = rw (passes task, all_kept p f passes tasks) refl

none_kept : (p : Object → Bool) (f : DemoTask → Object) → ((task : DemoTask) → p (f task) ≡ false) → (tasks : List DemoTask) → filter p (map f tasks) ≡ []
none_kept p f fails [] = refl
none_kept p f fails (task ∷ tasks) = rw (fails task, none_kept p f fails tasks) refl

pub tasks_are : (tasks : List DemoTask) → of_kind (codes "TASK") (objects_of tasks) ≡ map task_object tasks
tasks_are tasks =
    filter-append (is_kind (codes "TASK")) (map task_object tasks) (map alarm_object tasks)
    ∙ rw (all_kept (is_kind (codes "TASK")) task_object (λ _. refl) tasks, none_kept (is_kind (codes "TASK")) alarm_object (λ _. refl) tasks) (nothing_behind (map task_object tasks))
  where
    nothing_behind : (xs : List Object) → xs ++ [] ≡ xs
    nothing_behind [] = refl
    nothing_behind (x ∷ xs) = ap (λ rest. x ∷ rest) (nothing_behind xs)

pub alarms_are : (tasks : List DemoTask) → of_kind (codes "ALARM") (objects_of tasks) ≡ map alarm_object tasks
alarms_are tasks =
    filter-append (is_kind (codes "ALARM")) (map task_object tasks) (map alarm_object tasks)
    ∙ rw (none_kept (is_kind (codes "ALARM")) task_object (λ _. refl) tasks, all_kept (is_kind (codes "ALARM")) alarm_object (λ _. refl) tasks) refl

-- no task and no alarm is of another kind
none_are : (kind : List ℕ) → bytes_eq (codes "TASK") kind ≡ false → bytes_eq (codes "ALARM") kind ≡ false → (tasks : List DemoTask)
    → filter (is_kind kind) (map task_object tasks ++ map alarm_object tasks) ≡ []
none_are kind no_task no_alarm tasks =
    filter-append (is_kind kind) (map task_object tasks) (map alarm_object tasks)
    ∙ rw (none_kept (is_kind kind) task_object (λ _. no_task) tasks, none_kept (is_kind kind) alarm_object (λ _. no_alarm) tasks) refl

pub counters_are : (tasks : List DemoTask) → of_kind (codes "COUNTER") (objects_of tasks) ≡ counter_object ∷ []
counters_are tasks = ap (λ rest. counter_object ∷ rest) (none_are (codes "COUNTER") refl refl tasks)

pub modes_are : (tasks : List DemoTask) → of_kind (codes "APPMODE") (objects_of tasks) ≡ mode_object ∷ []
modes_are tasks = ap (λ rest. mode_object ∷ rest) (none_are (codes "APPMODE") refl refl tasks)

pub isrs_are : (tasks : List DemoTask) → of_kind (codes "ISR") (objects_of tasks) ≡ []
isrs_are tasks = none_are (codes "ISR") refl refl tasks

pub resources_are : (tasks : List DemoTask) → of_kind (codes "RESOURCE") (objects_of tasks) ≡ []
resources_are tasks = none_are (codes "RESOURCE") refl refl tasks

-- ---- Ids

place_of : (number from entry : ℕ) (tasks : List DemoTask) → from ≤ number → number < from + length tasks → from + length tasks ≤ 8 → Follow from entry tasks
    → from + position_or_len (is_named (task_name number)) (map task_object tasks) ≡ number
place_of number from entry [] low high few follow = absurd (omega arith)
place_of number from entry (task ∷ tasks) low high few follow =
    by_case (λ later. place_of number (from + 1) (entry + 4 * size_of task.steps) tasks (omega arith) (omega arith) (omega arith) follow.1) (cases_lt from number)
  where
    by_case : (from < number → from + 1 + position_or_len (is_named (task_name number)) (map task_object tasks) ≡ number)
        → (from < number) ⊎ (number ≤ from) → from + position_or_len (is_named (task_name number)) (map task_object (task ∷ tasks)) ≡ number
    by_case next (inl later) =
        let other : bytes_eq (task_name task.number) (task_name number) ≡ false =
        other_task task.number number (omega (arith, follow.0.number_is)) (omega arith) (λ is. omega (arith, follow.0.number_is, is)) in
        let there = next later in
        rw other (omega (arith, there))
    by_case next (inr here) =
        let is : task.number ≡ number = omega (arith, follow.0.number_is) in
        rw (is, same_name (task_name number)) (omega arith)

pub task_id : (number : ℕ) (tasks : List DemoTask) → AreDrawn tasks → number < length tasks → id_of (codes "TASK") (objects_of tasks) (task_name number) ≡ Some number
task_id number tasks drawn below =
    let place : 0 + position_or_len (is_named (task_name number)) (map task_object tasks) ≡ number =
    place_of number 0 base tasks (omega arith) (omega arith) (omega (arith, drawn.few)) drawn.follow in
    let at : position_or_len (is_named (task_name number)) (map task_object tasks) ≡ number = omega (arith, place) in
    let count : nat_lt number (length (map task_object tasks)) ≡ true = lt-ltb number (length (map task_object tasks)) (omega (arith, length-map tasks task_object)) in
    ap (position (is_named (task_name number))) (tasks_are tasks) ∙ rw (at, count) refl

pub counter_id : (tasks : List DemoTask) → id_of (codes "COUNTER") (objects_of tasks) counter_name ≡ Some 0
counter_id tasks = ap (position (is_named counter_name)) (counters_are tasks)

pub mode_id : (tasks : List DemoTask) → id_of (codes "APPMODE") (objects_of tasks) mode_name ≡ Some 0
mode_id tasks = ap (position (is_named mode_name)) (modes_are tasks)
