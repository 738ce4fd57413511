-- The tree of a generated system has no fault.
use Rattle.std.proofs.Common.{◌≡◌, ℕ, ◌+◌, ◌*◌, ◌<◌, ◌≤◌, false, List, [], ◌∷◌, ◌++◌, length, map, None, refl, sym, ap, ◌∙◌, arith, append_assoc}
use Rattle.std.specs.Prelude.{codes, count_by, ◌==◌}
use Rattle.std.specs.List.{AllByRecursion, list_any}
use Rattle.std.proofs.lemmas.Bool.{le-leb, lt-leb, ne_eqb}
use Rattle.std.proofs.lemmas.List.{map-append, length-map, length-append, append-nil}
use Rattle.std.proofs.lemmas.List.Sums.{count_by-le-length}
use Rattle.oil_grammar.specs.declared.tree.Object.{Object}
use Rattle.oil_model.specs.Attributes.{block}
use Rattle.oil_model.specs.Meaning.{fault_from, end_fault, model_fault_of}
use Rattle.oil_model.specs.References.{internal_of, is_kind, priority_of}
use Rattle.oil_model.specs.Rules.{task_rules, alarm_rules, counter_rules, attributes_fault, fault_of, object_fault, is_taken, clashes, shares_priority}
use Rattle.demo_gen.specs.declared.task.DemoTask.{DemoTask}
use Rattle.demo_gen.specs.Draws.{base, size_of}
use Rattle.demo_gen.specs.Demo.{mode_object, counter_object, task_object, alarm_object, objects_of, the_tree}
use Rattle.demo_gen.specs.Working.Drawn.{Follow, AreDrawn}
use Rattle.demo_gen.proofs.SystemNames.{other_task, other_alarm, alarm_no_task}
use Rattle.demo_gen.proofs.SystemOf.{Finds, finds_in, priority}

-- ---- The attributes

task_attributes : (objects : List Object) (task : DemoTask) → task.number < 8 → attributes_fault objects (task_object task) ≡ None
unfolding attributes_fault task_rules
task_attributes objects task early = rw (le-leb (task.number + 1) 4294967295 (omega arith)) refl

alarm_attributes : (objects : List Object) (task : DemoTask) → Finds objects task.number → task.cycle ≤ 72000 → attributes_fault objects (alarm_object task) ≡ None
unfolding attributes_fault alarm_rules block
alarm_attributes objects task finds low = rw (finds.counter, finds.task, le-leb task.cycle 2147483647 (omega arith), finds.mode) refl

-- ---- One object

task_passes : (objects earlier : List Object) (task : DemoTask) → task.number < 8 → is_taken earlier (task_object task) ≡ false
    → list_any (shares_priority (task_object task)) earlier ≡ false → count_by (is_kind (codes "TASK")) earlier < 16 → object_fault objects earlier (task_object task) ≡ None
unfolding fault_of internal_of
task_passes objects earlier task early free alone few =
    rw (free, task_attributes objects task early, alone, lt-leb 16 (count_by (is_kind (codes "TASK")) earlier) few) refl

alarm_passes : (objects earlier : List Object) (task : DemoTask) → Finds objects task.number → task.cycle ≤ 72000 → is_taken earlier (alarm_object task) ≡ false
    → count_by (is_kind (codes "ALARM")) earlier < 16 → object_fault objects earlier (alarm_object task) ≡ None
unfolding fault_of
alarm_passes objects earlier task finds low free few =
    rw (free, alarm_attributes objects task finds low, lt-leb 16 (count_by (is_kind (codes "ALARM")) earlier) few) refl

-- ---- Behind the earlier ones

-- each has a lower number
abbrev AreBelow : ℕ → List DemoTask → Type 0
AreBelow number tasks = AllByRecursion (λ (task : DemoTask). task.number < number) tasks

below_more : (number : ℕ) (tasks : List DemoTask) (task : DemoTask) → task.number ≡ number → AreBelow number tasks → AreBelow (number + 1) (tasks ++ task ∷ [])
below_more number [] task is below = (omega (arith, is), tt)
below_more number (first ∷ tasks) task is below = (omega (arith, below.0), below_more number tasks task is below.1)

task_free : (number : ℕ) (before : List DemoTask) (task : DemoTask) → task.number ≡ number → number < 8 → AreBelow number before
    → list_any (clashes (task_object task)) (map task_object before) ≡ false
task_free number [] task is early below = refl
task_free number (first ∷ before) task is early below =
    rw (
      other_task task.number first.number (omega (arith, is)) (omega (arith, below.0)) (λ same. omega (arith, is, below.0, same)),
      task_free number before task is early below.1,
    ) refl

task_alone : (number : ℕ) (before : List DemoTask) (task : DemoTask) → task.number ≡ number → number < 8 → AreBelow number before
    → list_any (shares_priority (task_object task)) (map task_object before) ≡ false
task_alone number [] task is early below = refl
task_alone number (first ∷ before) task is early below =
    let other : (priority_of (task_object first) == priority_of (task_object task)) ≡ false =
    ne_eqb (priority_of (task_object first)) (priority_of (task_object task))
    (λ same. omega (arith, same, is, below.0, priority first (omega (arith, below.0)), priority task (omega (arith, is)))) in
    rw (other, task_alone number before task is early below.1) refl

no_alarm_in : (tasks : List DemoTask) (more : List Object) → count_by (is_kind (codes "ALARM")) (map task_object tasks ++ more) ≡ count_by (is_kind (codes "ALARM")) more
no_alarm_in [] more = refl
no_alarm_in (task ∷ tasks) more = no_alarm_in tasks more

alarm_free : (number : ℕ) (before : List DemoTask) (task : DemoTask) → task.number ≡ number → number < 8 → AreBelow number before
    → list_any (clashes (alarm_object task)) (map alarm_object before) ≡ false
alarm_free number [] task is early below = refl
alarm_free number (first ∷ before) task is early below =
    rw (
      other_alarm task.number first.number (omega (arith, is)) (omega (arith, below.0)) (λ same. omega (arith, is, below.0, same)),
      alarm_free number before task is early below.1,
    ) refl

free_of_tasks : (tasks : List DemoTask) (more : List Object) (task : DemoTask) → list_any (clashes (alarm_object task)) more ≡ false
    → list_any (clashes (alarm_object task)) (map task_object tasks ++ more) ≡ false
free_of_tasks [] more task free = free
free_of_tasks (first ∷ tasks) more task free = rw (alarm_no_task task.number first.number, free_of_tasks tasks more task free) refl

-- ---- All of them

abbrev behind : List DemoTask → List Object
behind before = mode_object ∷ counter_object ∷ map task_object before

pushed : (f : DemoTask → Object) (front : List Object) (before : List DemoTask) (task : DemoTask)
    → (front ++ map f before) ++ f task ∷ [] ≡ front ++ map f (before ++ task ∷ [])
pushed f front before task = append_assoc front (map f before) (f task ∷ []) ∙ ap (λ rest. front ++ rest) (sym (map-append f before (task ∷ [])))

alarms_pass : (objects : List Object) (tasks before : List DemoTask) (number entry : ℕ) (after : List DemoTask) → ((n : ℕ) → n < number + length after → Finds objects n)
    → number + length after ≤ 8 → length before ≡ number → AreBelow number before → Follow number entry after
    → fault_from objects (behind tasks ++ map alarm_object before) (map alarm_object after) ≡ end_fault objects
unfolding fault_from
alarms_pass objects tasks before number entry [] finds few count below follow = refl
alarms_pass objects tasks before number entry (task ∷ after) finds few count below follow =
    let earlier = behind tasks ++ map alarm_object before in
    let is = follow.0.number_is in
    let free : is_taken earlier (alarm_object task) ≡ false =
    free_of_tasks tasks (map alarm_object before) task (alarm_free number before task is (omega arith) below) in
    let limit : count_by (is_kind (codes "ALARM")) earlier < 16 =
    omega (arith, no_alarm_in tasks (map alarm_object before), count_by-le-length (is_kind (codes "ALARM")) (map alarm_object before), length-map before alarm_object, count) in
    rw (
      alarm_passes objects earlier task (finds task.number (omega (arith, is))) follow.0.cycle free limit,
      pushed alarm_object (behind tasks) before task,
    )
    (alarms_pass objects tasks (before ++ task ∷ []) (number + 1) (entry + 4 * size_of task.steps) after (λ n low. finds n (omega arith)) (omega arith) (omega (arith, length-append before (task ∷ []), count)) (below_more number before task is below)
    follow.1)

tasks_pass : (objects : List Object) (rest : List Object) (before : List DemoTask) (number entry : ℕ) (after : List DemoTask)
    → number + length after ≤ 8 → length before ≡ number → AreBelow number before → Follow number entry after
    → fault_from objects (behind before) (map task_object after ++ rest) ≡ fault_from objects (behind (before ++ after)) rest
unfolding fault_from
tasks_pass objects rest before number entry [] few count below follow = ap (λ b. fault_from objects (behind b) rest) (sym (append-nil before))
tasks_pass objects rest before number entry (task ∷ after) few count below follow =
    let is = follow.0.number_is in
    let early : task.number < 8 = omega (arith, is) in
    let limit : count_by (is_kind (codes "TASK")) (behind before) < 16 =
    omega (arith, count_by-le-length (is_kind (codes "TASK")) (behind before), length-map before task_object, count) in
    rw (
      task_passes objects (behind before) task early (task_free number before task is (omega arith) below) (task_alone number before task is (omega arith) below) limit,
      pushed task_object (mode_object ∷ counter_object ∷ []) before task,
    )
    (tasks_pass objects rest (before ++ task ∷ []) (number + 1) (entry + 4 * size_of task.steps) after (omega arith) (omega (arith, length-append before (task ∷ []), count))
    (below_more number before task is below) follow.1
    ∙ ap (λ b. fault_from objects (behind b) rest) (append_assoc before (task ∷ []) after))

mode_passes : (objects : List Object) → object_fault objects [] mode_object ≡ None
unfolding fault_of attributes_fault
mode_passes objects = refl

counter_passes : (objects : List Object) → object_fault objects (mode_object ∷ []) counter_object ≡ None
unfolding fault_of attributes_fault counter_rules
counter_passes objects = refl

ends : (tasks : List DemoTask) → 1 ≤ length tasks → end_fault (objects_of tasks) ≡ None
ends [] some = absurd (omega arith)
ends (task ∷ tasks) some = refl

pub no_fault : (tasks : List DemoTask) → AreDrawn tasks → model_fault_of (the_tree tasks) ≡ None
unfolding fault_from
no_fault tasks drawn =
    let objects = objects_of tasks in
    let few : 0 + length tasks ≤ 8 = omega (arith, drawn.few) in
    let alarms = alarms_pass objects tasks [] 0 base tasks (λ n low. finds_in tasks drawn n (omega arith)) few refl tt drawn.follow in
    rw (mode_passes objects, counter_passes objects)
    (tasks_pass objects (map alarm_object tasks) [] 0 base tasks few refl tt drawn.follow
    ∙ (ap (λ earlier. fault_from objects earlier (map alarm_object tasks)) (sym (append-nil (behind tasks))) ∙ (alarms ∙ ends tasks drawn.some)))
