-- The system of a well-formed tree without a fault is lawful.
use Rattle.std.proofs.Common.{◌≡◌, ℕ, ◌+◌, ◌≤◌, Bool, true, false, List, [], ◌∷◌, ◌++◌, map, length, None, refl, sym, ap, subst, ◌∙◌, arith, length-append}
use Rattle.std.specs.Prelude.{codes, bytes_eq, nat_eq}
use Rattle.std.specs.List.{list_all, AllByRecursion}
use Rattle.std.proofs.lemmas.Bool.{and_from}
use Rattle.std.proofs.lemmas.List.{length-map}
use Rattle.std.proofs.lemmas.List.Folds.{list_all-append}
use Rattle.oil_grammar.specs.Grammar.{IsWellFormed}
use Rattle.oil_grammar.specs.Names.{is_name, IsNamed}
use Rattle.oil_grammar.proofs.Named.{has_names}
use Rattle.oil_grammar.specs.declared.tree.Attribute.{Attribute}
use Rattle.oil_grammar.specs.declared.tree.Object.{Object}
use Rattle.oil_grammar.specs.declared.tree.Tree.{Tree}
use Rattle.oil_model.specs.declared.system.System.{System}
use Rattle.listed.specs.Lists.{differ}
use Rattle.oil_model.specs.System.{code_names, AreBelow, AreFew, IsTask, IsAlarm, AreNames, AreApart, IsLawful}
use Rattle.oil_model.specs.References.{is_kind, of_kind, top_priority, ids_of}
use Rattle.oil_model.specs.declared.reference.Target.TheVariants.{Mode, Shared}
use Rattle.oil_model.specs.Rules.{attributes_fault}
use Rattle.oil_model.specs.Meaning.{fault_from, model_fault_of, system_of, objects_system, task_of, isr_of, resource_of, alarm_of, start_block, start_modes, resources_of, scheduler_resource}
use Rattle.oil_model.proofs.Activations.{NamesBoth, alarm_names}
use Rattle.oil_model.proofs.Apart.{differ-map, names_of}
use Rattle.oil_model.proofs.Counts.{few_more}
use Rattle.oil_model.proofs.IdRanges.{all-append, id_of-below, shared-below, ids_of-below}
use Rattle.oil_model.proofs.Kept.{IsSound, kept}
use Rattle.oil_model.proofs.Steps.{names_step, code_names_of, code_step, same_priority, priorities_step}

-- ---- what the objects keep

record IsKept (objects : List Object) : Type 0 where
  tasks : length (of_kind (codes "TASK") objects) ≤ 16
  isrs : length (of_kind (codes "ISR") objects) ≤ 8
  alarms : length (of_kind (codes "ALARM") objects) ≤ 16
  resources : length (of_kind (codes "RESOURCE") objects) ≤ 8
  modes : length (of_kind (codes "APPMODE") objects) ≤ 4
  code : differ bytes_eq (code_names_of objects) ≡ true
  counter_names : differ bytes_eq (names_of (codes "COUNTER") objects) ≡ true
  mode_names : differ bytes_eq (names_of (codes "APPMODE") objects) ≡ true
  priorities : differ same_priority (of_kind (codes "TASK") objects) ≡ true

-- the objects so far, and the rules of each
abbrev KeptSoFar : List Object → List Object → Type 0
KeptSoFar objects earlier = IsKept earlier × AllByRecursion (λ o. attributes_fault objects o ≡ None) earlier

none_kept : IsKept []
none_kept = record {
  tasks = omega arith;
  isrs = omega arith;
  alarms = omega arith;
  resources = omega arith;
  modes = omega arith;
  code = refl;
  counter_names = refl;
  mode_names = refl;
  priorities = refl;
}

kept_more : (objects earlier : List Object) (o : Object) → IsKept earlier → IsSound objects earlier o → IsKept (earlier ++ o ∷ [])
kept_more objects earlier o before sound = record {
  tasks = few_more 16 (codes "TASK") earlier o before.tasks sound.tasks;
  isrs = few_more 8 (codes "ISR") earlier o before.isrs sound.isrs;
  alarms = few_more 16 (codes "ALARM") earlier o before.alarms sound.alarms;
  resources = few_more 8 (codes "RESOURCE") earlier o before.resources sound.resources;
  modes = few_more 4 (codes "APPMODE") earlier o before.modes sound.modes;
  code = code_step earlier o before.code sound.clash;
  counter_names = names_step (codes "COUNTER") earlier o before.counter_names sound.clash;
  mode_names = names_step (codes "APPMODE") earlier o before.mode_names sound.clash;
  priorities = priorities_step earlier o before.priorities sound.priority;
}

all_kept : (objects : List Object) → fault_from objects [] objects ≡ None → KeptSoFar objects objects
all_kept objects none =
    kept objects (KeptSoFar objects)
    (λ earlier o before sound. (kept_more objects earlier o before.0 sound, all-append (λ o. attributes_fault objects o ≡ None) earlier (o ∷ []) before.1 (sound.rule, tt)))
    [] objects (none_kept, tt) none

-- ---- lists that are made of the objects of a kind

-- what holds of what is made of each object of the kind that P holds of
all_of_kind : {B : Type 0} (P : Object → Type 0) (Q : B → Type 0) (kind : List ℕ) (f : Object → B) → ((o : Object) → P o → is_kind kind o ≡ true → Q (f o)) → (objects : List Object) → AllByRecursion P objects → AllByRecursion Q (map f (of_kind kind objects))
all_of_kind P Q kind f each [] all = tt
all_of_kind P Q kind f each (o ∷ objects) all = one (is_kind kind o) refl (all_of_kind P Q kind f each objects all.1)
  where
    one : (test : Bool) → is_kind kind o ≡ test → AllByRecursion Q (map f (of_kind kind objects)) → AllByRecursion Q (map f (of_kind kind (o ∷ objects)))
    one true is rest = rw is (each o all.0 is, rest)
    one false is rest = rw is rest

any_object : (objects : List Object) → AllByRecursion (λ o. Unit {0}) objects
any_object [] = tt
any_object (o ∷ objects) = (tt, any_object objects)

list_all-from : {A : Type 0} (p : A → Bool) (xs : List A) → AllByRecursion (λ x. p x ≡ true) xs → list_all p xs ≡ true
list_all-from p [] all = refl
list_all-from p (x ∷ xs) all = and_from (p x) (list_all p xs) all.0 (list_all-from p xs all.1)

names_formed : (kind : List ℕ) (objects : List Object) → AllByRecursion IsNamed objects → list_all is_name (names_of kind objects) ≡ true
names_formed kind objects named = list_all-from is_name (names_of kind objects) (all_of_kind IsNamed (λ n. is_name n ≡ true) kind (λ o. o.name) (λ o is _. is.1) objects named)

both_formed : {A : Type 0} (p : A → Bool) (xs ys : List A) → list_all p xs ≡ true → list_all p ys ≡ true → list_all p (xs ++ ys) ≡ true
both_formed p xs ys left right = list_all-append p xs ys ∙ and_from (list_all p xs) (list_all p ys) left right

made_names : {A : Type 0} (f : Object → A) (name : A → List ℕ) → ((o : Object) → name (f o) ≡ o.name) → (xs : List Object) → map name (map f xs) ≡ map (λ o. o.name) xs
made_names f name same [] = refl
made_names f name same (o ∷ xs) = rw (same o, made_names f name same xs) refl

code_names_same : (objects : List Object) → code_names (objects_system objects) ≡ code_names_of objects
code_names_same objects =
    rw (
      made_names (task_of objects) (λ t. t.name) (λ o. refl) (of_kind (codes "TASK") objects),
      made_names (isr_of objects) (λ i. i.name) (λ o. refl) (of_kind (codes "ISR") objects),
      made_names (alarm_of objects) (λ a. a.name) (λ o. refl) (of_kind (codes "ALARM") objects),
    ) refl

-- ---- the parts of a lawful system

resources_length : (objects : List Object) → length (resources_of objects) ≡ length (of_kind (codes "RESOURCE") objects) + 1
resources_length objects =
    length-append (map (resource_of objects) (of_kind (codes "RESOURCE") objects)) (scheduler_resource (top_priority objects) ∷ []) ∙ ap (λ n. n + 1) (length-map (of_kind (codes "RESOURCE") objects) (resource_of objects))

names_length : (kind : List ℕ) (objects : List Object) → length (names_of kind objects) ≡ length (of_kind kind objects)
names_length kind objects = length-map (of_kind kind objects) (λ o. o.name)

are_few : (objects : List Object) → IsKept objects → AreFew (objects_system objects)
are_few objects is = record {
  tasks = rw (length-map (of_kind (codes "TASK") objects) (task_of objects)) is.tasks;
  isrs = rw (length-map (of_kind (codes "ISR") objects) (isr_of objects)) is.isrs;
  resources = rw (resources_length objects) (let most = is.resources in omega arith);
  alarms = rw (length-map (of_kind (codes "ALARM") objects) (alarm_of objects)) is.alarms;
  modes = rw (names_length (codes "APPMODE") objects) is.modes;
}

shared_below : (objects : List Object) (own : List Attribute) → AreBelow (length (of_kind (codes "RESOURCE") objects) + 1) (ids_of objects Shared 1 (codes "RESOURCE") own)
shared_below objects own = ids_of-below objects Shared (length (of_kind (codes "RESOURCE") objects) + 1) (shared-below objects) 1 (codes "RESOURCE") own

modes_below : (objects : List Object) (own : List Attribute) → AreBelow (length (of_kind (codes "APPMODE") objects)) (start_modes objects own)
modes_below objects own = ids_of-below objects Mode (length (of_kind (codes "APPMODE") objects)) (id_of-below (codes "APPMODE") objects) 2 (codes "APPMODE") (start_block own)

is_task : (objects : List Object) (o : Object) → IsTask (objects_system objects) (task_of objects o)
is_task objects o = record {
  resources = rw (resources_length objects) (shared_below objects o.attributes);
  modes = rw (names_length (codes "APPMODE") objects) (modes_below objects o.attributes);
}

is_alarm : (objects : List Object) (o : Object) → NamesBoth objects o.attributes → IsAlarm (objects_system objects) (alarm_of objects o)
is_alarm objects o names = record {
  counter = rw (names_length (codes "COUNTER") objects) names.counter;
  task = rw (length-map (of_kind (codes "TASK") objects) (task_of objects)) names.task;
  modes = rw (names_length (codes "APPMODE") objects) (modes_below objects o.attributes);
}

are_names : (objects : List Object) → AllByRecursion IsNamed objects → AreNames (objects_system objects)
are_names objects named = record {
  code = rw (code_names_same objects)
      (both_formed is_name (names_of (codes "TASK") objects) (names_of (codes "ISR") objects ++ names_of (codes "ALARM") objects) (names_formed (codes "TASK") objects named)
      (both_formed is_name (names_of (codes "ISR") objects) (names_of (codes "ALARM") objects) (names_formed (codes "ISR") objects named) (names_formed (codes "ALARM") objects named)));
  resources = both_formed (λ r. is_name r.name) (map (resource_of objects) (of_kind (codes "RESOURCE") objects)) (scheduler_resource (top_priority objects) ∷ [])
      (list_all-from (λ r. is_name r.name) (map (resource_of objects) (of_kind (codes "RESOURCE") objects)) (all_of_kind IsNamed (λ r. is_name r.name ≡ true) (codes "RESOURCE") (resource_of objects) (λ o is _. is.1) objects named)) refl;
  counters = names_formed (codes "COUNTER") objects named;
  modes = names_formed (codes "APPMODE") objects named;
}

are_apart : (objects : List Object) → IsKept objects → AreApart (objects_system objects)
are_apart objects is = record {
  priorities = rw (differ-map (λ s t. nat_eq s.priority t.priority) (task_of objects) (of_kind (codes "TASK") objects)) is.priorities;
  code = rw (code_names_same objects) is.code;
  counters = is.counter_names;
  modes = is.mode_names;
}

objects_lawful : (objects : List Object) → AllByRecursion IsNamed objects → fault_from objects [] objects ≡ None → IsLawful (objects_system objects)
objects_lawful objects named none =
    let all = all_kept objects none in
    record {
      few = are_few objects all.0;
      scheduler_last = record { declared = map (resource_of objects) (of_kind (codes "RESOURCE") objects); ceiling = top_priority objects; same = refl };
      tasks = all_of_kind (λ o. Unit {0}) (IsTask (objects_system objects)) (codes "TASK") (task_of objects) (λ o _ _. is_task objects o) objects (any_object objects);
      alarms = all_of_kind (λ o. attributes_fault objects o ≡ None) (IsAlarm (objects_system objects)) (codes "ALARM") (alarm_of objects) (λ o sound is. is_alarm objects o (alarm_names objects o is sound)) objects all.1;
      names = are_names objects named;
      apart = are_apart objects all.0;
    }

system_lawful : (tree : Tree) → IsWellFormed tree → model_fault_of tree ≡ None → IsLawful (system_of tree)
system_lawful tree formed none = objects_lawful tree.objects (has_names tree formed) none

pub answer_lawful : (tree : Tree) (objects : List Object) (system : System) → objects ≡ tree.objects → None ≡ fault_from objects [] objects → system ≡ objects_system objects → IsWellFormed tree → IsLawful system
answer_lawful tree objects system is none same formed =
    let sound : model_fault_of tree ≡ None = subst (λ (os : List Object). fault_from os [] os ≡ None) is (sym none) in
    let built : system_of tree ≡ system = subst (λ (os : List Object). objects_system os ≡ system) is (sym same) in
    subst IsLawful built (system_lawful tree formed sound)
