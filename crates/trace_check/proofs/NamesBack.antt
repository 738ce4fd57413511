-- The name of a place among names that differ is found at that place.
use Rattle.std.proofs.Common.{◌≡◌, ℕ, zero, suc, ◌<◌, Bool, true, false, not, List, [], ◌∷◌, ◌++◌, length, map, Some, refl, sym, ap, ◌∙◌, arith}
use Rattle.std.specs.Prelude.{bytes_eq}
use Rattle.std.specs.List.{list_any}
use Rattle.std.proofs.lemmas.Bool.{or_parts, and_parts, and_from, not-true, not_from_false}
use Rattle.std.proofs.lemmas.List.{append_assoc, append-nil}
use Rattle.std.proofs.lemmas.List.Folds.{list_any-append}
use Rattle.std.proofs.lemmas.Slice.Eq.{bytes_eq-Decides}
use Rattle.listed.specs.Lists.{differ}
use Rattle.oil_model.specs.declared.system.System.{System}
use Rattle.oil_model.specs.System.{IsLawful}
use Rattle.oil_model.proofs.Apart.{differ-insert}
use Rattle.trace_check.specs.Text.{source_names, context_names, place_named, name_at}
use Rattle.trace_check.proofs.Naming.{step, position_step}

-- ---- one list of names

none_at : (p : List ℕ → Bool) (names : List (List ℕ)) (place : ℕ) → list_any p names ≡ false → place < length names → p (name_at names place) ≡ false
none_at p [] place none below = absurd (omega arith)
none_at p (name ∷ names) zero none below = (or_parts (p name) (list_any p names) none).0
none_at p (name ∷ names) (suc place) none below = none_at p names place (or_parts (p name) (list_any p names) none).1 (omega arith)

pub name_back : (names : List (List ℕ)) (place : ℕ) → differ bytes_eq names ≡ true → place < length names
    → place_named (name_at names place) names ≡ Some place
name_back [] place apart below = absurd (omega arith)
name_back (name ∷ names) zero apart below =
    position_step (λ known. bytes_eq known name) name names
    ∙ ap (λ here. step here (place_named name names)) ((bytes_eq-Decides name name).1 refl)
name_back (name ∷ names) (suc place) apart below =
    let wanted = name_at names place in
    let parts = and_parts (not (list_any (bytes_eq name) names)) (differ bytes_eq names) apart in
    let away : bytes_eq name wanted ≡ false = none_at (bytes_eq name) names place (not-true (list_any (bytes_eq name) names) parts.0) (omega arith) in
    position_step (λ known. bytes_eq known wanted) name names
    ∙ rw (away, name_back names place parts.1 (omega arith)) refl

-- ---- two lists

pub alike : (x y : Bool) → (x ≡ true → y ≡ true) → (y ≡ true → x ≡ true) → x ≡ y
alike true y there back = sym (there refl)
alike false true there back = back refl
alike false false there back = refl

symmetric : (a b : List ℕ) → bytes_eq a b ≡ bytes_eq b a
symmetric a b = alike (bytes_eq a b) (bytes_eq b a) (turned a b) (turned b a)
  where
    turned : (a b : List ℕ) → bytes_eq a b ≡ true → bytes_eq b a ≡ true
    turned a b is = (bytes_eq-Decides b a).1 (sym ((bytes_eq-Decides a b).0 is))

any_symmetric : (name : List ℕ) (names : List (List ℕ)) → list_any (λ y. bytes_eq y name) names ≡ list_any (bytes_eq name) names
any_symmetric name [] = refl
any_symmetric name (other ∷ names) = rw (symmetric other name, any_symmetric name names) refl

behind : (xs ys : List (List ℕ)) → differ bytes_eq (xs ++ ys) ≡ true → differ bytes_eq ys ≡ true
behind [] ys apart = apart
behind (x ∷ xs) ys apart = behind xs ys (and_parts (not (list_any (bytes_eq x) (xs ++ ys))) (differ bytes_eq (xs ++ ys)) apart).1

in_front : (xs ys : List (List ℕ)) → differ bytes_eq (xs ++ ys) ≡ true → differ bytes_eq xs ≡ true
in_front [] ys apart = refl
in_front (x ∷ xs) ys apart =
    let parts = and_parts (not (list_any (bytes_eq x) (xs ++ ys))) (differ bytes_eq (xs ++ ys)) apart in
    let none = or_parts (list_any (bytes_eq x) xs) (list_any (bytes_eq x) ys)
    (sym (list_any-append (bytes_eq x) xs ys) ∙ not-true (list_any (bytes_eq x) (xs ++ ys)) parts.0) in
    and_from (not (list_any (bytes_eq x) xs)) (differ bytes_eq xs) (not_from_false (list_any (bytes_eq x) xs) none.0) (in_front xs ys parts.1)

swapped : (xs ys : List (List ℕ)) → differ bytes_eq (xs ++ ys) ≡ true → differ bytes_eq (ys ++ xs) ≡ true
swapped [] ys apart = rw append-nil apart
swapped (x ∷ xs) ys apart =
    let parts = and_parts (not (list_any (bytes_eq x) (xs ++ ys))) (differ bytes_eq (xs ++ ys)) apart in
    let none = or_parts (list_any (bytes_eq x) xs) (list_any (bytes_eq x) ys)
    (sym (list_any-append (bytes_eq x) xs ys) ∙ not-true (list_any (bytes_eq x) (xs ++ ys)) parts.0) in
    differ-insert bytes_eq x ys xs (swapped xs ys parts.1) (any_symmetric x ys ∙ none.1) none.0

-- ---- the names of a system

pub sources_differ : (system : System) → IsLawful system → differ bytes_eq (source_names system) ≡ true
sources_differ system lawful =
    swapped (map (λ isr. isr.name) system.isrs) (map (λ alarm. alarm.name) system.alarms)
    (behind (map (λ task. task.name) system.tasks) (map (λ isr. isr.name) system.isrs ++ map (λ alarm. alarm.name) system.alarms) lawful.apart.code)

pub contexts_differ : (system : System) → IsLawful system → differ bytes_eq (context_names system) ≡ true
contexts_differ system lawful =
    let tasks = map (λ task. task.name) system.tasks in
    let isrs = map (λ isr. isr.name) system.isrs in
    let alarms = map (λ alarm. alarm.name) system.alarms in
    in_front (tasks ++ isrs) alarms (rw (append_assoc tasks isrs alarms) lawful.apart.code)
