-- How the states are listed, one after the other.
use Rattle.std.proofs.Common.{◌≡◌, ℕ, zero, suc, ◌+◌, ◌<◌, Bool, List, [], ◌∷◌, ◌++◌, length, take, get_or, refl, sym, ap, ◌∙◌, arith}
use Rattle.std.specs.Prelude.{flat_map}
use Rattle.std.specs.List.{range_with_len}
use Rattle.std.proofs.lemmas.List.{take_more, append-nil, length-take}
use Rattle.std.proofs.lemmas.List.Concat.{flat_map-append}
use Rattle.demo_gen.specs.Demo.{task_at, tasks_at}

tasks_at-push : (number : ℕ) (set : List Bool) (active : Bool) → tasks_at number (set ++ active ∷ []) ≡ tasks_at number set ++ task_at (number + length set) active ∷ []
tasks_at-push number [] active = let same : number + 0 ≡ number = omega arith in rw same refl
tasks_at-push number (first ∷ set) active =
    let same : number + suc (length set) ≡ suc number + length set = omega arith in
    rw (same, tasks_at-push (suc number) set active) refl

-- one task more
pub tasks_at-more : (set : List Bool) (i : ℕ) (active : Bool) → i < length set → active ≡ get_or set i active
    → tasks_at 0 (take (i + 1) set) ≡ tasks_at 0 (take i set) ++ task_at i active ∷ []
tasks_at-more set i active below at =
    let count : 0 + length (take i set) ≡ i = omega (arith, length-take i set) in
    let step : take (i + 1) set ≡ take i set ++ active ∷ [] = take_more set i active below ∙ ap (λ y. take i set ++ y ∷ []) (sym at) in
    ap (tasks_at 0) step ∙ tasks_at-push 0 (take i set) active ∙ ap (λ n. tasks_at 0 (take i set) ++ task_at n active ∷ []) count

-- one number more
range_more : (from count : ℕ) → range_with_len from (suc count) ≡ range_with_len from count ++ (from + count) ∷ []
range_more from zero = let same : from + 0 ≡ from = omega arith in rw same refl
range_more from (suc count) =
    let same : from + suc count ≡ (from + 1) + count = omega arith in
    rw same (ap (λ rest. from ∷ rest) (range_more (from + 1) count))

pub flat_map-range_more : {A : Type 0} (f : ℕ → List A) (count : ℕ) → flat_map f (range_with_len 0 (suc count)) ≡ flat_map f (range_with_len 0 count) ++ f count
flat_map-range_more f count =
    let same : 0 + count ≡ count = omega arith in
    ap (flat_map f) (range_more 0 count ∙ ap (λ n. range_with_len 0 count ++ n ∷ []) same)
    ∙ flat_map-append f (range_with_len 0 count) (count ∷ []) ∙ ap (λ rest. flat_map f (range_with_len 0 count) ++ rest) (append-nil (f count))
