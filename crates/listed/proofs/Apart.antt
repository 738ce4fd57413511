-- Lists whose members differ, as they are gone through from the first on.
use Rattle.std.proofs.Common.{◌≡◌, ℕ, suc, ◌+◌, ◌<◌, Bool, true, false, not, cond, List, [], ◌∷◌, ◌++◌, length, take, drop, get_or, Ordering, refl, sym, ap, ◌∙◌, subst}
use Rattle.std.specs.Prelude.{◌&&◌, ◌||◌}
use Rattle.std.specs.Ordering.{is_eq}
use Rattle.std.specs.List.{list_any}
use Rattle.std.proofs.lemmas.List.{take-append-drop, take_more}
use Rattle.std.proofs.lemmas.List.Folds.{list_any-append, list_any_more}
use Rattle.std.proofs.Math.Seq.{drop-cons}
use Rattle.listed.specs.Lists.{differ}

regrouped : (a b c d : Bool) → (not (a || (b || false)) && (c && not d)) ≡ ((not a && c) && not (b || d))
regrouped true b c d = refl
regrouped false true true d = refl
regrouped false true false d = refl
regrouped false false c d = refl

-- one more member differs from the ones before where none of them is the same
pub differ-push : {A : Type 0} (same : A → A → Bool) → ((x y : A) → same x y ≡ same y x) → (xs : List A) (x : A)
    → differ same (xs ++ x ∷ []) ≡ (differ same xs && not (list_any (same x) xs))
differ-push same symm [] x = refl
differ-push same symm (y ∷ ys) x =
    rw (differ-push same symm ys x, list_any-append (same y) ys (x ∷ []), symm y x) (regrouped (list_any (same y) ys) (same x y) (differ same ys) (list_any (same x) ys))

hidden : (a b c : Bool) → b ≡ true → (not (a || (b || c))) ≡ false
hidden true b c is = refl
hidden false b c is = rw is refl

after_false : (a b : Bool) → b ≡ false → (a && b) ≡ false
after_false true b is = is
after_false false b is = refl

either : (a b : Bool) → (a || b) ≡ true → b ≡ false → a ≡ true
either true b is none = refl
either false b is none = absurd cc

-- a member that is the same as one before
pub differ-twice : {A : Type 0} (same : A → A → Bool) → ((x y : A) → same x y ≡ same y x) → (xs ys : List A) (x : A)
    → list_any (same x) xs ≡ true → differ same (xs ++ x ∷ ys) ≡ false
differ-twice same symm [] ys x is = absurd cc
differ-twice same symm (y ∷ more) ys x is =
    elim (list_any (same x) more) as (λ found. (same x y || found) ≡ true → (list_any (same x) more ≡ found) → differ same ((y ∷ more) ++ x ∷ ys) ≡ false) [
      | true ↦ λ _ later. after_false _ _ (differ-twice same symm more ys x later)
      | false ↦ λ first _. rw (list_any-append (same y) more (x ∷ ys), hidden (list_any (same y) more) (same y x) (list_any (same y) ys) (symm y x ∙ either _ _ first refl)) refl
    ] is refl

joined : (b a : Bool) → cond b true a ≡ (a || b)
joined true true = refl
joined true false = refl
joined false true = refl
joined false false = refl

-- whether a member is among those that were gone through, one step on
pub among_more : {A : Type 0} (same : A → A → Bool) (order : A → A → Ordering)
    → ((x y : A) → same x y ≡ same y x) → ((x y : A) → same x y ≡ is_eq (order x y))
    → (xs : List A) (i : ℕ) (x k : A) → i < length xs → x ≡ get_or xs i x
    → cond (is_eq (order x k)) true (list_any (same k) (take i xs)) ≡ list_any (same k) (take (i + 1) xs)
among_more same order symm tied xs i x k lt at =
    rw (list_any_more (same k) xs i x lt, ← at, ← tied x k, symm x k) (joined (same k x) (list_any (same k) (take i xs)))

-- the members that were gone through still differ, one step on
pub apart_more : {A : Type 0} (same : A → A → Bool) → ((x y : A) → same x y ≡ same y x)
    → (xs : List A) (i : ℕ) (x : A) → i < length xs → x ≡ get_or xs i x
    → differ same (take i xs) ≡ true → list_any (same x) (take i xs) ≡ false → differ same (take (i + 1) xs) ≡ true
apart_more same symm xs i x lt at apart new =
    let step : take (i + 1) xs ≡ take i xs ++ x ∷ [] = take_more xs i x lt ∙ ap (λ y. take i xs ++ y ∷ []) (sym at) in
    rw (step, differ-push same symm (take i xs) x, apart, new) refl

-- one of them stands again
pub apart_none : {A : Type 0} (same : A → A → Bool) → ((x y : A) → same x y ≡ same y x)
    → (xs : List A) (i : ℕ) (x : A) → i < length xs → x ≡ get_or xs i x
    → list_any (same x) (take i xs) ≡ true → differ same xs ≡ false
apart_none same symm xs i x lt at seen =
    let rest : drop i xs ≡ x ∷ drop (suc i) xs = drop-cons xs i x lt ∙ ap (λ y. y ∷ drop (suc i) xs) (sym at) in
    subst (λ whole. differ same whole ≡ false) (ap (λ after. take i xs ++ after) (sym rest) ∙ take-append-drop i xs) (differ-twice same symm (take i xs) (drop (suc i) xs) x seen)

-- what a test was, by what its opposite is
pub was_true : (test opposite : Bool) → opposite ≡ not test → opposite ≡ false → test ≡ true
was_true true opposite is off = refl
was_true false opposite is off = cc

pub was_false : (test opposite : Bool) → opposite ≡ not test → opposite ≡ true → test ≡ false
was_false true opposite is on = cc
was_false false opposite is on = refl
