-- The entering place is among columns and slacks, and the objective row is negative there; where none enters, it is negative nowhere.
use Rattle.std.proofs.Common.{◌≡◌, ℕ, ◌<◌, ◌≤◌, Bool, true, false, not, cond, List, length, take, ℤ, pos, ◌≤ℤ◌, ◌<ℤ◌, refl, subst, arith}
use Rattle.std.specs.Prelude.{Some, None, int_lt, nat_lt}
use Rattle.std.specs.List.{prefix_len}
use Rattle.std.proofs.lemmas.Int.{ints}
use Rattle.std.proofs.lemmas.Bool.Decides.{nat_tests}
use Rattle.std.proofs.lemmas.List.{get_or-take, length-take}
use Rattle.std.proofs.lemmas.List.Sums.{prefix_len_passes, prefix_len_stops}
use Rattle.whole_rows.specs.Row.{first_negative_of}
use Rattle.whole_simplex.specs.Tables.{entry, entering}

not_negative_from : (x : ℤ) → not (int_lt x (pos 0)) ≡ true → pos 0 ≤ℤ x
not_negative_from x h = grind (arith, ints)

negative_from : (x : ℤ) → not (int_lt x (pos 0)) ≡ false → x <ℤ pos 0
negative_from x h = grind (arith, ints)

some_of_test : (b : Bool) (n k : ℕ) → cond b (Some n) None ≡ Some k → (b ≡ true) × (n ≡ k)
some_of_test true n k h = (refl, cc)
some_of_test false n k h = absurd (cc)

none_of_test : (b : Bool) (n : ℕ) → cond b (Some n) None ≡ None → b ≡ false
none_of_test true n h = absurd (cc)
none_of_test false n h = refl

abbrev leading : List ℤ → ℕ
leading row = prefix_len (λ x. not (int_lt x (pos 0))) row

first_negative-some : (row : List ℤ) (k : ℕ) → first_negative_of row ≡ Some k → (k < length row) × (entry row k <ℤ pos 0)
first_negative-some row k h =
    let parts = some_of_test (nat_lt (leading row) (length row)) (leading row) k h in
    let within : leading row < length row = grind (arith, nat_tests, parts.0) in
    let there : entry row (leading row) <ℤ pos 0 =
    negative_from (entry row (leading row)) (prefix_len_stops (λ x. not (int_lt x (pos 0))) row (pos 0) within) in
    (subst (λ n. n < length row) parts.1 within, subst (λ n. entry row n <ℤ pos 0) parts.1 there)

first_negative-none : (row : List ℤ) (k : ℕ) → first_negative_of row ≡ None → k < length row → pos 0 ≤ℤ entry row k
first_negative-none row k h within =
    let fails = none_of_test (nat_lt (leading row) (length row)) (leading row) h in
    let whole : length row ≤ leading row = grind (arith, nat_tests, fails) in
    not_negative_from (entry row k) (prefix_len_passes (λ x. not (int_lt x (pos 0))) row k (pos 0) (omega arith))

pub entering-some : (width : ℕ) (objective : List ℤ) (place : ℕ) → entering width objective ≡ Some place → (place < width) × (entry objective place <ℤ pos 0)
entering-some width objective place h =
    let found = first_negative-some (take width objective) place h in
    let within : place < width = omega (arith, found.0, length-take width objective) in
    (within, subst (λ x. x <ℤ pos 0) (get_or-take width objective place (pos 0) within) found.1)

pub entering-none : (width : ℕ) (objective : List ℤ) (place : ℕ) → width ≤ length objective → entering width objective ≡ None → place < width → pos 0 ≤ℤ entry objective place
entering-none width objective place long h within =
    subst (λ x. pos 0 ≤ℤ x) (get_or-take width objective place (pos 0) within)
    (first_negative-none (take width objective) place h (omega (arith, length-take width objective)))
