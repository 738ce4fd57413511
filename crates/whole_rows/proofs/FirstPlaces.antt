-- Combinations of the first places of rows, and how many entries of a row are wide.
use Rattle.std.proofs.Common.{◌≡◌, ℕ, zero, suc, ◌+◌, ◌<◌, ◌≤◌, ◌^◌, Bool, true, false, cond, ◌||◌, nat_lt, List, [], ◌∷◌, ◌++◌, length, get_or, set, take, drop, ℤ, pos, negsuc, int_lt, ◌<ℤ◌, ◌≤ℤ◌, ◌-ℤ◌, ◌*ℤ◌, ◌-◌, unsigned_abs, Some, None, Result, Ok, Err, All, refl, sym, ◌∙◌, ap, subst, arith}
use Rattle.std.specs.List.{position_or_len}
use Rattle.std.proofs.lemmas.Bool.{lt-ltb, le-ltb}
use Rattle.std.proofs.lemmas.Bool.Decides.{nat_tests}
use Rattle.std.proofs.lemmas.Int.{ints, unsigned_abs-mul}
use Rattle.std.proofs.lemmas.List.Elements.{All-nil, All-cons, All-head, All-tail}
use Rattle.std.proofs.lemmas.List.Sums.{count_by-le-length, get_or-le-sum_by, position_or_len_is, sum_by-cons, sum_by-set}
use Rattle.std.proofs.lemmas.List.{length-set}
use Rattle.std.proofs.Math.Nat.{mul-le-mul}
use Rattle.whole_rows.specs.Row.{AreInRange, IsInRange, IsNarrow, is_in_range, combined_entry, cons_entry, combination, first_negative_of}
use Rattle.whole_rows.specs.Working.Wide.{is_wide, wide_of, wide_count}
use Rattle.whole_rows.proofs.Combinations.{append_entries, append_entries-none, combined_entry-ok}

-- ---- the first places

-- an entry behind those of a combination
abbrev push_entry : ℤ → Result (List ℤ) (ℤ × ℤ) → Result (List ℤ) (ℤ × ℤ)
push_entry entry (Ok entries) = Ok (entries ++ entry ∷ [])
push_entry entry (Err wide) = Err wide

cons-push : (one : Result ℤ (ℤ × ℤ)) (entries : Result (List ℤ) (ℤ × ℤ)) (entry : ℤ) → cons_entry one (push_entry entry entries) ≡ push_entry entry (cons_entry one entries)
cons-push (Err wide) entries entry = refl
cons-push (Ok first) (Err wide) entry = refl
cons-push (Ok first) (Ok entries) entry = refl

pushed : (row : List ℤ) (p : ℤ) (other : List ℤ) (a : ℤ) (i : ℕ) (entry : ℤ) → i < length row → length row ≡ length other → combined_entry p (get_or row i (pos 0)) a (get_or other i (pos 0)) ≡ Ok entry → combination (take (suc i) row) p (take (suc i) other) a ≡ push_entry entry (combination (take i row) p (take i other) a)
pushed [] p other a i entry h e is = absurd (omega arith)
pushed (x ∷ row) p [] a i entry h e is = absurd (omega arith)
pushed (x ∷ row) p (y ∷ other) a zero entry h e is = ap (λ (one : Result ℤ (ℤ × ℤ)). cons_entry one (Ok [])) is
pushed (x ∷ row) p (y ∷ other) a (suc i) entry h e is =
    ap (cons_entry (combined_entry p x a y)) (pushed row p other a i entry (omega arith) (omega arith) is)
    ∙ cons-push (combined_entry p x a y) (combination (take i row) p (take i other) a) entry

-- the next place has an entry
pub combination_push : (row : List ℤ) (p : ℤ) (other : List ℤ) (a : ℤ) (i j : ℕ) (entries : List ℤ) (x y entry : ℤ) → i < length row → length row ≡ length other → j ≡ i + 1 → x ≡ get_or row i (pos 0) → y ≡ get_or other i (pos 0) → combined_entry p x a y ≡ Ok entry → combination (take i row) p (take i other) a ≡ Ok entries → combination (take j row) p (take j other) a ≡ Ok (entries ++ entry ∷ [])
combination_push row p other a i j entries x y entry h e next at_x at_y is before =
    let here : combined_entry p (get_or row i (pos 0)) a (get_or other i (pos 0)) ≡ Ok entry = rw (← at_x, ← at_y) is in
    let j_is : j ≡ suc i = omega arith in
    rw j_is (pushed row p other a i entry h e here ∙ ap (push_entry entry) before)

-- what comes behind the entries of the first places, if those have entries
abbrev behind : Result (List ℤ) (ℤ × ℤ) → Result (List ℤ) (ℤ × ℤ) → Result (List ℤ) (ℤ × ℤ)
behind (Ok entries) rest = append_entries entries rest
behind (Err wide) rest = Err wide

cons-behind : (one : Result ℤ (ℤ × ℤ)) (entries rest : Result (List ℤ) (ℤ × ℤ)) → cons_entry one (behind entries rest) ≡ behind (cons_entry one entries) rest
cons-behind (Err wide) entries rest = refl
cons-behind (Ok first) (Err wide) rest = refl
cons-behind (Ok first) (Ok entries) (Ok rest) = refl
cons-behind (Ok first) (Ok entries) (Err wide) = refl

split : (row : List ℤ) (p : ℤ) (other : List ℤ) (a : ℤ) (i : ℕ) → length row ≡ length other → combination row p other a ≡ behind (combination (take i row) p (take i other) a) (combination (drop i row) p (drop i other) a)
split row p other a zero e = append_entries-none (combination row p other a)
split [] p [] a (suc i) e = refl
split [] p (y ∷ other) a (suc i) e = absurd (omega arith)
split (x ∷ row) p [] a (suc i) e = absurd (omega arith)
split (x ∷ row) p (y ∷ other) a (suc i) e =
    ap (cons_entry (combined_entry p x a y)) (split row p other a i (omega arith))
    ∙ cons-behind (combined_entry p x a y) (combination (take i row) p (take i other) a) (combination (drop i row) p (drop i other) a)

-- the whole, from the first places
pub combination_split : (row : List ℤ) (p : ℤ) (other : List ℤ) (a : ℤ) (i : ℕ) (entries : List ℤ) → length row ≡ length other → combination (take i row) p (take i other) a ≡ Ok entries → combination row p other a ≡ append_entries entries (combination (drop i row) p (drop i other) a)
combination_split row p other a i entries e is =
    split row p other a i e ∙ ap (λ (first : Result (List ℤ) (ℤ × ℤ)). behind first (combination (drop i row) p (drop i other) a)) is

pub four_pushed : (entries : List ℤ) (first second third fourth : ℤ) → (((entries ++ first ∷ []) ++ second ∷ []) ++ third ∷ []) ++ fourth ∷ [] ≡ entries ++ first ∷ second ∷ third ∷ fourth ∷ []
four_pushed [] first second third fourth = refl
four_pushed (x ∷ entries) first second third fourth = ap (λ row. x ∷ row) (four_pushed entries first second third fourth)

-- ---- the entries of a combination are in range

abbrev wide_bit : Bool → ℕ
wide_bit b = cond b 1 0

abbrev OneInRange : Result ℤ (ℤ × ℤ) → Type 0
OneInRange (Ok entry) = IsInRange entry
OneInRange (Err wide) = Unit {0}

abbrev RowInRange : Result (List ℤ) (ℤ × ℤ) → Type 0
RowInRange (Ok entries) = AreInRange entries
RowInRange (Err wide) = Unit {0}

by_range : (z : ℤ) (wide : ℤ × ℤ) (b : Bool) → is_in_range z ≡ b → OneInRange (cond b (Ok z) (Err wide))
by_range z wide true e = grind (arith, nat_tests)
by_range z wide false e = tt

if_in_range : (b : Bool) (one : Result ℤ (ℤ × ℤ)) (wide : ℤ × ℤ) → OneInRange one → OneInRange (cond b one (Err wide))
if_in_range true one wide h = h
if_in_range false one wide h = tt

entry_in_range : (p x a y : ℤ) → OneInRange (combined_entry p x a y)
entry_in_range p x a y =
    let z : ℤ = p *ℤ x -ℤ a *ℤ y in
    let both : ℤ × ℤ = (p *ℤ x, a *ℤ y) in
    if_in_range (is_in_range (p *ℤ x)) (cond (is_in_range (a *ℤ y)) (cond (is_in_range z) (Ok z) (Err both)) (Err (a, y))) (p, x)
    (if_in_range (is_in_range (a *ℤ y)) (cond (is_in_range z) (Ok z) (Err both)) (a, y) (by_range z both (is_in_range z) refl))

cons_in_range : (one : Result ℤ (ℤ × ℤ)) (rest : Result (List ℤ) (ℤ × ℤ)) → OneInRange one → RowInRange rest → RowInRange (cons_entry one rest)
cons_in_range (Err wide) rest h k = tt
cons_in_range (Ok entry) (Err wide) h k = tt
cons_in_range (Ok entry) (Ok entries) h k = All-cons IsInRange entry entries h k

all_in_range : (row : List ℤ) (p : ℤ) (other : List ℤ) (a : ℤ) → RowInRange (combination row p other a)
all_in_range [] p other a = All-nil IsInRange
all_in_range (x ∷ row) p [] a = All-nil IsInRange
all_in_range (x ∷ row) p (y ∷ other) a =
    cons_in_range (combined_entry p x a y) (combination row p other a) (entry_in_range p x a y) (all_in_range row p other a)

pub combination_in_range : (row : List ℤ) (p : ℤ) (other : List ℤ) (a : ℤ) (entries : List ℤ) → combination row p other a ≡ Ok entries → AreInRange entries
combination_in_range row p other a entries is = subst RowInRange is (all_in_range row p other a)

-- ---- numbers of 31 bits

pub narrow_product : (a b : ℤ) → IsNarrow a → IsNarrow b → unsigned_abs (a *ℤ b) < 2 ^ 62
narrow_product a b h k =
    let one : unsigned_abs a ≤ 2 ^ 31 - 1 = omega arith in
    let other : unsigned_abs b ≤ 2 ^ 31 - 1 = omega arith in
    rw unsigned_abs-mul (omega (arith, mul-le-mul one other))

pub narrow_difference : (p x a y : ℤ) → IsNarrow p → IsNarrow x → IsNarrow a → IsNarrow y → unsigned_abs (p *ℤ x -ℤ a *ℤ y) < 2 ^ 63
narrow_difference p x a y h k l m = omega (arith, ints, narrow_product p x h k, narrow_product a y l m)

pub narrow_combined : (p x a y : ℤ) → IsNarrow p → IsNarrow x → IsNarrow a → IsNarrow y → combined_entry p x a y ≡ Ok (p *ℤ x -ℤ a *ℤ y)
narrow_combined p x a y h k l m =
    combined_entry-ok p x a y (p *ℤ x) (a *ℤ y) (p *ℤ x -ℤ a *ℤ y) (omega (arith, narrow_product p x h k)) refl (omega (arith, narrow_product a y l m)) refl
    (omega (arith, narrow_difference p x a y h k l m)) refl

-- ---- how many entries are wide

narrow_from_wide_of : (x : ℤ) → wide_of x ≡ 0 → IsNarrow x
narrow_from_wide_of x h = by_test (is_wide x) refl h
  where
    by_test : (b : Bool) → is_wide x ≡ b → wide_bit b ≡ 0 → IsNarrow x
    by_test true e z = absurd (omega (arith, z))
    by_test false e z = grind (arith, nat_tests)

wide_of-narrow : (x : ℤ) → IsNarrow x → wide_of x ≡ 0
wide_of-narrow x h = by_test (is_wide x) refl
  where
    by_test : (b : Bool) → is_wide x ≡ b → wide_bit b ≡ 0
    by_test true e = absurd (grind (arith, nat_tests))
    by_test false e = refl

pub narrow_from_count : (row : List ℤ) → wide_count row ≡ 0 → All IsNarrow row
narrow_from_count [] h = All-nil IsNarrow
narrow_from_count (x ∷ row) h =
    All-cons IsNarrow x row (narrow_from_wide_of x (omega (arith, sum_by-cons wide_of x row, h))) (narrow_from_count row (omega (arith, sum_by-cons wide_of x row, h)))

pub count_from_narrow : (row : List ℤ) → All IsNarrow row → wide_count row ≡ 0
count_from_narrow [] h = refl
count_from_narrow (x ∷ row) h =
    omega (arith, sum_by-cons wide_of x row, wide_of-narrow x (All-head IsNarrow x row h), count_from_narrow row (All-tail IsNarrow x row h))

pub wide_count-le-length : (row : List ℤ) → wide_count row ≤ length row
wide_count-le-length row = count_by-le-length is_wide row

-- the count with another entry in the place of one
pub wide_count-set : (row : List ℤ) (i wide gone come : ℕ) (x y : ℤ) → i < length row → x ≡ get_or row i x → gone ≡ wide_of x → come ≡ wide_of y → wide ≡ wide_count row → (wide - gone + come ≡ wide_count (set row i y)) × (wide - gone + come ≤ length row)
wide_count-set row i wide gone come x y h at_x at_gone at_come counted =
    let left : wide_of (get_or row i x) ≡ gone = ap wide_of (sym at_x) ∙ sym at_gone in
    let sum = sum_by-set wide_of row i y x h in
    let part = get_or-le-sum_by wide_of row i x h in
    let is : wide - gone + come ≡ wide_count (set row i y) = omega (arith, left, sum, part, at_come, counted) in
    (is, omega (arith, is, wide_count-le-length (set row i y), length-set row i y))

-- ---- four places more without a negative entry

none_of_four : (a b c d : Bool) → (a || b || c || d) ≡ false → (a ≡ false) × (b ≡ false) × (c ≡ false) × (d ≡ false)
none_of_four true b c d e = absurd (cc)
none_of_four false true c d e = absurd (cc)
none_of_four false false true d e = absurd (cc)
none_of_four false false false true e = absurd (cc)
none_of_four false false false false e = (refl, refl, refl, refl)

not_negative : (x : ℤ) → int_lt x (pos 0) ≡ false → pos 0 ≤ℤ x
not_negative (pos n) e = omega (arith, ints)
not_negative (negsuc n) e = absurd (cc)

pub one_more : (P : ℕ → Type 0) (i j : ℕ) → j ≡ i + 1 → P i → ((k : ℕ) → k < i → P k) → (k : ℕ) → k < j → P k
one_more P i j next here before k h = by_test (nat_lt k i) refl
  where
    by_test : (b : Bool) → nat_lt k i ≡ b → P k
    by_test true e = before k (grind (arith, nat_tests))
    by_test false e = let same : i ≡ k = grind (arith, nat_tests) in subst P same here

pub four_more : (row : List ℤ) (i : ℕ) (found : Bool) → found ≡ (int_lt (get_or row i (pos 0)) (pos 0) || int_lt (get_or row (i + 1) (pos 0)) (pos 0) || int_lt (get_or row (i + 2) (pos 0)) (pos 0) || int_lt (get_or row (i + 3) (pos 0)) (pos 0)) → found ≡ false → ((k : ℕ) → k < i → pos 0 ≤ℤ get_or row k (pos 0)) → (k : ℕ) → k < i + 4 → pos 0 ≤ℤ get_or row k (pos 0)
four_more row i found is not_found before =
    let P : ℕ → Type 0 = λ k. pos 0 ≤ℤ get_or row k (pos 0) in
    let none = none_of_four (int_lt (get_or row i (pos 0)) (pos 0)) (int_lt (get_or row (i + 1) (pos 0)) (pos 0)) (int_lt (get_or row (i + 2) (pos 0)) (pos 0)) (int_lt (get_or row (i + 3) (pos 0)) (pos 0)) (sym is ∙ not_found) in
    one_more P (i + 3) (i + 4) (omega arith) (not_negative (get_or row (i + 3) (pos 0)) none.3)
    (one_more P (i + 2) (i + 3) (omega arith) (not_negative (get_or row (i + 2) (pos 0)) none.2)
    (one_more P (i + 1) (i + 2) (omega arith) (not_negative (get_or row (i + 1) (pos 0)) none.1)
    (one_more P i (i + 1) refl (not_negative (get_or row i (pos 0)) none.0) before)))

negative_is : (x : ℤ) → x <ℤ pos 0 → int_lt x (pos 0) ≡ true
negative_is (pos n) h = absurd (omega (arith, ints))
negative_is (negsuc n) h = refl

not_negative_is : (x : ℤ) → pos 0 ≤ℤ x → int_lt x (pos 0) ≡ false
not_negative_is (pos n) h = le-ltb n 0 (omega arith)
not_negative_is (negsuc n) h = absurd (omega (arith, ints))

at_position : (row : List ℤ) (i : ℕ) → position_or_len (λ x. int_lt x (pos 0)) row ≡ i → first_negative_of row ≡ cond (nat_lt i (length row)) (Some i) None
at_position row i e = rw e refl

pub first_negative_at : (row : List ℤ) (i : ℕ) → i < length row → get_or row i (pos 0) <ℤ pos 0 → ((k : ℕ) → k < i → pos 0 ≤ℤ get_or row k (pos 0)) → Some i ≡ first_negative_of row
first_negative_at row i h negative before =
    let here : position_or_len (λ x. int_lt x (pos 0)) row ≡ i =
    position_or_len_is (λ x. int_lt x (pos 0)) row i (pos 0) (omega arith) (λ k l. not_negative_is (get_or row k (pos 0)) (before k l)) (λ _. negative_is (get_or row i (pos 0)) negative) in
    sym (at_position row i here ∙ ap (λ b. cond b (Some i) None) (lt-ltb i (length row) h))

pub first_negative_none : (row : List ℤ) (i : ℕ) → length row ≡ i → ((k : ℕ) → k < i → pos 0 ≤ℤ get_or row k (pos 0)) → None ≡ first_negative_of row
first_negative_none row i h before =
    let here : position_or_len (λ x. int_lt x (pos 0)) row ≡ i =
    position_or_len_is (λ x. int_lt x (pos 0)) row i (pos 0) (omega arith) (λ k l. not_negative_is (get_or row k (pos 0)) (before k l)) (λ l. absurd (omega arith)) in
    sym (at_position row i here ∙ ap (λ b. cond b (Some i) None) (le-ltb i (length row) (omega arith)))
