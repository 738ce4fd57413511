-- The value of a lifted multiplier: never below 0, and what it makes of sums over columns.
use Rattle.std.proofs.Common.{◌≡◌, ◌≢◌, ℕ, zero, suc, ◌+◌, ◌^◌, ◌<◌, ◌≤◌, List, [], ◌∷◌, map, length, get_or, take, set, ℤ, pos, ◌+ℤ◌, ◌*ℤ◌, ◌≤ℤ◌, ◌<ℤ◌, unsigned_abs, All, false, refl, sym, ap, ◌∙◌, inl, inr, ◌⊎◌, arith}
use Rattle.std.proofs.lemmas.Bool.{cases_lt, cases_eq}
use Rattle.std.proofs.lemmas.Int.{ints}
use Rattle.std.proofs.lemmas.List.{get_or-map, get_or_past, length-map, get_or-set_same, take_all}
use Rattle.std.proofs.lemmas.List.Sums.{sum_by-take-le, get_or-le-sum_by}
use Rattle.whole_rows.specs.Rows.{RowsData, entry_at, cost_at, column_of, column_sum, product_sum}
use Rattle.whole_rows.specs.Duals.{HasSmallSizes}
use Rattle.whole_rows.proofs.Whole.{nat-mul-le-mul}
use Rattle.whole_rows.proofs.Totals.{product_sum_more}
use Rattle.whole_simplex.specs.Answers.{IsSmall}
use Rattle.whole_simplex.specs.Outcome.{is_large}
use Rattle.row_squeeze.specs.Lift.{lifted_value}
use Rattle.row_squeeze.proofs.Products.{sum_not_positive, times_zero}
use Rattle.row_squeeze.proofs.Points.{not_positive_times}
use Rattle.row_squeeze.proofs.Walking.{small_is, sum_size}

pub column-at : (d : RowsData) (column i : ℕ) → get_or (column_of d column) i (pos 0) ≡ entry_at d i column
column-at d column i = by_size (cases_lt i (length d.rows))
  where
    by_size : (i < length d.rows) ⊎ (length d.rows ≤ i) → get_or (column_of d column) i (pos 0) ≡ entry_at d i column
    by_size (inl h) = get_or-map (λ row. get_or row column (pos 0)) d.rows i [] (pos 0) h
    by_size (inr h) = get_or_past (column_of d column) i (pos 0) (rw length-map h) ∙ sym (ap (λ (row : List ℤ). get_or row column (pos 0)) (get_or_past d.rows i [] h))

pub abs-set : (ms : List ℤ) (i : ℕ) (v : ℤ) → map unsigned_abs (set ms i v) ≡ set (map unsigned_abs ms) i (unsigned_abs v)
abs-set [] i v = refl
abs-set (m ∷ ms) zero v = refl
abs-set (m ∷ ms) (suc i) v = ap (λ ns. unsigned_abs m ∷ ns) (abs-set ms i v)

pub set_again : (ms : List ℤ) (i : ℕ) (a b : ℤ) → set (set ms i a) i b ≡ set ms i b
set_again [] i a b = refl
set_again (m ∷ ms) zero a b = refl
set_again (m ∷ ms) (suc i) a b = ap (λ ns. m ∷ ns) (set_again ms i a b)

-- the sum over the other rows, none of which has an entry above 0
others-sum : (d : RowsData) (ms : List ℤ) (row column : ℕ) → row < length ms → ((other : ℕ) → other ≢ row → entry_at d other column ≤ℤ pos 0) → column_sum d (map unsigned_abs (set ms row (pos 0))) column ≤ℤ pos 0
others-sum d ms row column h others =
    sum_not_positive (column_of d column) (map unsigned_abs (set ms row (pos 0))) (λ j. by_row j (cases_eq j row))
  where
    by_row : (j : ℕ) → (j ≡ row) ⊎ (j ≡ row → ⊥) → (get_or (column_of d column) j (pos 0) *ℤ pos (get_or (map unsigned_abs (set ms row (pos 0))) j 0)) ≤ℤ pos 0
    by_row j (inl e) =
        let none : get_or (map unsigned_abs (set ms row (pos 0))) j 0 ≡ 0 = rw e (ap (λ (ns : List ℕ). get_or ns row 0) (abs-set ms row (pos 0)) ∙ get_or-set_same (map unsigned_abs ms) row 0 0 (rw length-map h)) in
        omega (arith, ints, times_zero (get_or (column_of d column) j (pos 0)) (get_or (map unsigned_abs (set ms row (pos 0))) j 0) none)
    by_row j (inr n) =
        let low : get_or (column_of d column) j (pos 0) ≤ℤ pos 0 = rw column-at (others j n) in
        let less = not_positive_times (get_or (column_of d column) j (pos 0)) 0 (get_or (map unsigned_abs (set ms row (pos 0))) j 0) low (omega arith) in
        omega (arith, ints, times_zero (get_or (column_of d column) j (pos 0)) 0 refl)

small_times : (denominator cost : ℤ) → IsSmall denominator → pos 0 ≤ℤ cost → pos 0 ≤ℤ (denominator *ℤ cost)
small_times denominator cost small h =
    let more = nat-mul-le-mul (pos 0) cost (unsigned_abs denominator) h in
    rw (small_is denominator small) (omega (arith, ints))

pub value-not_negative : (d : RowsData) (denominator : ℤ) (ms : List ℤ) (row column : ℕ) → IsSmall denominator → pos 0 ≤ℤ cost_at d column → row < length ms → ((other : ℕ) → other ≢ row → entry_at d other column ≤ℤ pos 0) → pos 0 ≤ℤ lifted_value d denominator ms row column
value-not_negative d denominator ms row column small cost h others =
    let sum = others-sum d ms row column h others in
    let more = small_times denominator (cost_at d column) small cost in
    omega (arith, ints)

-- ---- sizes

pub entry_size : (d : RowsData) (row column : ℕ) → HasSmallSizes d → column < length d.costs → row < length d.rows → unsigned_abs (entry_at d row column) < 2 ^ 40
entry_size d row column sizes h k =
    let size = sizes.columns column h in
    let most = get_or-le-sum_by unsigned_abs (column_of d column) row (pos 0) (rw length-map k) in
    rw (← column-at) (omega arith)

pub total_size : (d : RowsData) (column i : ℕ) (ms : List ℤ) → HasSmallSizes d → column < length d.costs → All IsSmall ms → unsigned_abs (product_sum (take i (column_of d column)) (map unsigned_abs ms)) < 2 ^ 120
total_size d column i ms sizes h small =
    let size = sizes.columns column h in
    let most = sum_size (take i (column_of d column)) ms small in
    let part = sum_by-take-le unsigned_abs (column_of d column) i in
    omega arith

-- one row more of the sum over a column
pub total_more : (d : RowsData) (column i : ℕ) (ms : List ℤ) (total product : ℤ) → i < length d.rows → i < length ms → total ≡ product_sum (take i (column_of d column)) (map unsigned_abs ms) → product ≡ entry_at d i column *ℤ pos (unsigned_abs (get_or ms i (pos 0))) → total +ℤ product ≡ product_sum (take (i + 1) (column_of d column)) (map unsigned_abs ms)
total_more d column i ms total product h k so_far is =
    let more = product_sum_more (column_of d column) (map unsigned_abs ms) i (rw length-map h) in
    let at : get_or (map unsigned_abs ms) i 0 ≡ unsigned_abs (get_or ms i (pos 0)) = get_or-map unsigned_abs ms i (pos 0) 0 k in
    let last : get_or (column_of d column) i (pos 0) *ℤ pos (get_or (map unsigned_abs ms) i 0) ≡ product = rw (column-at, at) (sym is) in
    rw (more, last, so_far) refl

pub total_whole : (d : RowsData) (column i : ℕ) (ms : List ℤ) → length d.rows ≤ i → product_sum (take i (column_of d column)) (map unsigned_abs ms) ≡ column_sum d (map unsigned_abs ms) column
total_whole d column i ms h =
    ap (λ (xs : List ℤ). product_sum xs (map unsigned_abs ms)) (take_all i (column_of d column) (rw length-map h))

pub not_large : (value : ℤ) → is_large value ≡ false → value <ℤ pos (2 ^ 80)
not_large value e = grind (arith, ints)
