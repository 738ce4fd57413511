-- A column's terms as they are read, one after another.
use Rattle.std.proofs.Common.{◌≡◌, ℕ, zero, suc, ◌+◌, ◌*◌, ◌^◌, ◌<◌, ◌≤◌, Bool, true, false, cond, List, [], ◌∷◌, length, get_or, ℤ, pos, ◌-ℤ◌, ◌<ℤ◌, ◌≤ℤ◌, unsigned_abs, Some, sym, ap, ◌∙◌, arith}
use Rattle.std.specs.Prelude.{slice_get}
use Rattle.std.specs.Int.{w128}
use Rattle.std.specs.List.{sum_by}
use Rattle.std.proofs.lemmas.Int.{by_lt_z, to_z-of_z}
use Rattle.std.proofs.lemmas.List.{length-map, take_all}
use Rattle.std.proofs.lemmas.Option.{get_or_from_slice_get, same_Some, slice_get_within}
use mir.Val.{SFits, to_z, of_z}
use Rattle.whole_rows.specs.Columns.{terms_sum}
use Rattle.whole_rows.specs.Row.{is_zero}
use Rattle.whole_rows.specs.Rows.{RowsData, column_of, column_sum, column_terms_of, terms_from}
use Rattle.whole_rows.specs.Duals.{HasSmallSizes}
use Rattle.whole_rows.specs.declared.RowTerm.{RowTerm}
use Rattle.whole_rows.proofs.Dense.{terms_sum-column, terms_size-column}
use Rattle.whole_rows.proofs.Totals.{AreSides, sides_less, sides_more, sides_small}

-- its row is one of those that the entries stand in
row_within : (start : ℕ) (entries : List ℤ) (i : ℕ) (term : RowTerm) → slice_get (terms_from start entries) i ≡ Some term
    → term.row < start + length entries
row_within start [] i term there = absurd (let inside = slice_get_within [] i term there in omega arith)
row_within start (x ∷ entries) i term there = by_test (λ place at. row_within (start + 1) entries place term at) (is_zero x) i there
  where
    by_test : ((place : ℕ) → slice_get (terms_from (start + 1) entries) place ≡ Some term → term.row < start + 1 + length entries)
        → (test : Bool) (place : ℕ)
        → slice_get (cond test (terms_from (start + 1) entries) (record { row = start; entry = x } ∷ terms_from (start + 1) entries)) place ≡ Some term
        → term.row < start + suc (length entries)
    by_test later true place at = let below = later place at in omega arith
    by_test later false (suc place) at = let below = later place at in omega arith
    by_test later false zero at =
        let same = ap (λ (t : RowTerm). t.row) (same_Some (record { row = start; entry = x }) term at) in omega arith

pub term_within : (d : RowsData) (column i : ℕ) (term : RowTerm) → slice_get (column_terms_of d column) i ≡ Some term → term.row < length d.rows
term_within d column i term there =
    omega (arith, row_within 0 (column_of d column) i term there, length-map d.rows (λ row. get_or row column (pos 0)))

-- a term below 0
pub next_less : (terms : List RowTerm) (i : ℕ) (term : RowTerm) (multipliers : List ℕ) (more less size m : ℕ) → slice_get terms i ≡ Some term
    → SFits w128 term.entry → size ≡ unsigned_abs (to_z w128 (of_z w128 term.entry)) → m ≡ get_or multipliers term.row 0 → m < 2 ^ 80
    → to_z w128 (of_z w128 term.entry) <ℤ pos 0 → AreSides terms multipliers i more less
    → AreSides terms multipliers (i + 1) more (less + size * m)
next_less terms i term multipliers more less size m there fits is reads small negative so_far =
    let read = get_or_from_slice_get terms i term term there in
    sides_less terms i term multipliers more less size m (slice_get_within terms i term there)
    (rw read (simp to_z-of_z at is)) (rw read reads) small (rw read (simp to_z-of_z at negative)) so_far

-- and one from 0 on
pub next_more : (terms : List RowTerm) (i : ℕ) (term : RowTerm) (multipliers : List ℕ) (more less size m : ℕ) → slice_get terms i ≡ Some term
    → SFits w128 term.entry → size ≡ unsigned_abs (to_z w128 (of_z w128 term.entry)) → m ≡ get_or multipliers term.row 0 → m < 2 ^ 80
    → pos 0 ≤ℤ to_z w128 (of_z w128 term.entry) → AreSides terms multipliers i more less
    → AreSides terms multipliers (i + 1) (more + size * m) less
next_more terms i term multipliers more less size m there fits is reads small positive so_far =
    let read = get_or_from_slice_get terms i term term there in
    sides_more terms i term multipliers more less size m (slice_get_within terms i term there)
    (rw read (simp to_z-of_z at is)) (rw read reads) small (rw read (simp to_z-of_z at positive)) so_far

-- the sizes of the terms are small
terms_small : (d : RowsData) (column : ℕ) → HasSmallSizes d → column < length d.costs
    → sum_by (λ (t : RowTerm). unsigned_abs t.entry) (column_terms_of d column) < 2 ^ 40
terms_small d column sizes within = rw (terms_size-column 0 (column_of d column)) (sizes.columns column within)

pub sums_small : (d : RowsData) (column i : ℕ) (multipliers : List ℕ) (more less : ℕ) → HasSmallSizes d → column < length d.costs
    → AreSides (column_terms_of d column) multipliers i more less → more + less < 2 ^ 120
sums_small d column i multipliers more less sizes within so_far =
    sides_small (column_terms_of d column) i multipliers more less (terms_small d column sizes within) so_far

-- and so is each product
pub product_small : (d : RowsData) (column i : ℕ) (term : RowTerm) (multipliers : List ℕ) (more less size m : ℕ) → HasSmallSizes d → column < length d.costs
    → slice_get (column_terms_of d column) i ≡ Some term → SFits w128 term.entry → size ≡ unsigned_abs (to_z w128 (of_z w128 term.entry))
    → m ≡ get_or multipliers term.row 0 → m < 2 ^ 80 → AreSides (column_terms_of d column) multipliers i more less
    → size * m < 2 ^ 120
product_small d column i term multipliers more less size m sizes within there fits is reads small so_far =
    by_lt_z (to_z w128 (of_z w128 term.entry)) (pos 0)
    (λ negative.
    let bound = sums_small d column (i + 1) multipliers more (less + size * m) sizes within
    (next_less (column_terms_of d column) i term multipliers more less size m there fits is reads small negative so_far) in
    omega arith)
    (λ positive.
    let bound = sums_small d column (i + 1) multipliers (more + size * m) less sizes within
    (next_more (column_terms_of d column) i term multipliers more less size m there fits is reads small positive so_far) in
    omega arith)

-- the sum over all of them is the column's
pub whole_sum : (d : RowsData) (column i : ℕ) (multipliers : List ℕ) (more less : ℕ) → length multipliers ≡ length d.rows
    → length (column_terms_of d column) ≤ i → AreSides (column_terms_of d column) multipliers i more less
    → column_sum d multipliers column ≡ pos more -ℤ pos less
whole_sum d column i multipliers more less counted past so_far =
    sym (terms_sum-column (column_of d column) multipliers (omega (arith, length-map d.rows (λ row. get_or row column (pos 0)), counted)))
    ∙ ap (λ (terms : List RowTerm). terms_sum terms multipliers) (sym (take_all i (column_terms_of d column) past)) ∙ so_far.0
