-- Whole numbers that meet the rows are on one side of each cut, so the leaf on their sides bounds their cost.
use Rattle.std.proofs.Common.{◌≡◌, ℕ, zero, suc, ◌+◌, ◌-◌, ◌<◌, ◌≤◌, List, [], ◌∷◌, ◌++◌, map, All, length, get_or, ℤ, pos, negsuc, ◌*ℤ◌, ◌≤ℤ◌, refl, sym, subst, ◌⊎◌, inl, inr, arith, length-append}
use Rattle.std.specs.List.{range_with_len}
use Rattle.std.proofs.lemmas.Bool.{cases_lt, eq-eqb, ne_eqb}
use Rattle.std.proofs.lemmas.Int.{ints}
use Rattle.std.proofs.lemmas.List.{append-nil, append_assoc, get_or_append_left, get_or-append-add, get_or-append_right, map-append}
use Rattle.std.proofs.lemmas.List.Elements.{All-append}
use Rattle.std.proofs.lemmas.List.FromFn.{length-map-range_with_len}
use Rattle.whole_rows.specs.Greatest.{MeetsRows}
use Rattle.whole_rows.specs.Rows.{RowsData, IsShaped, product_sum, cost_of}
use Rattle.whole_rows.specs.Terms.{entry_of}
use Rattle.whole_rows.specs.declared.Term.{Term}
use Rattle.whole_rows.proofs.Duality.{counts_stay_within}
use Rattle.split_trees.specs.declared.side.Side.{Side}
use Rattle.split_trees.specs.declared.side.Side.TheVariants.{AtMost, Above}
use Rattle.split_trees.specs.Good.{IsColumn, IsGoodLeaf}
use Rattle.split_trees.specs.Laws.{GoodTreesBound}
use Rattle.split_trees.specs.Sides.{right_of, row_of, split_rows}
use Rattle.split_trees.specs.Tree.{Tree, Leaf, Cut, columns_cut, leaves_on}

-- ---- The left side of a side's row

-- before its column there is nothing
no_entry : (term : Term) (start n : ℕ) (u : List ℕ) → term.column < start
    → product_sum (map (entry_of (term ∷ [])) (range_with_len start n)) u ≡ pos 0
no_entry term start zero u before = refl
no_entry term start (suc n) [] before = refl
no_entry term start (suc n) (x ∷ u) before =
    rw (ne_eqb term.column start (λ same. omega arith)) (omega (arith, ints, no_entry term (start + 1) n u (omega arith)))

one_entry : (term : Term) (start place n : ℕ) (u : List ℕ) → term.column ≡ start + place → place < n → length u ≡ n
    → product_sum (map (entry_of (term ∷ [])) (range_with_len start n)) u ≡ term.entry *ℤ pos (get_or u place 0)
one_entry term start place zero u at within fits = absurd (omega arith)
one_entry term start place (suc n) [] at within fits = absurd (omega arith)
one_entry term start zero (suc n) (x ∷ u) at within fits =
    rw (eq-eqb term.column start (omega arith)) (omega (arith, ints, no_entry term (start + 1) n u (omega arith)))
one_entry term start (suc place) (suc n) (x ∷ u) at within fits =
    rw (ne_eqb term.column start (λ same. omega arith))
    (omega (arith, ints, one_entry term (start + 1) place n u (omega arith) (omega arith) (omega arith)))

-- ---- Whole numbers on a side

abbrev IsOn : List ℕ → Side → Type 0
IsOn u (AtMost column k) = get_or u column 0 ≤ k
IsOn u (Above column k) = k < get_or u column 0

abbrev column_of : Side → ℕ
column_of (AtMost column k) = column
column_of (Above column k) = column

meets_side : (u : List ℕ) (side : Side) → column_of side < length u → IsOn u side → product_sum (row_of (length u) side) u ≤ℤ right_of side
meets_side u (AtMost column k) within on =
    rw (one_entry (record { column = column; entry = pos 1 }) 0 column (length u) u (omega arith) within refl) (omega (arith, ints))
meets_side u (Above column k) within on =
    rw (one_entry (record { column = column; entry = negsuc 0 }) 0 column (length u) u (omega arith) within refl) (omega (arith, ints))

-- ---- One side more

abbrev with_side : RowsData → Side → RowsData
with_side d side = record { costs = d.costs; rows = d.rows ++ row_of (length d.costs) side ∷ []; rights = d.rights ++ right_of side ∷ [] }

meets_more : (d : RowsData) (side : Side) (u : List ℕ) → IsShaped d → MeetsRows d u → product_sum (row_of (length d.costs) side) u ≤ℤ right_of side
    → MeetsRows (with_side d side) u
meets_more d side u shape meets on row within = at (cases_lt row (length d.rows))
  where
    at : (row < length d.rows) ⊎ (length d.rows ≤ row)
        → product_sum (get_or (d.rows ++ row_of (length d.costs) side ∷ []) row []) u ≤ℤ get_or (d.rights ++ right_of side ∷ []) row (pos 0)
    at (inl below) =
        rw (get_or_append_left d.rows (row_of (length d.costs) side ∷ []) [] row below, get_or_append_left d.rights (right_of side ∷ []) (pos 0) row (omega (arith, shape.rights_fit)))
        (meets row below)
    at (inr above) =
        let last : row - length d.rows ≡ 0 = omega (arith, length-append d.rows (row_of (length d.costs) side ∷ [])) in
        rw (
          get_or-append_right d.rows (row_of (length d.costs) side ∷ []) (length d.rows) row [] refl above,
          get_or-append_right d.rights (right_of side ∷ []) (length d.rows) row (pos 0) shape.rights_fit above,
          last,
        )
        on

shaped_more : (d : RowsData) (side : Side) → IsShaped d → IsShaped (with_side d side)
shaped_more d side shape = record {
  rows_fit = All-append (λ (row : List ℤ). length row ≡ length d.costs) d.rows (row_of (length d.costs) side ∷ []) shape.rows_fit (one _ (length-map-range_with_len _ 0 (length d.costs)));
  rights_fit = omega (arith, shape.rights_fit, length-append d.rows (row_of (length d.costs) side ∷ []), length-append d.rights (right_of side ∷ []));
}
  where
    one : (row : List ℤ) → length row ≡ length d.costs → All (λ (row : List ℤ). length row ≡ length d.costs) (row ∷ [])
    one row fits zero d' below = fits
    one row fits (suc k) d' below = absurd (omega arith)

-- ---- Down the tree

split_more : (d : RowsData) (sides : List Side) (side : Side) → split_rows d (sides ++ side ∷ []) ≡ with_side (split_rows d sides) side
split_more d sides side =
    rw (
      map-append (row_of (length d.costs)) sides (side ∷ []),
      map-append right_of sides (side ∷ []),
      append_assoc d.rows (map (row_of (length d.costs)) sides) (row_of (length d.costs) side ∷ []),
      append_assoc d.rights (map right_of sides) (right_of side ∷ []),
    ) refl

split_none : (d : RowsData) → split_rows d [] ≡ d
split_none d = rw (append-nil d.rows, append-nil d.rights) refl

-- the rows and those of the sides, which the numbers meet
record AreOn (d : RowsData) (sides : List Side) (u : List ℕ) : Type 0 where
  shape : IsShaped (split_rows d sides)
  meets : MeetsRows (split_rows d sides) u

on_more : (d : RowsData) (sides : List Side) (side : Side) (u : List ℕ) → length u ≡ length d.costs → column_of side < length d.costs → IsOn u side
    → AreOn d sides u → AreOn d (sides ++ side ∷ []) u
on_more d sides side u fits within on are =
    let row : product_sum (row_of (length d.costs) side) u ≤ℤ right_of side =
    subst (λ (n : ℕ). product_sum (row_of n side) u ≤ℤ right_of side) fits (meets_side u side (rw fits within) on) in
    let more = split_more d sides side in
    record {
      shape = subst IsShaped (sym more) (shaped_more (split_rows d sides) side are.shape);
      meets = subst (λ (e : RowsData). MeetsRows e u) (sym more) (meets_more (split_rows d sides) side u are.shape are.meets row);
    }

All-left : {A : Type 0} (P : A → Type 0) (xs ys : List A) → All P (xs ++ ys) → All P xs
All-left P xs ys all k d below = rw (← get_or_append_left xs ys d k below) (all k d (omega (arith, length-append xs ys)))

All-right : {A : Type 0} (P : A → Type 0) (xs ys : List A) → All P (xs ++ ys) → All P ys
All-right P xs ys all k d below = rw (← get_or-append-add xs ys k d) (all (length xs + k) d (omega (arith, length-append xs ys)))

All-tail : {A : Type 0} (P : A → Type 0) (x : A) (xs : List A) → All P (x ∷ xs) → All P xs
All-tail P x xs all k d below = all (suc k) d (omega arith)

bounded : (d : RowsData) (bound : ℕ) (u : List ℕ) → length u ≡ length d.costs → (tree : Tree) (sides : List Side)
    → All (IsColumn d) (columns_cut tree) → All (IsGoodLeaf d bound) (leaves_on sides tree) → AreOn d sides u → cost_of d u ≤ℤ pos bound
bounded d bound u fits (Leaf denominator multipliers) sides columns good are =
    counts_stay_within (split_rows d sides) multipliers denominator bound are.shape
    (good 0 (record { sides = sides; denominator = denominator; multipliers = multipliers }) (omega arith)) u fits are.meets
bounded d bound u fits (Cut column k low high) sides columns good are =
    by_side (cases_lt k (get_or u column 0))
    (λ most. bounded d bound u fits low (sides ++ AtMost column k ∷ []) (All-left (IsColumn d) (columns_cut low) (columns_cut high) rest)
    (All-left (IsGoodLeaf d bound) (leaves_on (sides ++ AtMost column k ∷ []) low) (leaves_on (sides ++ Above column k ∷ []) high) good)
    (on_more d sides (AtMost column k) u fits there most are))
    (λ more. bounded d bound u fits high (sides ++ Above column k ∷ []) (All-right (IsColumn d) (columns_cut low) (columns_cut high) rest)
    (All-right (IsGoodLeaf d bound) (leaves_on (sides ++ AtMost column k ∷ []) low) (leaves_on (sides ++ Above column k ∷ []) high) good)
    (on_more d sides (Above column k) u fits there more are))
  where
    there : column < length d.costs
    there = columns 0 0 (omega arith)

    rest : All (IsColumn d) (columns_cut low ++ columns_cut high)
    rest = All-tail (IsColumn d) column (columns_cut low ++ columns_cut high) columns

    by_side : (k < get_or u column 0) ⊎ (get_or u column 0 ≤ k)
        → (get_or u column 0 ≤ k → cost_of d u ≤ℤ pos bound) → (k < get_or u column 0 → cost_of d u ≤ℤ pos bound) → cost_of d u ≤ℤ pos bound
    by_side (inl more) on_low on_high = on_high more
    by_side (inr most) on_low on_high = on_low most

pub good_trees_bound : GoodTreesBound
good_trees_bound rows bound tree shape good u fits meets =
    bounded rows bound u fits tree [] good.columns good.leaves
    (record { shape = subst IsShaped (sym (split_none rows)) shape; meets = subst (λ (d : RowsData). MeetsRows d u) (sym (split_none rows)) meets })
