-- Sums over the rows followed by those of sides: the rows' sums and, beside them, those of the sides.
use Rattle.std.proofs.Common.{◌≡◌, ℕ, ◌<◌, List, [], ◌∷◌, ◌++◌, map, length, get_or, ℤ, pos, ◌+ℤ◌, refl, arith}
use Rattle.std.proofs.lemmas.Int.{ints}
use Rattle.std.proofs.lemmas.List.{length-map, map-append}
use Rattle.std.proofs.lemmas.List.FromFn.{get_or-map-range_with_len}
use Rattle.whole_rows.specs.Rows.{RowsData, IsShaped, product_sum, column_of, column_sum, right_sum}
use Rattle.whole_rows.specs.Terms.{entry_of}
use Rattle.split_trees.specs.declared.side.Side.{Side}
use Rattle.split_trees.specs.Sides.{term_of, right_of, row_of, split_rows}
use Rattle.split_trees.specs.Working.Judging.{entry_at}

product_sum-append : (xs ys : List ℤ) (ms ns : List ℕ) → length ms ≡ length xs
    → product_sum (xs ++ ys) (ms ++ ns) ≡ product_sum xs ms +ℤ product_sum ys ns
product_sum-append [] ys [] ns fits = omega (arith, ints)
product_sum-append [] ys (m ∷ ms) ns fits = absurd (omega arith)
product_sum-append (x ∷ xs) ys [] ns fits = absurd (omega arith)
product_sum-append (x ∷ xs) ys (m ∷ ms) ns fits = omega (arith, ints, product_sum-append xs ys ms ns (omega arith))

entries_of : (columns column : ℕ) → column < columns → (sides : List Side)
    → map (λ row. get_or row column (pos 0)) (map (row_of columns) sides) ≡ map (entry_at column) sides
entries_of columns column within [] = refl
entries_of columns column within (side ∷ sides) =
    rw (get_or-map-range_with_len (entry_of (term_of side ∷ [])) 0 columns column column (pos 0) within (omega arith), entries_of columns column within sides) refl

pub column_sum-beside : (d : RowsData) (sides : List Side) (own cuts : List ℕ) (column : ℕ) → length own ≡ length d.rows → column < length d.costs
    → column_sum (split_rows d sides) (own ++ cuts) column ≡ column_sum d own column +ℤ product_sum (map (entry_at column) sides) cuts
column_sum-beside d sides own cuts column counted within =
    rw (map-append (λ (row : List ℤ). get_or row column (pos 0)) d.rows (map (row_of (length d.costs)) sides), entries_of (length d.costs) column within sides)
    (product_sum-append (column_of d column) (map (entry_at column) sides) own cuts (omega (arith, counted, length-map d.rows (λ (row : List ℤ). get_or row column (pos 0)))))

pub right_sum-beside : (d : RowsData) (sides : List Side) (own cuts : List ℕ) → length own ≡ length d.rows → IsShaped d
    → right_sum (split_rows d sides) (own ++ cuts) ≡ right_sum d own +ℤ product_sum (map right_of sides) cuts
right_sum-beside d sides own cuts counted shape = product_sum-append d.rights (map right_of sides) own cuts (omega (arith, counted, shape.rights_fit))
