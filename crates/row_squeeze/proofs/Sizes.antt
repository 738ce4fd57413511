-- How large the numbers of rows with small sizes are.
use Rattle.std.proofs.Common.{◌≡◌, ℕ, ◌^◌, ◌<◌, ◌≤◌, [], length, get_or, pos, unsigned_abs, arith}
use Rattle.std.proofs.lemmas.List.{get_or-map, length-map}
use Rattle.std.proofs.lemmas.List.Elements.{All-get_or, All-from_get_or}
use Rattle.std.proofs.lemmas.List.Sums.{get_or-le-sum_by}
use Rattle.whole_rows.specs.Rows.{RowsData, AreRows, row_at, column_of}
use Rattle.whole_rows.specs.Duals.{HasSmallSizes}
use Rattle.row_squeeze.specs.Working.Parts.{AreShort}

pub row_width : (d : RowsData) (row : ℕ) → AreRows d → row < length d.rows → length (row_at d row) ≡ length d.costs
row_width d row rows h = All-get_or (λ r. length r ≡ length d.costs) d.rows row [] h rows.shape.rows_fit

pub row_short : (d : RowsData) (row : ℕ) → AreRows d → HasSmallSizes d → row < length d.rows → AreShort (row_at d row)
row_short d row rows sizes h =
    All-from_get_or (λ x. unsigned_abs x < 2 ^ 40) (row_at d row) (pos 0) (λ column k. let width = row_width d row rows h in let size = sizes.columns column (omega arith) in let at = get_or-map (λ r. get_or r column (pos 0)) d.rows row [] (pos 0) h in let most = get_or-le-sum_by unsigned_abs (column_of d column) row (pos 0) (rw length-map h) in rw (← at) (omega arith))

pub costs_short : (d : RowsData) → HasSmallSizes d → AreShort d.costs
costs_short d sizes =
    All-from_get_or (λ x. unsigned_abs x < 2 ^ 40) d.costs (pos 0) (λ column k. let small : unsigned_abs (get_or d.costs column (pos 0)) ≤ 2 ^ 29 = All-get_or (λ x. unsigned_abs x ≤ 2 ^ 29) d.costs column (pos 0) k sizes.costs_small in omega arith)
