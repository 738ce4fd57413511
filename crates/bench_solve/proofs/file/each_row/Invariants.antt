use Rattle.std.proofs.Common.{◌≡◌, length, map, drop}
use Rattle.serde_json.specs.View.{view}
use Rattle.listed.specs.Lists.{all_of}
use Rattle.bench_solve.specs.RowsFile.{row_in, rows_behind}
use Rattle.bench_solve.proofs.RowLemmas.{read_all}
use Rattle.bench_solve.proofs.file.each_row.Given as goal

-- the rows so far, with those of the values that are left behind them, are all the rows
abbrev pub invariant-loop-value : goal.invariant-loop-value
invariant-loop-value l =
    (length l.rows.costs ≡ l.columns) × (rows_behind l.rows (read_all (row_in l.columns) (map view (drop l.value-index l.values))) ≡ rows_behind l.fn.before (all_of (row_in l.columns) (map view l.values)))
