use Rattle.std.proofs.Common.{rules, ap, map}
use Rattle.serde_json.specs.View.{view}
use Rattle.bench_solve.specs.RowsFile.{row_in, rows_behind}
use Rattle.bench_solve.proofs.RowLemmas.{read_all-each_from}
use Rattle.bench_solve.proofs.file.each_row.Goals as goal

pub loop-value-init : goal.loop-value-init
loop-value-init c =
    (search rules, ap (rows_behind c.args.before) (read_all-each_from (row_in c.column_count-columns.result) 0 (map view c.args.values.now)))
