use Rattle.row_build.specs.declared.numbered.NumberedColumn.TheVariants as numbered
use Rattle.row_build.specs.declared.numbered.NumberedStart.TheVariants as starts
use Rattle.row_build.specs.Working.Numbered.{column_of}
use Rattle.row_build.proofs.SeenColumns.{columns_more}
use Rattle.row_build.proofs.touching.see_columns.Goals as goal

pub loop-place-preserved : goal.loop-place-preserved
loop-place-preserved c =
    columns_more c.args.plant.now (column_of c.args.states.now) c.args.columns.now c.loop-place.place (numbered.Starts (starts.In 0 0)) c.loop-place.seen c.see_column.new.seen
    c.loop-place-test.true c.loop-place.invariant c.see_column.ensures
