use Rattle.std.proofs.Common.{◌≡◌, map, take, pos}
use Rattle.whole_rows.specs.Row.{AreInRange}
use Rattle.row_build.specs.Columns.{cost}
use Rattle.row_build.specs.Working.Numbered.{column_of}
use Rattle.row_build.proofs.costs.costs.Given as goal

abbrev pub invariant-loop-number : goal.invariant-loop-number
invariant-loop-number l =
    (l.costs.items ≡ map (λ column. pos (cost l.plant column)) (map (column_of l.states) (take l.number l.columns))) × AreInRange l.costs.items
