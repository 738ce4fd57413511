use Rattle.std.proofs.Common.{◌≡◌, map, take}
use Rattle.whole_rows.specs.Row.{AreInRange}
use Rattle.row_build.specs.Working.Kinds.{row_of}
use Rattle.row_build.specs.Working.Numbered.{column_of}
use Rattle.row_build.specs.Working.Pushed.{entries_of, terms_from}
use Rattle.row_build.proofs.terms.terms.Given as goal

abbrev pub invariant-loop-column : goal.invariant-loop-column
invariant-loop-column l =
    let entries = entries_of (row_of l.plant l.states l.instances l.task l.kind) (map (column_of l.states) (take l.column l.columns)) in
    (l.terms ≡ terms_from 0 entries) × AreInRange entries
