use Rattle.std.proofs.Common.{◌≡◌, take}
use Rattle.whole_rows.specs.Rows.{row_at}
use Rattle.row_squeeze.specs.Working.Parts.{terms_from}
use Rattle.cut_search.proofs.nodes.row_terms.Given as goal

abbrev pub invariant-loop-column : goal.invariant-loop-column
invariant-loop-column l = l.terms ≡ terms_from 0 (take l.column (row_at l.base l.row))
