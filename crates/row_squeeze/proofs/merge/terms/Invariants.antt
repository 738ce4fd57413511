use Rattle.std.proofs.Common.{◌≡◌, take}
use Rattle.row_squeeze.specs.Working.Parts.{terms_from}
use Rattle.row_squeeze.proofs.merge.terms.Given as goal

abbrev pub invariant-loop-column : goal.invariant-loop-column
invariant-loop-column l = l.terms ≡ terms_from 0 (take l.column l.entries)
