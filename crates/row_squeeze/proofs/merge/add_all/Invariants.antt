use Rattle.std.proofs.Common.{◌≡◌, take, length}
use Rattle.row_squeeze.specs.Squeezed.{merged}
use Rattle.row_squeeze.proofs.merge.add_all.Given as goal

abbrev pub invariant-loop-column : goal.invariant-loop-column
invariant-loop-column l =
    l.sums ≡ merged (length l.fn.sums) (take l.column l.places) (take l.column l.entries)
