use Rattle.std.proofs.Common.{◌≡◌, ◌++◌}
use Rattle.row_build.specs.Working.Unlinked.{nones}
use Rattle.row_build.proofs.links_made.push_none.Given as goal

abbrev pub invariant-loop-number : goal.invariant-loop-number
invariant-loop-number l = l.links ≡ l.fn.links ++ nones l._number
