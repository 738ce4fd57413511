use Rattle.std.proofs.Common.{take}
use Rattle.row_build.specs.Working.Backs.{AddsEdges}
use Rattle.row_build.proofs.backs.add_backs.Given as goal

abbrev pub invariant-loop-number : goal.invariant-loop-number
invariant-loop-number l = AddsEdges (take l.number l.edges) l.fn.backs l.backs
