use Rattle.std.proofs.Common.{take}
use Rattle.row_build.specs.Working.Backs.{AreBacks}
use Rattle.row_build.proofs.backs.back_edges.Given as goal

abbrev pub invariant-loop-number : goal.invariant-loop-number
invariant-loop-number l = AreBacks l.backs (take l.number l.instances)
