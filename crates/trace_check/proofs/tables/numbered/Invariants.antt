use Rattle.row_build.specs.Working.Numbered.{AreNumbers}
use Rattle.trace_check.proofs.tables.numbered.Given as goal

abbrev pub invariant-loop-number : goal.invariant-loop-number
invariant-loop-number l = AreNumbers l.numbers l.states l.number
