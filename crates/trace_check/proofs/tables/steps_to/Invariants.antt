use Rattle.std.proofs.Common.{take}
use Rattle.trace_check.specs.Working.Tables.{AreMade}
use Rattle.trace_check.proofs.tables.steps_to.Given as goal

abbrev pub invariant-loop-made : goal.invariant-loop-made
invariant-loop-made l = AreMade l.states (take l.made-index l.moves) l.steps
