use Rattle.osek_machine.proofs.Tables.{ArePartsBefore}
use Rattle.osek_machine.proofs.decoded.Decoded.of.Given as goal

abbrev pub invariant-loop-section : goal.invariant-loop-section
invariant-loop-section l = ArePartsBefore l.image l.parts.items l.section-index
