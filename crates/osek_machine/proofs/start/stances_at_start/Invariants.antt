use Rattle.osek_machine.proofs.Starting.{StandBefore}
use Rattle.osek_machine.proofs.start.stances_at_start.Given as goal

abbrev pub invariant-loop-place : goal.invariant-loop-place
invariant-loop-place l = StandBefore l.image l.system l.kernel l.stances.items l.place
