use Rattle.osek_machine.proofs.Starting.{EntriesBefore}
use Rattle.osek_machine.proofs.start.first_without_entry.Given as goal

abbrev pub invariant-loop-place : goal.invariant-loop-place
invariant-loop-place l = EntriesBefore l.image l.system l.place
