use Rattle.wcet_io.proofs.FirstPlace.{HavePassed}
use Rattle.wcet_io.proofs.named_files.place_of.Given as goal

abbrev pub invariant-loop-place : goal.invariant-loop-place
invariant-loop-place l = HavePassed l.place l.files l.name
