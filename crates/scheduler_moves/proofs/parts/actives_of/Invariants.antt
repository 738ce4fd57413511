use Rattle.std.proofs.Common.{◌≡◌, map, take}
use Rattle.abstract_sched.specs.States.{active_of}
use Rattle.scheduler_moves.proofs.parts.actives_of.Given as goal

abbrev pub invariant-loop-at : goal.invariant-loop-at
invariant-loop-at l = l.actives ≡ map active_of (take l.at-index l.tasks)
