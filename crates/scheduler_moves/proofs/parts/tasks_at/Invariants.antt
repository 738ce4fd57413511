use Rattle.std.proofs.Common.{◌≡◌, take}
use Rattle.scheduler_moves.specs.Composed.{tasks_at}
use Rattle.scheduler_moves.proofs.parts.tasks_at.Given as goal

abbrev pub invariant-loop-place : goal.invariant-loop-place
invariant-loop-place l = l.tasks ≡ tasks_at (take l.place l.actives) (take l.place l.blocks)
