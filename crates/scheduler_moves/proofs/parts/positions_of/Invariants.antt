use Rattle.std.proofs.Common.{◌≡◌, ◌++◌, map}
use Rattle.abstract_sched.specs.States.{block_at}
use Rattle.scheduler_moves.proofs.parts.positions_of.Given as goal

abbrev pub invariant-loop-block : goal.invariant-loop-block
invariant-loop-block l = l.blocks.items ≡ map block_at l.state.tasks ++ l.yielded
