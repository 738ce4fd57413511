use Rattle.std.proofs.Common.{take}
use Rattle.scheduler_moves.specs.Working.Listing.{AreIn}
use Rattle.scheduler_moves.proofs.listing.in_order.Given as goal

abbrev pub invariant-loop-state : goal.invariant-loop-state
invariant-loop-state l = AreIn l.set (take l.state-index l.states)
