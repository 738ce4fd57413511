use Rattle.std.proofs.Common.{◌≡◌, take}
use Rattle.demo_command.proofs.judging.copied_states.Given as goal

abbrev pub invariant-loop-place : goal.invariant-loop-place
invariant-loop-place l = l.copies ≡ take l.place l.states
