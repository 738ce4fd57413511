use Rattle.std.proofs.Common.{◌≡◌, ◌<◌, ℕ, false}
use Rattle.osek_machine.specs.State.{is_pending}
use Rattle.osek_machine.specs.Machine.{state_of}
use Rattle.replay.proofs.moves.least_pending.Given as goal

abbrev pub invariant-loop-source : goal.invariant-loop-source
invariant-loop-source l = (k : ℕ) → k < l.source → is_pending (state_of l.machine) k ≡ false
