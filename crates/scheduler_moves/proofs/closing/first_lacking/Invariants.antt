use Rattle.std.proofs.Common.{◌≡◌, ℕ, ◌<◌, Contains, Some}
use Rattle.std.specs.Prelude.{slice_get}
use Rattle.scheduler_moves.specs.declared.moves.Move.{Move}
use Rattle.scheduler_moves.proofs.closing.first_lacking.Given as goal

abbrev pub invariant-loop-number : goal.invariant-loop-number
invariant-loop-number l = (earlier : ℕ) (other : Move) → earlier < l.number → slice_get l.moves earlier ≡ Some other → Contains l.states other.to
