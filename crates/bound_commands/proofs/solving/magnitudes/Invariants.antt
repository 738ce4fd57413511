use Rattle.std.proofs.Common.{◌≡◌, map, take, unsigned_abs}
use Rattle.bound_commands.proofs.solving.magnitudes.Given as goal

abbrev pub invariant-loop-place : goal.invariant-loop-place
invariant-loop-place l = l.numbers ≡ map unsigned_abs (take l.place l.row)
