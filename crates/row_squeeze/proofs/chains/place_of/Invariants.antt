use Rattle.std.proofs.Common.{◌≡◌, ◌+◌, drop}
use Rattle.row_squeeze.specs.Chains.{place_of}
use Rattle.row_squeeze.proofs.chains.place_of.Given as goal

abbrev pub invariant-loop-place : goal.invariant-loop-place
invariant-loop-place l = place_of l.head l.heads ≡ l.place + place_of l.head (drop l.place l.heads)
