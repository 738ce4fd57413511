use Rattle.std.proofs.Common.{◌≡◌, take}
use Rattle.cut_search.specs.Leaves.{sides_of}
use Rattle.cut_search.proofs.leaves.sides_of.Given as goal

abbrev pub invariant-loop-place : goal.invariant-loop-place
invariant-loop-place l = l.sides ≡ sides_of (take l.place l.limits)
