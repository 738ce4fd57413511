use Rattle.std.proofs.Common.{◌≡◌, ◌++◌, drop}
use Rattle.whole_simplex.specs.Places.{places_from, places_of}
use Rattle.whole_simplex.proofs.narrow.places_of.Given as goal

abbrev pub invariant-loop-place : goal.invariant-loop-place
invariant-loop-place l = places_of l.entries ≡ l.places.items ++ places_from l.place (drop l.place l.entries)
