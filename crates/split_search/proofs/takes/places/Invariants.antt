use Rattle.std.proofs.Common.{◌≡◌, take}
use Rattle.split_search.specs.Takes.{places_from}
use Rattle.split_search.proofs.takes.places.Given as goal

abbrev pub invariant-loop-place : goal.invariant-loop-place
invariant-loop-place l = l.found ≡ places_from (λ flag. flag) 0 (take l.place l.flags)
