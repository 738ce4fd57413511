use Rattle.std.proofs.Common.{◌≡◌, ◌++◌, take}
use Rattle.split_search.specs.Working.Flags.{start_flags}
use Rattle.split_search.proofs.takes.push_starts.Given as goal

abbrev pub invariant-loop-place : goal.invariant-loop-place
invariant-loop-place l = l.found ≡ l.initial.found ++ start_flags (take l.place l.moves)
