use Rattle.std.proofs.Common.{◌≡◌, ◌++◌, take}
use Rattle.split_search.specs.Working.Flags.{count_flags}
use Rattle.split_search.proofs.takes.push_counting.Given as goal

abbrev pub invariant-loop-place : goal.invariant-loop-place
invariant-loop-place l = l.found ≡ l.initial.found ++ count_flags (take l.place l.moves)
