use Rattle.std.proofs.Common.{◌+◌, ◌-◌}
use Rattle.state_search.specs.Searching.{IsSearch}
use Rattle.state_search.proofs.searching.followed.Given as goal

abbrev pub invariant-loop-search : goal.invariant-loop-search
invariant-loop-search l = IsSearch l.plant l.search

abbrev pub decreases-loop-search : goal.decreases-loop-search
decreases-loop-search l = l.limit + 1 - l.search.done
