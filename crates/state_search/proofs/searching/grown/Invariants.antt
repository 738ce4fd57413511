use Rattle.state_search.specs.Working.Found.{GrowsBy}
use Rattle.state_search.proofs.searching.grown.Given as goal

abbrev pub invariant-loop-made : goal.invariant-loop-made
invariant-loop-made l = GrowsBy l.yielded l.fn.search l.search
