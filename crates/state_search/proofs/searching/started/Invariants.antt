use Rattle.state_search.specs.Working.Found.{HasStarts}
use Rattle.state_search.proofs.searching.started.Given as goal

abbrev pub invariant-loop-mode : goal.invariant-loop-mode
invariant-loop-mode l = HasStarts l.plant l.mode l.search
