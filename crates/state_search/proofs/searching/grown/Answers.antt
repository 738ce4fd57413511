use Rattle.state_search.proofs.Growing.{one_more_made}
use Rattle.state_search.proofs.searching.grown.Goals as goal

pub loop-made-preserved : goal.loop-made-preserved
loop-made-preserved c =
    one_more_made c.loop-made.yielded c.in-Some.made c.args.search c.loop-made.search c.in_ok-search.search c.loop-made.invariant
    c.in_ok-search.ensures
