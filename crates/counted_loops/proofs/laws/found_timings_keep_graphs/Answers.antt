use Rattle.counted_loops.proofs.FoundGraphs.{graphs_stay}
use Rattle.counted_loops.proofs.laws.found_timings_keep_graphs.Goals as goal

pub returns : goal.returns
returns c = graphs_stay
