use Rattle.counted_loops.proofs.Keeping.{found_timings_bound}
use Rattle.counted_loops.proofs.laws.found_timings_bound.Goals as goal

pub returns : goal.returns
returns c = found_timings_bound
