use Rattle.counted_loops.proofs.Uniqueness.{have_one_bound}
use Rattle.counted_loops.proofs.laws.loops_have_one_bound.Goals as goal

pub returns : goal.returns
returns c = have_one_bound
