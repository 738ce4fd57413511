use Rattle.counted_loops.proofs.FoundTimings.{stay_lawful}
use Rattle.counted_loops.proofs.laws.found_timings_are_lawful.Goals as goal

pub returns : goal.returns
returns c = stay_lawful
