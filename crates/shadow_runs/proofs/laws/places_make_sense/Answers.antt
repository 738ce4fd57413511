use Rattle.shadow_runs.proofs.Covering.{places_make_sense}
use Rattle.shadow_runs.proofs.laws.places_make_sense.Goals as goal

pub returns : goal.returns
returns c = places_make_sense
