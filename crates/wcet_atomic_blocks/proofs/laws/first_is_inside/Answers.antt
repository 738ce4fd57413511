use Rattle.wcet_atomic_blocks.proofs.PlantFacts.{first_is_inside}
use Rattle.wcet_atomic_blocks.proofs.laws.first_is_inside.Goals as goal

pub returns : goal.returns
returns c = first_is_inside
