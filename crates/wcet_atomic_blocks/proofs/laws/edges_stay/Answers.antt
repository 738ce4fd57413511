use Rattle.wcet_atomic_blocks.proofs.PlantFacts.{edges_stay}
use Rattle.wcet_atomic_blocks.proofs.laws.edges_stay.Goals as goal

pub returns : goal.returns
returns c = edges_stay
