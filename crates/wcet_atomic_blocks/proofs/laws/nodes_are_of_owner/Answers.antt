use Rattle.wcet_atomic_blocks.proofs.PlantFacts.{nodes_are_of_owner}
use Rattle.wcet_atomic_blocks.proofs.laws.nodes_are_of_owner.Goals as goal

pub returns : goal.returns
returns c = nodes_are_of_owner
