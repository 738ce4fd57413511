use Rattle.wcet_atomic_blocks.proofs.PlantFacts.{blocks_are_closed}
use Rattle.wcet_atomic_blocks.proofs.laws.blocks_are_closed.Goals as goal

pub returns : goal.returns
returns c = blocks_are_closed
