use Rattle.wcet_atomic_blocks.proofs.PlantFacts.{services_have_blocks}
use Rattle.wcet_atomic_blocks.proofs.laws.services_have_blocks.Goals as goal

pub returns : goal.returns
returns c = services_have_blocks
