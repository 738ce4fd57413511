use Rattle.wcet_atomic_blocks.proofs.PlantFacts.{edges_keep_context}
use Rattle.wcet_atomic_blocks.proofs.laws.edges_keep_context.Goals as goal

pub returns : goal.returns
returns c = edges_keep_context
