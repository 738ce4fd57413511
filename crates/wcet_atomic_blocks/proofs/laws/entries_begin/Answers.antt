use Rattle.wcet_atomic_blocks.proofs.PlantFacts.{entries_begin}
use Rattle.wcet_atomic_blocks.proofs.laws.entries_begin.Goals as goal

pub returns : goal.returns
returns c = entries_begin
