use Rattle.wcet_atomic_blocks.proofs.PlantFacts.{afters_begin}
use Rattle.wcet_atomic_blocks.proofs.laws.afters_begin.Goals as goal

pub returns : goal.returns
returns c = afters_begin
