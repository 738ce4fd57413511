use Rattle.wcet_atomic_blocks.proofs.PlantFacts.{afters_are_no_entries}
use Rattle.wcet_atomic_blocks.proofs.laws.afters_are_no_entries.Goals as goal

pub returns : goal.returns
returns c = afters_are_no_entries
