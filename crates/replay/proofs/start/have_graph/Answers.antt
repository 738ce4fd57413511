use Rattle.std.proofs.Common.{subst}
use Rattle.elf_image.specs.Image.{IsLawful}
use Rattle.wcet_atomic_blocks.specs.Plants.{PlantData}
use Rattle.replay.proofs.Plants.{have_graph}
use Rattle.replay.proofs.start.have_graph.Goals as goal

pub returns-clause-graph : goal.returns-clause-graph
returns-clause-graph c = have_graph c.args.plant.now c.belongs_together.ensures (subst (λ (p : PlantData). IsLawful p.image) c.plant.view_is c.is_lawful.ensures)
