use Rattle.rv32_machine.proofs.StepLaws.{image_fits}
use Rattle.flow_graph.proofs.laws.images_fit.Goals as goal

pub returns : goal.returns
returns c = image_fits
