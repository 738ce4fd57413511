use Rattle.demo_gen.specs.Draws.{tasks_of}
use Rattle.demo_gen.proofs.Ranges.{are_drawn}
use Rattle.demo_plants.specs.Laws.{SystemsHavePlants}
use Rattle.demo_plants.proofs.Plant.{has_plant}
use Rattle.demo_plants.proofs.laws.systems_have_plants.Goals as goal

pub returns : goal.returns
unfolding SystemsHavePlants
returns c = λ seed count some few. has_plant (tasks_of seed count) (are_drawn seed count some few)
