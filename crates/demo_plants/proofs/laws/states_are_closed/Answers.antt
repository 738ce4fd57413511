use Rattle.demo_gen.specs.Draws.{tasks_of}
use Rattle.demo_gen.proofs.Ranges.{are_drawn}
use Rattle.demo_plants.specs.Laws.{StatesAreClosed}
use Rattle.demo_plants.proofs.Closing.{are_covered}
use Rattle.demo_plants.proofs.laws.states_are_closed.Goals as goal

pub returns : goal.returns
unfolding StatesAreClosed
returns c = λ seed count some few. are_covered (tasks_of seed count) (are_drawn seed count some few)
