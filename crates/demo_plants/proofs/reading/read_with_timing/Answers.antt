use Rattle.std.proofs.Common.{◌≡◌}
use Rattle.demo_gen.proofs.Ranges.{are_drawn}
use Rattle.demo_plants.specs.Working.Sources.{tasks_in}
use Rattle.demo_plants.proofs.Plant.{has_plant}
use Rattle.demo_plants.proofs.reading.read_with_timing.Goals as goal

pub plant_of-requires-clause-have : goal.plant_of-requires-clause-have
plant_of-requires-clause-have c =
    let source = c.args.source.now in
    rw (c.requires.image, c.requires.system, c.requires.timing)
    (has_plant (tasks_in source) (are_drawn source.seed source.count c.requires.whole.some c.requires.whole.few))
