use Rattle.wcet_atomic_blocks.proofs.Answering.{answers_with}
use Rattle.wcet_atomic_blocks.proofs.planting.plant.Goals as goal

pub returns-in-Ok : goal.returns-in-Ok
returns-in-Ok c = answers_with c.args.image c.args.system c.args.timing c.in-Ok.flow c.planted.result
    (record { early = c.in-Ok.ensures.0; graph = c.in-Ok.ensures.1 }) c.planted.ensures
