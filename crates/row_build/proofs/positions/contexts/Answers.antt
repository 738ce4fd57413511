use Rattle.scheduler_moves.proofs.PlantCounts.{entry_count}
use Rattle.row_build.proofs.positions.contexts.Goals as goal

pub returns-clause-entries : goal.returns-clause-entries
returns-clause-entries c = cc (entry_count c.args.plant.now c.belongs_together.ensures, c.len.ensures, c.len-2.ensures, c.plant.view_is)
