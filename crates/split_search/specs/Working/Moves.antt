-- What a move out of a listed state is for a task.
use Rattle.std.specs.Prelude.{ℕ}
use Rattle.osek_kernel.specs.declared.context.Context.TheVariants as contexts
use Rattle.wcet_atomic_blocks.specs.Plants.{PlantData}
use Rattle.row_build.specs.Columns
use Rattle.split_search.specs.declared.moves.TaskMove.{TaskMove}
use Rattle.split_search.specs.Takes.{takes}

abbrev pub task_move : PlantData → ℕ → Columns.Going → TaskMove
task_move plant task going = record {
  takes = takes going.move.label;
  starts = Columns.activates plant (contexts.Task task) going;
  counts = Columns.is_active_in going.from (contexts.Task task);
}
