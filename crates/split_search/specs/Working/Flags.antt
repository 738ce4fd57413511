-- Whether columns are takes, in the order of the columns: starts, then moves that count.
use Rattle.std.specs.Prelude.{ℕ, Bool, false, List, ◌++◌, length, map, filter}
use Rattle.std.specs.List.{range_with_len}
use Rattle.osek_kernel.specs.declared.context.Context.TheVariants as contexts
use Rattle.wcet_atomic_blocks.specs.Plants.{PlantData}
use Rattle.abstract_sched.specs.declared.states.AbsState.{AbsState}
use Rattle.scheduler_moves.specs.Moves.{initial}
use Rattle.row_build.specs.Columns
use Rattle.split_search.specs.declared.moves.TaskMove.{TaskMove}
use Rattle.split_search.specs.Working.Moves.{task_move}

abbrev pub mode_flags : PlantData → ℕ → ℕ → List Bool
mode_flags plant task count =
    map (λ mode. false) (filter (λ mode. Columns.is_active_in (initial plant mode) (contexts.Task task)) (range_with_len 0 count))

abbrev pub start_flags : List TaskMove → List Bool
start_flags moves = map (λ move. move.takes) (filter (λ move. move.starts) moves)

abbrev pub count_flags : List TaskMove → List Bool
count_flags moves = map (λ move. move.takes) (filter (λ move. move.counts) moves)

abbrev pub flags_of : PlantData → List AbsState → ℕ → List Bool
flags_of plant states task =
    (mode_flags plant task (length plant.system.modes) ++ start_flags (map (task_move plant task) (Columns.goings plant states)))
    ++ count_flags (map (task_move plant task) (Columns.goings plant states))
