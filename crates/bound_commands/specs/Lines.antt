-- The lines of `all`: each `TASK N` bounds its task, those before a refusal too.
use Rattle.std.specs.Prelude.{◌≡◌, ℕ, ◌<◌, List, length, true, Ok}
use Rattle.listed.specs.Lists.{differ}
use Rattle.wcet_atomic_blocks.specs.Plants.{PlantData, IsPlant}
use Rattle.abstract_sched.specs.declared.states.AbsState.{AbsState}
use Rattle.abstract_sched.specs.States.{same_state}
use Rattle.scheduler_moves.specs.Closed.{IsClosed}
use Rattle.reports.specs.Solved.{bound_text}
use Rattle.bound_commands.specs.All.{AnswersTaskAt, task_name}
use Rattle.inputs.specs.Meaning.{LastsAtMost}

abbrev pub LinesBound : Type 0
LinesBound = (plant : PlantData) (states : List AbsState) (task : ℕ) (line : List ℕ)
    → IsPlant plant → IsClosed plant states → differ same_state states ≡ true → task < length plant.system.tasks
    → AnswersTaskAt plant states task (Ok line)
    → (bound : ℕ) × (line ≡ bound_text (task_name plant.system task) bound) × LastsAtMost plant.image plant.system plant.timing task bound
