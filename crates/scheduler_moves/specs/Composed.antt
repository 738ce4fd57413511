-- A scheduler state composed of a kernel and the blocks at which the active contexts stand.
use Rattle.std.specs.Prelude.{ℕ, List, [], ◌∷◌, Option, Some, option_map, option_and_then}
use Rattle.oil_model.specs.declared.system.System.{System}
use Rattle.osek_kernel.specs.declared.context.Context.TheVariants as contexts
use Rattle.osek_kernel.specs.declared.kernel.Active.{Active}
use Rattle.osek_kernel.specs.declared.kernel.Kernel.{Kernel}
use Rattle.osek_kernel.specs.Positions.{position_of}
use Rattle.abstract_sched.specs.declared.states.AbsState.{AbsState}
use Rattle.abstract_sched.specs.declared.states.IsrAt.{IsrAt}
use Rattle.abstract_sched.specs.declared.states.TaskAt.{TaskAt}
use Rattle.abstract_sched.specs.declared.states.TaskAt.TheVariants.{Suspended, At}

-- where a task stands, by what it has and by its block, if it is active
abbrev pub task_at : Option Active → Option ℕ → TaskAt
task_at (Some active) (Some block) = At block active.inner active.held
task_at active block = Suspended

-- the same of each task; blocks of tasks stand before those of ISRs
abbrev pub tasks_at : List (Option Active) → List (Option ℕ) → List TaskAt
tasks_at (active ∷ tasks) (block ∷ blocks) = task_at active block ∷ tasks_at tasks blocks
tasks_at tasks blocks = []

abbrev pub isr_at : ℕ → Option ℕ → Option IsrAt
isr_at isr block = option_map (λ b. record { isr = isr; block = b }) block

-- the active ISR stands at its block of these
abbrev pub isr_in : System → Option ℕ → List (Option ℕ) → Option IsrAt
isr_in system isr blocks = option_and_then (λ i. isr_at i (position_of system blocks (contexts.Isr i))) isr

-- The state of this kernel in which each active context stands at its block of these, tasks by id and then ISRs by
-- id.
abbrev pub composed : System → Kernel → List (Option ℕ) → AbsState
composed system kernel blocks = record {
  mode = kernel.mode;
  tasks = tasks_at kernel.tasks blocks;
  isr = isr_in system kernel.isr blocks;
  disabled = kernel.disabled;
  suspended = kernel.suspended;
}
