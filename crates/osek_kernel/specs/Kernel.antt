-- What the kernel keeps.
use Rattle.std.specs.Prelude.{◌≡◌, ℕ, ◌<◌, ◌≤◌, nat_eq, nat_lt, not, ◌&&◌, Bool, true, false, List, [], length, map, Option, Some, None, is_none, option_map, IsSome, IfSome, slice_index_or, slice_set, if◌then◌else◌}
use Rattle.std.specs.List.{list_any, AllByRecursion}
use Rattle.oil_model.specs.declared.system.Task.{Task}
use Rattle.oil_model.specs.declared.system.System.{System}
use Rattle.listed.specs.Lists.{differ}
use Rattle.osek_kernel.specs.declared.context.Context.{Context}
use Rattle.osek_kernel.specs.declared.context.Context.TheVariants as contexts
use Rattle.osek_kernel.specs.declared.kernel.Active.{Active}
use Rattle.osek_kernel.specs.declared.kernel.Kernel.{Kernel}

-- ---- which contexts are active

-- what a task has while it is active, and none while it is suspended
abbrev pub task_state : Kernel → ℕ → Option Active
task_state kernel task = slice_index_or kernel.tasks task None

abbrev pub IsActive : Kernel → Context → Type 0
IsActive kernel (contexts.Task t) = IsSome (task_state kernel t)
IsActive kernel (contexts.Isr i) = kernel.isr ≡ Some i

-- the resources that a context holds, oldest first; an ISR holds none
abbrev pub held_in : Option Active → List ℕ
held_in None = []
held_in (Some active) = active.held

abbrev pub held_by : Kernel → Context → List ℕ
held_by kernel (contexts.Task t) = held_in (task_state kernel t)
held_by kernel (contexts.Isr i) = []

-- ---- interrupts

abbrev pub is_locked : Kernel → Bool
is_locked kernel = if kernel.disabled then true else nat_lt 0 kernel.suspended

abbrev pub interrupts_open : Kernel → Bool
interrupts_open kernel = is_none kernel.isr && not (is_locked kernel)

-- ---- changes

abbrev pub with_task : Kernel → ℕ → Option Active → Kernel
with_task kernel task state = record kernel { tasks = slice_set kernel.tasks task state }

-- an active task with a change of what it has
abbrev pub change_task : (Active → Active) → Kernel → ℕ → Kernel
change_task change kernel task = with_task kernel task (option_map change (task_state kernel task))

-- the inner ceiling is in force, or isn't
abbrev pub with_inner : Bool → Active → Active
with_inner inner active = record active { inner = inner }

-- a task that was just activated: nothing is held, and its inner ceiling isn't in force
abbrev pub fresh : Active
fresh = record { inner = false; held = [] }

abbrev pub activate : Kernel → ℕ → Kernel
activate kernel task = with_task kernel task (Some fresh)

abbrev pub suspend : Kernel → Context → Kernel
suspend kernel (contexts.Task t) = with_task kernel t None
suspend kernel (contexts.Isr i) = record kernel { isr = None }

-- ---- the start of a mode

abbrev pub state_at_start : ℕ → Task → Option Active
state_at_start mode task = if list_any (nat_eq mode) task.modes then Some fresh else None

abbrev pub states_at_start : ℕ → List Task → List (Option Active)
states_at_start mode tasks = map (state_at_start mode) tasks

-- the tasks that are autostarted in the mode are active, and nothing else is
abbrev pub autostarted : System → ℕ → Kernel
autostarted system mode = record {
  mode = mode;
  tasks = states_at_start mode system.tasks;
  isr = None;
  disabled = false;
  suspended = 0;
}

-- ---- which kernels a system can have

-- each held resource exists, and is held once
pub record IsHeldList (system : System) (held : List ℕ) : Type 0 where
  pub exist : AllByRecursion (λ r. r < length system.resources) held
  pub once : differ nat_eq held ≡ true

abbrev pub IsTaskState : System → Option Active → Type 0
IsTaskState system state = IfSome state (λ active. IsHeldList system active.held)

pub record FitsSystem (system : System) (kernel : Kernel) : Type 0 where
  pub mode : kernel.mode < length system.modes
  pub count : length kernel.tasks ≡ length system.tasks
  pub tasks : AllByRecursion (IsTaskState system) kernel.tasks
  pub isr : IfSome kernel.isr (λ i. i < length system.isrs)
  pub depth : kernel.suspended ≤ 7
