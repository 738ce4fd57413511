-- The activations of tasks in a run, and how long they last.
-- An activation begins at the start of the step that makes the task active, or at the run's start, and it ends at
-- the end of the step that ends the task. A run is given by its steps, of which the newest stands first.
use Rattle.std.specs.Prelude.{ℕ, ◌-◌, List, [], ◌∷◌, ◌++◌, length, reverse, Bool, true, false, Option, Some, None, option_map, option_to_list, if◌then◌else◌}
use Rattle.std.specs.List.{filter_map, range_with_len}
use Rattle.oil_model.specs.declared.system.System.{System}
use Rattle.osek_kernel.specs.declared.context.Context.{Context}
use Rattle.osek_kernel.specs.declared.context.Context.TheVariants as contexts
use Rattle.osek_kernel.specs.Kernel.{task_state}
use Rattle.osek_kernel.specs.Taken.{initial}
use Rattle.osek_machine.specs.Events.{Event, duration, started_by, ended_by}
use Rattle.osek_machine.specs.Loops.{is_this}

-- The moment at which it begins, and how long it lasts, to its end or else to the end of the run, in cycles.
pub record Activation : Type 0 where
  pub task : ℕ
  pub start : ℕ
  pub cycles : ℕ
  pub ended : Bool

-- The moment at which the task's activation began that hasn't ended; none where the task isn't active. A task that
-- chains itself ends an activation and begins one in the same step.
abbrev pub active_since : System → ℕ → ℕ → List Event → Option ℕ
active_since system mode task [] = option_map (λ state. 0) (task_state (initial system mode) task)
active_since system mode task (event ∷ earlier) =
    if is_this (contexts.Task task) (started_by event) then Some (duration earlier)
    else (if is_this (contexts.Task task) (ended_by event) then None
    else active_since system mode task earlier)

-- the activation of a task from a moment on, by now
abbrev pub lasting : ℕ → Bool → List Event → ℕ → Activation
lasting task ended events start = record { task = task; start = start; cycles = duration events - start; ended = ended }

-- the activation that the newest step ends, if it ends one
abbrev pub ended_now : System → ℕ → Option Context → Event → List Event → Option Activation
ended_now system mode (Some (contexts.Task t)) event earlier =
    option_map (lasting t true (event ∷ earlier)) (active_since system mode t earlier)
ended_now system mode context event earlier = None

-- those that have ended, in the order of their ends, the newest first
abbrev pub ended_in : System → ℕ → List Event → List Activation
ended_in system mode [] = []
ended_in system mode (event ∷ earlier) =
    option_to_list (ended_now system mode (ended_by event) event earlier) ++ ended_in system mode earlier

-- those that haven't ended, by task
abbrev pub open_in : System → ℕ → List Event → List Activation
open_in system mode events =
    filter_map
    (λ task. option_map (lasting task false events) (active_since system mode task events))
    (range_with_len 0 (length system.tasks))

-- all of them: in the order of their ends, then those that haven't ended
abbrev pub activations : System → ℕ → List Event → List Activation
activations system mode events = reverse (ended_in system mode events) ++ open_in system mode events
