-- Laws of the kernel, which follow from its definitions: who is active and who runs after each change.
use Rattle.std.specs.Prelude.{◌≡◌, ℕ, ◌<◌, ◌⊎◌, false, length, Option, Some, None, option_map, IsSome, true}
use Rattle.oil_model.specs.declared.system.System.{System}
use Rattle.osek_kernel.specs.declared.context.Context.{Context}
use Rattle.osek_kernel.specs.declared.context.Context.TheVariants as contexts
use Rattle.osek_kernel.specs.declared.kernel.Active.{Active}
use Rattle.osek_kernel.specs.declared.kernel.Kernel.{Kernel}
use Rattle.osek_kernel.specs.declared.kernel.Reply.{Reply}
use Rattle.osek_kernel.specs.declared.source.Source.{Source}
use Rattle.osek_kernel.specs.declared.service.Service.{Service}
use Rattle.osek_kernel.specs.declared.service.Service.TheVariants.{ReleaseResource, Schedule}
use Rattle.osek_kernel.specs.Kernel.{task_state, IsActive, fresh, held_by}
use Rattle.osek_kernel.specs.Running.{rank_of, goes_before, runs, dispatched}
use Rattle.osek_kernel.specs.Served.{Served, served, misuses}
use Rattle.osek_kernel.specs.Taken.{Taken, taken}

-- ---- services

-- the task that a service activates, as a context
abbrev pub begun : Reply → Option Context
begun reply = option_map contexts.Task reply.activated

-- Who is active after a service that an active context calls.
pub record ServesActive (kernel : Kernel) (caller : Context) (after : Served) : Type 0 where
  -- there are as many tasks as before, and the mode stays
  pub count : length after.kernel.tasks ≡ length kernel.tasks
  pub mode : after.kernel.mode ≡ kernel.mode
  -- no other context than the caller is ended, and it isn't active then, unless it is activated anew
  pub ended : (c : Context) → after.reply.ended ≡ Some c → c ≡ caller
  pub gone : (c : Context) → after.reply.ended ≡ Some c → (begun after.reply ≡ Some c → ⊥) → IsActive after.kernel c → ⊥
  -- only its own end makes a context inactive
  pub stays : (c : Context) → IsActive kernel c → (after.reply.ended ≡ Some c → ⊥) → IsActive after.kernel c
  -- a task that is activated has nothing, and was suspended or is the one that is ended
  pub begins : (t : ℕ) → t < length kernel.tasks → after.reply.activated ≡ Some t → task_state after.kernel t ≡ Some fresh
  pub again : (t : ℕ) → after.reply.activated ≡ Some t
      → (task_state kernel t ≡ None) ⊎ (after.reply.ended ≡ Some (contexts.Task t))
  -- no other context becomes active
  pub only : (c : Context) → IsActive after.kernel c → IsActive kernel c ⊎ (begun after.reply ≡ Some c)

abbrev pub ServicesKeepActive : Type 0
ServicesKeepActive = (system : System) (kernel : Kernel) (caller : Context) (service : Service) (argument : ℕ)
    → IsActive kernel caller → ServesActive kernel caller (served system kernel caller service argument)

-- a misuse changes nothing, ends nobody and activates nobody
abbrev pub MisuseChangesNothing : Type 0
MisuseChangesNothing = (system : System) (kernel : Kernel) (caller : Context) (service : Service) (argument : ℕ)
    → (served system kernel caller service argument).reply.misuse ≡ true
    → served system kernel caller service argument ≡ misuses (served system kernel caller service argument).reply.code kernel

-- Who runs after a service of the running context that doesn't end it.
pub record ServesRunning (system : System) (caller : Context) (service : Service) (after : Served) : Type 0 where
  -- an ISR runs on
  pub isr : (i : ℕ) → caller ≡ contexts.Isr i → runs system after.kernel ≡ Some caller
  -- so does a task, unless another one is activated or it gives up what raised it
  pub task : after.reply.activated ≡ None → (service ≡ ReleaseResource → ⊥) → (service ≡ Schedule → ⊥)
      → runs system after.kernel ≡ Some caller

abbrev pub CallersRunOn : Type 0
CallersRunOn = (system : System) (kernel : Kernel) (caller : Context) (service : Service) (argument : ℕ)
    → runs system kernel ≡ Some caller
    → (served system kernel caller service argument).reply.ended ≡ None
    → ServesRunning system caller service (served system kernel caller service argument)

-- ---- taking

-- Who is active after a source is taken.
pub record TakesActive (kernel : Kernel) (after : Taken) : Type 0 where
  pub count : length after.kernel.tasks ≡ length kernel.tasks
  pub mode : after.kernel.mode ≡ kernel.mode
  pub stays : (c : Context) → IsActive kernel c → IsActive after.kernel c
  pub begins : (t : ℕ) → t < length kernel.tasks → after.started ≡ Some (contexts.Task t) → task_state after.kernel t ≡ Some fresh
  pub isr : (i : ℕ) → after.started ≡ Some (contexts.Isr i) → after.kernel.isr ≡ Some i
  -- who is started wasn't active
  pub fresh_start : (c : Context) → after.started ≡ Some c → IsActive kernel c → ⊥
  pub only : (c : Context) → IsActive after.kernel c → IsActive kernel c ⊎ (after.started ≡ Some c)

-- a source is taken only where no ISR is active
abbrev pub TakesKeepActive : Type 0
TakesKeepActive = (system : System) (kernel : Kernel) (source : Source)
    → kernel.isr ≡ None → TakesActive kernel (taken system kernel source)

-- ---- running

-- the running context is active, and one runs where one is active
pub record Runs (system : System) (kernel : Kernel) : Type 0 where
  pub active : (c : Context) → runs system kernel ≡ Some c → IsActive kernel c
  pub somebody : (c : Context) → IsActive kernel c → IsSome (runs system kernel)
  -- no active task goes before the running one
  pub first : (t u : ℕ) (own other : Active) → runs system kernel ≡ Some (contexts.Task t)
      → task_state kernel t ≡ Some own → task_state kernel u ≡ Some other
      → goes_before (rank_of system u other) (rank_of system t own) ≡ false

abbrev pub TheFirstRuns : Type 0
TheFirstRuns = (system : System) (kernel : Kernel) → Runs system kernel

-- Dispatching changes nothing but the running task's inner flag.
pub record Dispatches (system : System) (kernel : Kernel) : Type 0 where
  pub count : length (dispatched system kernel).tasks ≡ length kernel.tasks
  pub mode : (dispatched system kernel).mode ≡ kernel.mode
  pub isr : (dispatched system kernel).isr ≡ kernel.isr
  pub disabled : (dispatched system kernel).disabled ≡ kernel.disabled
  pub suspended : (dispatched system kernel).suspended ≡ kernel.suspended
  pub stays : (c : Context) → IsActive kernel c → IsActive (dispatched system kernel) c
  pub only : (c : Context) → IsActive (dispatched system kernel) c → IsActive kernel c
  pub held : (c : Context) → held_by (dispatched system kernel) c ≡ held_by kernel c
  -- who runs runs on
  pub runs_on : runs system (dispatched system kernel) ≡ runs system kernel

abbrev pub DispatchKeepsActive : Type 0
DispatchKeepsActive = (system : System) (kernel : Kernel) → Dispatches system kernel
