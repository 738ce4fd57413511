-- What a service can do: six kinds of outcome. The laws on services go by these.
use Rattle.std.proofs.Common.{◌≡◌, ℕ, ◌+◌, ◌-◌, Bool, true, false, Option, Some, None, refl, ap, ◌⊎◌, inl, inr}
use Rattle.std.specs.Prelude.{is_some, not, nat_lt, cond, ◌&&◌}
use Rattle.std.proofs.lemmas.Bool.{cond_both, eqb-true}
use Rattle.oil_model.specs.declared.system.System.{System}
use Rattle.osek_kernel.specs.declared.context.Context.{Context}
use Rattle.osek_kernel.specs.declared.context.Context.TheVariants as contexts
use Rattle.osek_kernel.specs.declared.kernel.Active.{Active}
use Rattle.osek_kernel.specs.declared.kernel.Kernel.{Kernel}
use Rattle.osek_kernel.specs.declared.service.Service.{Service}
use Rattle.osek_kernel.specs.declared.service.Service.TheVariants.{ActivateTask, TerminateTask, ChainTask, GetResource, ReleaseResource, DisableAllInterrupts, EnableAllInterrupts, SuspendAllInterrupts, ResumeAllInterrupts, SuspendOSInterrupts, ResumeOSInterrupts, Schedule, EndIsr}
use Rattle.osek_kernel.specs.declared.service.Code.{Code}
use Rattle.osek_kernel.specs.declared.service.Code.TheVariants.{Done, Access, CallLevel, Limit, NoFunction, Resource, State}
use Rattle.osek_kernel.specs.Kernel.{task_state, held_by, is_locked}
use Rattle.osek_kernel.specs.Served

-- the caller goes on, and no task nor the active ISR is touched
pub record Keeps (kernel : Kernel) (after : Served.Served) : Type 0 where
  pub tasks : after.kernel.tasks ≡ kernel.tasks
  pub isr : after.kernel.isr ≡ kernel.isr
  pub mode : after.kernel.mode ≡ kernel.mode
  pub ended : after.reply.ended ≡ None
  pub activated : after.reply.activated ≡ None

-- the caller goes on, with a change of what it has
pub record Changes (change : Active → Active) (kernel : Kernel) (caller : Context) (after : Served.Served) : Type 0 where
  pub changed : after.kernel ≡ Served.change_caller change caller kernel
  pub ended : after.reply.ended ≡ None
  pub activated : after.reply.activated ≡ None

pub data Outcome (kernel : Kernel) (caller : Context) (service : Service) (argument : ℕ) (after : Served.Served) : Type 0 where
  keeps : Keeps kernel after → Outcome kernel caller service argument after
  holds : Changes (Served.holding argument) kernel caller after → Outcome kernel caller service argument after
  loosens : (change : Active → Active) → (service ≡ ReleaseResource) ⊎ (service ≡ Schedule) → Changes change kernel caller after → Outcome kernel caller service argument after
  activates : task_state kernel argument ≡ None → after ≡ Served.activates argument kernel → Outcome kernel caller service argument after
  ends : after ≡ Served.ends caller kernel → Outcome kernel caller service argument after
  chains : (task_state kernel argument ≡ None) ⊎ (caller ≡ contexts.Task argument) → after ≡ Served.chains caller argument kernel → Outcome kernel caller service argument after

misused : (kernel : Kernel) (code : Code) → Keeps kernel (Served.misuses code kernel)
misused kernel code = record { tasks = refl; isr = refl; mode = refl; ended = refl; activated = refl }

suspended_none : (o : Option Active) → not (is_some o) ≡ true → o ≡ None
suspended_none None e = refl
suspended_none (Some a) e = cc

-- a chained task is suspended or the caller
free : (kernel : Kernel) (caller : Context) (task : ℕ) (own there : Bool) → Served.is_task caller task ≡ own → Served.is_suspended kernel task ≡ there → (not own && not there) ≡ false → (task_state kernel task ≡ None) ⊎ (caller ≡ contexts.Task task)
free kernel (contexts.Task t) task true there own e h = inr (ap contexts.Task (eqb-true t task own))
free kernel (contexts.Isr i) task true there own e h = cc
free kernel caller task false true own e h = inl (suspended_none (task_state kernel task) e)
free kernel caller task false false own e h = cc

suspends : (kernel : Kernel) (caller : Context) (service : Service) (argument : ℕ) → Outcome kernel caller service argument (Served.suspend_interrupts kernel)
suspends kernel caller service argument =
    cond_both (nat_lt kernel.suspended 7) (Served.goes_on Done (record kernel { suspended = kernel.suspended + 1 })) (Served.misuses Limit kernel) (Outcome kernel caller service argument)
    (λ h. keeps (record { tasks = refl; isr = refl; mode = refl; ended = refl; activated = refl }))
    (λ h. keeps (misused kernel Limit))

resumes : (kernel : Kernel) (caller : Context) (service : Service) (argument : ℕ) → Outcome kernel caller service argument (Served.resume_interrupts kernel)
resumes kernel caller service argument =
    cond_both (nat_lt 0 kernel.suspended) (Served.goes_on Done (record kernel { suspended = kernel.suspended - 1 })) (Served.misuses State kernel) (Outcome kernel caller service argument)
    (λ h. keeps (record { tasks = refl; isr = refl; mode = refl; ended = refl; activated = refl }))
    (λ h. keeps (misused kernel State))

row_outcome : (system : System) (kernel : Kernel) (caller : Context) (service : Service) (argument : ℕ) → Outcome kernel caller service argument (Served.row system kernel caller service argument)
row_outcome system kernel caller ActivateTask argument =
    cond_both (Served.is_suspended kernel argument) (Served.activates argument kernel) (Served.goes_on Limit kernel) (Outcome kernel caller ActivateTask argument)
    (λ h. activates (suspended_none (task_state kernel argument) h) refl)
    (λ h. keeps (record { tasks = refl; isr = refl; mode = refl; ended = refl; activated = refl }))
row_outcome system kernel caller TerminateTask argument =
    cond_both (Served.holds_any kernel caller) (Served.misuses Resource kernel) (Served.ends caller kernel) (Outcome kernel caller TerminateTask argument)
    (λ h. keeps (misused kernel Resource))
    (λ h. ends refl)
row_outcome system kernel caller ChainTask argument =
    cond_both (Served.holds_any kernel caller) (Served.misuses Resource kernel)
    (cond (not (Served.is_task caller argument) && not (Served.is_suspended kernel argument)) (Served.misuses Limit kernel) (Served.chains caller argument kernel))
    (Outcome kernel caller ChainTask argument)
    (λ h. keeps (misused kernel Resource))
    (λ h. cond_both (not (Served.is_task caller argument) && not (Served.is_suspended kernel argument)) (Served.misuses Limit kernel) (Served.chains caller argument kernel)
    (Outcome kernel caller ChainTask argument)
    (λ k. keeps (misused kernel Limit))
    (λ k. chains (free kernel caller argument (Served.is_task caller argument) (Served.is_suspended kernel argument) refl refl k) refl))
row_outcome system kernel caller GetResource argument =
    let taken : Served.Served = Served.goes_on Done (Served.change_caller (Served.holding argument) caller kernel) in
    let P : Served.Served → Type 0 = Outcome kernel caller GetResource argument in
    let refused : P (Served.misuses Access kernel) = keeps (misused kernel Access) in
    cond_both (Served.is_internal system argument) (Served.misuses Access kernel) _ P (λ h. refused)
    (λ h. cond_both (not (Served.may_take system caller argument)) (Served.misuses Access kernel) _ P (λ k. refused)
    (λ k. cond_both (Served.is_held kernel argument) (Served.misuses Access kernel) taken P (λ l. refused)
    (λ l. holds (record { changed = refl; ended = refl; activated = refl }))))
row_outcome system kernel caller ReleaseResource argument =
    cond_both (Served.is_last (held_by kernel caller) argument) (Served.goes_on Done (Served.change_caller Served.without_last caller kernel)) (Served.misuses NoFunction kernel)
    (Outcome kernel caller ReleaseResource argument)
    (λ h. loosens Served.without_last (inl refl) (record { changed = refl; ended = refl; activated = refl }))
    (λ h. keeps (misused kernel NoFunction))
row_outcome system kernel caller DisableAllInterrupts argument = keeps (record { tasks = refl; isr = refl; mode = refl; ended = refl; activated = refl })
row_outcome system kernel caller EnableAllInterrupts argument =
    cond_both kernel.disabled (Served.goes_on Done (record kernel { disabled = false })) (Served.misuses State kernel) (Outcome kernel caller EnableAllInterrupts argument)
    (λ h. keeps (record { tasks = refl; isr = refl; mode = refl; ended = refl; activated = refl }))
    (λ h. keeps (misused kernel State))
row_outcome system kernel caller SuspendAllInterrupts argument = suspends kernel caller SuspendAllInterrupts argument
row_outcome system kernel caller ResumeAllInterrupts argument = resumes kernel caller ResumeAllInterrupts argument
row_outcome system kernel caller SuspendOSInterrupts argument = suspends kernel caller SuspendOSInterrupts argument
row_outcome system kernel caller ResumeOSInterrupts argument = resumes kernel caller ResumeOSInterrupts argument
row_outcome system kernel caller Schedule argument =
    cond_both (Served.holds_any kernel caller) (Served.misuses Resource kernel) (Served.goes_on Done (Served.change_caller Served.preemptable caller kernel))
    (Outcome kernel caller Schedule argument)
    (λ h. keeps (misused kernel Resource))
    (λ h. loosens Served.preemptable (inr refl) (record { changed = refl; ended = refl; activated = refl }))
row_outcome system kernel caller EndIsr argument = ends refl

-- what a service of a context can do
pub outcome_of : (system : System) (kernel : Kernel) (caller : Context) (service : Service) (argument : ℕ) → Outcome kernel caller service argument (Served.served system kernel caller service argument)
outcome_of system kernel caller service argument =
    let P : Served.Served → Type 0 = Outcome kernel caller service argument in
    cond_both (is_locked kernel && not (Served.is_allowed_locked service)) (Served.misuses (Served.locked_code kernel service) kernel) _ P
    (λ h. keeps (misused kernel (Served.locked_code kernel service)))
    (λ h. cond_both (not (Served.is_for caller service)) (Served.misuses CallLevel kernel) (Served.row system kernel caller service argument) P
    (λ k. keeps (misused kernel CallLevel))
    (λ k. row_outcome system kernel caller service argument))
