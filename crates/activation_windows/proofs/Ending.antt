-- A service that its caller returns from doesn't end it.
use Rattle.std.proofs.Common.{◌≡◌, ℕ, ◌+◌, ◌-◌, false, cond, None, refl}
use Rattle.std.specs.Prelude.{not, ◌&&◌, nat_lt}
use Rattle.std.proofs.lemmas.Bool.{cond_both}
use Rattle.oil_model.specs.declared.system.System.{System}
use Rattle.osek_kernel.specs.declared.context.Context.{Context}
use Rattle.osek_kernel.specs.declared.kernel.Kernel.{Kernel}
use Rattle.osek_kernel.specs.declared.service.Service.{Service}
use Rattle.osek_kernel.specs.declared.service.Service.TheVariants.{ActivateTask, TerminateTask, ChainTask, GetResource, ReleaseResource, DisableAllInterrupts, EnableAllInterrupts, SuspendAllInterrupts, ResumeAllInterrupts, SuspendOSInterrupts, ResumeOSInterrupts, Schedule, EndIsr}
use Rattle.osek_kernel.specs.declared.service.Code.TheVariants.{Done, Access, CallLevel, Limit, NoFunction, Resource, State}
use Rattle.osek_kernel.specs.Kernel.{held_by, is_locked}
use Rattle.osek_kernel.specs.Served
use Rattle.flow_graph.specs.Graph.{ends_caller}

abbrev Stays : Served.Served → Type 0
Stays after = after.reply.ended ≡ None

either : (b : _) (x y : Served.Served) → Stays x → Stays y → Stays (cond b x y)
either b x y one other = cond_both b x y Stays (λ h. one) (λ h. other)

row_stays : (system : System) (k : Kernel) (caller : Context) (service : Service) (argument : ℕ) → ends_caller service ≡ false
    → Stays (Served.row system k caller service argument)
row_stays system k caller ActivateTask n is = either (Served.is_suspended k n) (Served.activates n k) (Served.goes_on Limit k) refl refl
row_stays system k caller TerminateTask n is = absurd cc
row_stays system k caller ChainTask n is = absurd cc
row_stays system k caller EndIsr n is = absurd cc
row_stays system k caller GetResource n is =
    let good = Served.goes_on Done (Served.change_caller (Served.holding n) caller k) in
    let bad = Served.misuses Access k in
    either (Served.is_internal system n) bad
    (cond (not (Served.may_take system caller n)) bad (cond (Served.is_held k n) bad good)) refl
    (either (not (Served.may_take system caller n)) bad (cond (Served.is_held k n) bad good) refl
    (either (Served.is_held k n) bad good refl refl))
row_stays system k caller ReleaseResource n is =
    either (Served.is_last (held_by k caller) n) (Served.goes_on Done (Served.change_caller Served.without_last caller k))
    (Served.misuses NoFunction k) refl refl
row_stays system k caller DisableAllInterrupts n is = refl
row_stays system k caller EnableAllInterrupts n is =
    either k.disabled (Served.goes_on Done (record k { disabled = false })) (Served.misuses State k) refl refl
row_stays system k caller SuspendAllInterrupts n is =
    either (nat_lt k.suspended 7) (Served.goes_on Done (record k { suspended = k.suspended + 1 })) (Served.misuses Limit k) refl refl
row_stays system k caller ResumeAllInterrupts n is =
    either (nat_lt 0 k.suspended) (Served.goes_on Done (record k { suspended = k.suspended - 1 })) (Served.misuses State k) refl refl
row_stays system k caller SuspendOSInterrupts n is =
    either (nat_lt k.suspended 7) (Served.goes_on Done (record k { suspended = k.suspended + 1 })) (Served.misuses Limit k) refl refl
row_stays system k caller ResumeOSInterrupts n is =
    either (nat_lt 0 k.suspended) (Served.goes_on Done (record k { suspended = k.suspended - 1 })) (Served.misuses State k) refl refl
row_stays system k caller Schedule n is =
    either (Served.holds_any k caller) (Served.misuses Resource k) (Served.goes_on Done (Served.change_caller Served.preemptable caller k)) refl refl

pub served_stays : (system : System) (k : Kernel) (caller : Context) (service : Service) (argument : ℕ) → ends_caller service ≡ false
    → (Served.served system k caller service argument).reply.ended ≡ None
served_stays system k caller service n is =
    either (is_locked k && not (Served.is_allowed_locked service)) (Served.misuses (Served.locked_code k service) k)
    (cond (not (Served.is_for caller service)) (Served.misuses CallLevel k) (Served.row system k caller service n)) refl
    (either (not (Served.is_for caller service)) (Served.misuses CallLevel k) (Served.row system k caller service n) refl
    (row_stays system k caller service n is))
