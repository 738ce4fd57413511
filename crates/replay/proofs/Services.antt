-- Whom a service ends and which task it activates, by what the machine tells of it.
use Rattle.std.proofs.Common.{◌≡◌, ℕ, false, cond, refl}
use Rattle.std.specs.Prelude.{not, ◌&&◌, nat_lt, ◌+◌, ◌-◌}
use Rattle.std.proofs.lemmas.Bool.{cond_both}
use Rattle.oil_model.specs.declared.system.System.{System}
use Rattle.osek_kernel.specs.declared.context.Context.{Context}
use Rattle.osek_kernel.specs.declared.kernel.Kernel.{Kernel}
use Rattle.osek_kernel.specs.declared.service.Service.{Service}
use Rattle.osek_kernel.specs.declared.service.Service.TheVariants.{ActivateTask, TerminateTask, ChainTask, GetResource, ReleaseResource, DisableAllInterrupts, EnableAllInterrupts, SuspendAllInterrupts, ResumeAllInterrupts, SuspendOSInterrupts, ResumeOSInterrupts, Schedule, EndIsr}
use Rattle.osek_kernel.specs.declared.service.Code.TheVariants.{Done, Access, Limit, NoFunction, Resource, State, CallLevel}
use Rattle.osek_kernel.specs.Kernel.{is_locked, held_by}
use Rattle.osek_kernel.specs.Services.{number_of, code_number}
use Rattle.osek_kernel.specs.Served
use Rattle.replay.specs.Working.Moves.{ends_then, activates_then}

-- the reply ends and activates what it tells
pub record TellsWhom (caller : Context) (number argument : ℕ) (after : Served.Served) : Type 0 where
  pub ended : after.reply.ended ≡ ends_then caller number after.reply.misuse
  pub activated : after.reply.activated ≡ activates_then number argument (code_number after.reply.code) after.reply.misuse

row_tells : (system : System) (k : Kernel) (caller : Context) (service : Service) (n : ℕ) → TellsWhom caller (number_of service) n (Served.row system k caller service n)
row_tells system k caller ActivateTask n =
    cond_both (Served.is_suspended k n) (Served.activates n k) (Served.goes_on Limit k) (TellsWhom caller 1 n)
    (λ h. record { ended = refl; activated = refl }) (λ h. record { ended = refl; activated = refl })
row_tells system k caller TerminateTask n =
    cond_both (Served.holds_any k caller) (Served.misuses Resource k) (Served.ends caller k) (TellsWhom caller 2 n)
    (λ h. record { ended = refl; activated = refl }) (λ h. record { ended = refl; activated = refl })
row_tells system k caller ChainTask n =
    cond_both (Served.holds_any k caller) (Served.misuses Resource k)
    (cond (not (Served.is_task caller n) && not (Served.is_suspended k n)) (Served.misuses Limit k) (Served.chains caller n k)) (TellsWhom caller 3 n)
    (λ h. record { ended = refl; activated = refl })
    (λ h. cond_both (not (Served.is_task caller n) && not (Served.is_suspended k n)) (Served.misuses Limit k) (Served.chains caller n k) (TellsWhom caller 3 n)
    (λ h. record { ended = refl; activated = refl }) (λ h. record { ended = refl; activated = refl }))
row_tells system k caller GetResource n =
    let taken : Served.Served = Served.goes_on Done (Served.change_caller (Served.holding n) caller k) in
    let P : Served.Served → Type 0 = TellsWhom caller 4 n in
    let refused : P (Served.misuses Access k) = record { ended = refl; activated = refl } in
    cond_both (Served.is_internal system n) (Served.misuses Access k) _ P (λ h. refused)
    (λ h. cond_both (not (Served.may_take system caller n)) (Served.misuses Access k) _ P (λ i. refused)
    (λ i. cond_both (Served.is_held k n) (Served.misuses Access k) taken P (λ l. refused) (λ l. record { ended = refl; activated = refl })))
row_tells system k caller ReleaseResource n =
    cond_both (Served.is_last (held_by k caller) n) (Served.goes_on Done (Served.change_caller Served.without_last caller k)) (Served.misuses NoFunction k)
    (TellsWhom caller 5 n) (λ h. record { ended = refl; activated = refl }) (λ h. record { ended = refl; activated = refl })
row_tells system k caller DisableAllInterrupts n = record { ended = refl; activated = refl }
row_tells system k caller EnableAllInterrupts n =
    cond_both k.disabled (Served.goes_on Done (record k { disabled = false })) (Served.misuses State k) (TellsWhom caller 7 n)
    (λ h. record { ended = refl; activated = refl }) (λ h. record { ended = refl; activated = refl })
row_tells system k caller SuspendAllInterrupts n =
    cond_both (nat_lt k.suspended 7) (Served.goes_on Done (record k { suspended = k.suspended + 1 })) (Served.misuses Limit k) (TellsWhom caller 8 n)
    (λ h. record { ended = refl; activated = refl }) (λ h. record { ended = refl; activated = refl })
row_tells system k caller ResumeAllInterrupts n =
    cond_both (nat_lt 0 k.suspended) (Served.goes_on Done (record k { suspended = k.suspended - 1 })) (Served.misuses State k) (TellsWhom caller 9 n)
    (λ h. record { ended = refl; activated = refl }) (λ h. record { ended = refl; activated = refl })
row_tells system k caller SuspendOSInterrupts n =
    cond_both (nat_lt k.suspended 7) (Served.goes_on Done (record k { suspended = k.suspended + 1 })) (Served.misuses Limit k) (TellsWhom caller 10 n)
    (λ h. record { ended = refl; activated = refl }) (λ h. record { ended = refl; activated = refl })
row_tells system k caller ResumeOSInterrupts n =
    cond_both (nat_lt 0 k.suspended) (Served.goes_on Done (record k { suspended = k.suspended - 1 })) (Served.misuses State k) (TellsWhom caller 11 n)
    (λ h. record { ended = refl; activated = refl }) (λ h. record { ended = refl; activated = refl })
row_tells system k caller Schedule n =
    cond_both (Served.holds_any k caller) (Served.misuses Resource k) (Served.goes_on Done (Served.change_caller Served.preemptable caller k)) (TellsWhom caller 12 n)
    (λ h. record { ended = refl; activated = refl }) (λ h. record { ended = refl; activated = refl })
row_tells system k caller EndIsr n = record { ended = refl; activated = refl }

pub served_tells : (system : System) (k : Kernel) (caller : Context) (service : Service) (n : ℕ)
    → TellsWhom caller (number_of service) n (Served.served system k caller service n)
served_tells system k caller service n =
    cond_both (is_locked k && not (Served.is_allowed_locked service)) (Served.misuses (Served.locked_code k service) k) _ (TellsWhom caller (number_of service) n)
    (λ h. record { ended = refl; activated = refl })
    (λ h. cond_both (not (Served.is_for caller service)) (Served.misuses CallLevel k) (Served.row system k caller service n) (TellsWhom caller (number_of service) n)
    (λ i. record { ended = refl; activated = refl }) (λ i. row_tells system k caller service n))
