-- A service that its caller doesn't return from ends it, or is misused.
use Rattle.std.proofs.Common.{◌≡◌, ℕ, ◌⊎◌, inl, inr, Bool, true, false, cond, Option, Some, None, refl, ◌∙◌, ap}
use Rattle.std.specs.Prelude.{not, ◌&&◌}
use Rattle.std.specs.Option.{option_map_or}
use Rattle.std.proofs.lemmas.Bool.{cond_both}
use Rattle.oil_model.specs.declared.system.System.{System}
use Rattle.osek_kernel.specs.declared.context.Context.{Context}
use Rattle.osek_kernel.specs.declared.kernel.Kernel.{Kernel}
use Rattle.osek_kernel.specs.declared.service.Service.{Service}
use Rattle.osek_kernel.specs.declared.service.Service.TheVariants.{ActivateTask, TerminateTask, ChainTask, GetResource, ReleaseResource, DisableAllInterrupts, EnableAllInterrupts, SuspendAllInterrupts, ResumeAllInterrupts, SuspendOSInterrupts, ResumeOSInterrupts, Schedule, EndIsr}
use Rattle.osek_kernel.specs.declared.service.Code.TheVariants.{Limit, Resource, CallLevel}
use Rattle.osek_kernel.specs.Kernel.{is_locked}
use Rattle.osek_kernel.specs.Services.{service_of}
use Rattle.osek_kernel.specs.Served
use Rattle.flow_graph.specs.Graph.{ends_caller, ends_by}

abbrev Ends : Context → Served.Served → Type 0
Ends caller after = (after.reply.misuse ≡ true) ⊎ (after.reply.ended ≡ Some caller)

row_ends : (system : System) (k : Kernel) (caller : Context) (service : Service) (argument : ℕ) → ends_caller service ≡ true → Ends caller (Served.row system k caller service argument)
row_ends system k caller TerminateTask n is =
    cond_both (Served.holds_any k caller) (Served.misuses Resource k) (Served.ends caller k) (Ends caller) (λ h. inl refl) (λ h. inr refl)
row_ends system k caller ChainTask n is =
    cond_both (Served.holds_any k caller) (Served.misuses Resource k) (cond (not (Served.is_task caller n) && not (Served.is_suspended k n)) (Served.misuses Limit k) (Served.chains caller n k)) (Ends caller) (λ h. inl refl)
    (λ h. cond_both (not (Served.is_task caller n) && not (Served.is_suspended k n)) (Served.misuses Limit k) (Served.chains caller n k) (Ends caller) (λ h. inl refl) (λ h. inr refl))
row_ends system k caller EndIsr n is = inr refl
row_ends system k caller ActivateTask n is = absurd cc
row_ends system k caller GetResource n is = absurd cc
row_ends system k caller ReleaseResource n is = absurd cc
row_ends system k caller DisableAllInterrupts n is = absurd cc
row_ends system k caller EnableAllInterrupts n is = absurd cc
row_ends system k caller SuspendAllInterrupts n is = absurd cc
row_ends system k caller ResumeAllInterrupts n is = absurd cc
row_ends system k caller SuspendOSInterrupts n is = absurd cc
row_ends system k caller ResumeOSInterrupts n is = absurd cc
row_ends system k caller Schedule n is = absurd cc

served_ends : (system : System) (k : Kernel) (caller : Context) (service : Service) (argument : ℕ) → ends_caller service ≡ true → Ends caller (Served.served system k caller service argument)
served_ends system k caller service n is =
    cond_both (is_locked k && not (Served.is_allowed_locked service)) (Served.misuses (Served.locked_code k service) k) _ (Ends caller) (λ h. inl refl)
    (λ h. cond_both (not (Served.is_for caller service)) (Served.misuses CallLevel k) (Served.row system k caller service n) (Ends caller) (λ i. inl refl) (λ i. row_ends system k caller service n is))

goes_on_if : (caller : Context) (after : Served.Served) (service : Service) (ends : Bool) → ends_caller service ≡ ends
    → (ends ≡ true → Ends caller after) → after.reply.misuse ≡ false → after.reply.ended ≡ None → ends_caller service ≡ false
goes_on_if caller after service true is then clean on = elim (then refl) [ inl misused ↦ absurd (cc (misused, clean)) | inr ended ↦ absurd (cc (ended, on)) ]
goes_on_if caller after service false is then clean on = is

-- a caller that goes on behind a service that isn't misused called none that it doesn't return from
pub goes_on : (system : System) (k : Kernel) (caller : Context) (service : Service) (number argument : ℕ) → service_of number ≡ Some service
    → (Served.served system k caller service argument).reply.misuse ≡ false → (Served.served system k caller service argument).reply.ended ≡ None
    → ends_by number ≡ false
goes_on system k caller service number argument is clean on =
    ap (λ (found : Option Service). option_map_or ends_caller found false) is
    ∙ goes_on_if caller (Served.served system k caller service argument) service (ends_caller service) refl (served_ends system k caller service argument) clean on
