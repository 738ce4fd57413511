-- Each step keeps what holds of every state of a run.
use Rattle.std.proofs.Common.{◌≡◌, ℕ, zero, suc, ◌+◌, ◌-◌, ◌<◌, ◌≤◌, inl, inr, Bool, true, false, List, [], ◌∷◌, length, Option, Some, None, refl, sym, ◌∙◌, subst, arith, rules, IsSome}
use Rattle.std.specs.Prelude.{slice_index_or, is_none, not, option_map, cond, slice_get, nat_lt, ◌&&◌}
use Rattle.std.specs.List.{AllByRecursion}
use Rattle.std.proofs.lemmas.Bool.{cond_both, ltb-true, ltb-false}
use Rattle.std.proofs.lemmas.Option.{same_Some, none-some}
use Rattle.std.proofs.lemmas.List.{length-set}
use Rattle.oil_model.specs.declared.system.Alarm.{Alarm}
use Rattle.oil_model.specs.declared.system.System.{System}
use Rattle.oil_model.specs.System.{IsLawful, IsAlarm}
use Rattle.elf_image.specs.Image.{ImageData}
use Rattle.osek_kernel.specs.declared.context.Context.{Context}
use Rattle.osek_kernel.specs.declared.context.Context.TheVariants as contexts
use Rattle.osek_kernel.specs.declared.source.Source.TheVariants as sources
use Rattle.osek_kernel.specs.declared.kernel.Kernel.{Kernel}
use Rattle.osek_kernel.specs.declared.service.Service.{Service}
use Rattle.osek_kernel.specs.declared.service.Service.TheVariants.{ActivateTask, TerminateTask, ChainTask, GetResource, ReleaseResource, DisableAllInterrupts, EnableAllInterrupts, SuspendAllInterrupts, ResumeAllInterrupts, SuspendOSInterrupts, ResumeOSInterrupts, Schedule, EndIsr}
use Rattle.osek_kernel.specs.Contexts.{IsContext, entry_of}
use Rattle.osek_kernel.specs.Services.{takes}
use Rattle.osek_kernel.specs.Sources.{source_at, source_count}
use Rattle.osek_kernel.specs.Kernel.{is_locked, activate}
use Rattle.osek_kernel.specs.Served
use Rattle.osek_kernel.specs.Taken.{taken, alarm_taken, expired, outcome}
use Rattle.osek_kernel.specs.declared.service.Code.{Code}
use Rattle.osek_kernel.specs.declared.service.Code.TheVariants.{Done, Access, CallLevel, Limit, NoFunction, Resource, State}
use Rattle.osek_kernel.specs.declared.kernel.Reply.{Reply}
use Rattle.osek_kernel.specs.Kernel.{IsActive, held_by}
use Rattle.osek_kernel.specs.Running.{runs}
use Rattle.osek_kernel.specs.Laws.{TakesKeepActive}
use Rattle.osek_kernel.specs.Kernel.{task_state}
use Rattle.osek_kernel.specs.Running.{dispatched}
use Rattle.osek_kernel.specs.Laws.{ServesActive, TakesActive}
use Rattle.osek_kernel.specs.Positions.{started, answered}
use Rattle.osek_kernel.proofs.Runs.{some_of, active_inside}
use Rattle.osek_kernel.proofs.Serves.{services_keep_active}
use Rattle.osek_kernel.proofs.Theorems.{the_first_runs, dispatch_keeps_active}
use Rattle.osek_machine.specs.State.{MachineState, standing_at, at_entry}
use Rattle.osek_machine.specs.Events.{Arrival, Taking, Execution, ServiceCall, Event, Arrive, Take, Execute, Serve, Idle}
use Rattle.osek_machine.specs.Steps.{Arrives, Takes, Executes, Serves, Idles, Step, taken_by, served_by, argument_in, gone_on}
use Rattle.osek_machine.specs.Room.{HaveEntries, IsStateOf}
use Rattle.osek_machine.proofs.Keeping.{Enters, dispatch_keeps, execute_keeps, take_keeps, serve_keeps}

-- ---- Who is started exists

alarm_of : (system : System) (alarms : List Alarm) (a : ℕ) (alarm : Alarm) → AllByRecursion (IsAlarm system) alarms → slice_get alarms a ≡ Some alarm → IsAlarm system alarm
alarm_of system [] a alarm all e = absurd (none-some alarm e)
alarm_of system (x ∷ xs) zero alarm all e = subst (IsAlarm system) (same_Some x alarm e) all.0
alarm_of system (x ∷ xs) (suc a) alarm all e = alarm_of system xs a alarm all.1 e

expired_exists : (system : System) (k : Kernel) (task : ℕ) → task < length system.tasks → (c : Context) → (expired k task).started ≡ Some c → IsContext system c
expired_exists system k task within c =
    cond_both (Served.is_suspended k task) (outcome (activate k task) (Some (contexts.Task task))) (outcome k None) (λ o. o.started ≡ Some c → IsContext system c)
    (λ h e. subst (IsContext system) (same_Some (contexts.Task task) c e) within)
    (λ h e. absurd (none-some c e))

alarm_exists : (system : System) (k : Kernel) → IsLawful system → (a : ℕ) (o : Option Alarm) → slice_get system.alarms a ≡ o
    → (c : Context) → (alarm_taken k (option_map (λ x. x.task) o)).started ≡ Some c → IsContext system c
alarm_exists system k lawful a None e c h = absurd (none-some c h)
alarm_exists system k lawful a (Some alarm) e c h = expired_exists system k alarm.task (alarm_of system system.alarms a alarm lawful.alarms e).task c h

source_exists : (system : System) (k : Kernel) → IsLawful system → (n : ℕ) (b : Bool) → nat_lt n (length system.alarms) ≡ b → n < source_count system
    → (c : Context) → (taken system k (cond b (sources.Alarm n) (sources.Isr (n - length system.alarms)))).started ≡ Some c → IsContext system c
source_exists system k lawful n true e within c h = alarm_exists system k lawful n (slice_get system.alarms n) refl c h
source_exists system k lawful n false e within c h =
    let past : length system.alarms ≤ n = ltb-false n (length system.alarms) e in
    let is_isr : n - length system.alarms < length system.isrs = omega arith in
    subst (IsContext system) (same_Some (contexts.Isr (n - length system.alarms)) c h) is_isr

pub taken_exists : (system : System) (k : Kernel) → IsLawful system → (n : ℕ) → n < source_count system
    → (c : Context) → (taken system k (source_at system n)).started ≡ Some c → IsContext system c
taken_exists system k lawful n within c h = source_exists system k lawful n (nat_lt n (length system.alarms)) refl within c h

-- ---- Who is activated exists

record Activates (system : System) (after : Served.Served) : Type 0 where
  exists : (t : ℕ) → after.reply.activated ≡ Some t → t < length system.tasks

nobody : (system : System) (k : Kernel) (reply : Reply) → reply.activated ≡ None → Activates system (Served.answer k reply)
nobody system k reply none = record { exists = λ t e. absurd (none-some t (sym none ∙ e)) }

either : (system : System) (b : Bool) (x y : Served.Served) → Activates system x → Activates system y → Activates system (cond b x y)
either system true x y h k = h
either system false x y h k = k

somebody : (system : System) (after : Served.Served) (argument : ℕ) → after.reply.activated ≡ Some argument → nat_lt argument (length system.tasks) ≡ true → Activates system after
somebody system after argument some has = record {
  exists = λ t e. (
      let within : argument < length system.tasks = ltb-true argument (length system.tasks) has in
      let same : argument ≡ t = same_Some argument t (sym some ∙ e) in
      omega arith);
}

misused : (system : System) (k : Kernel) (code : Code) → Activates system (Served.misuses code k)
misused system k code = nobody system k (Served.misuse code) refl

on : (system : System) (k : Kernel) (code : Code) → Activates system (Served.goes_on code k)
on system k code = nobody system k (Served.going_on code) refl

ended : (system : System) (k : Kernel) (caller : Context) → Activates system (Served.ends caller k)
ended system k caller = record { exists = λ t e. absurd (none-some t e) }

suspends_nobody : (system : System) (k : Kernel) → Activates system (Served.suspend_interrupts k)
suspends_nobody system k =
    either system (nat_lt k.suspended 7) (Served.goes_on Done (record k { suspended = k.suspended + 1 })) (Served.misuses Limit k)
    (on system (record k { suspended = k.suspended + 1 }) Done) (misused system k Limit)

resumes_nobody : (system : System) (k : Kernel) → Activates system (Served.resume_interrupts k)
resumes_nobody system k =
    either system (nat_lt 0 k.suspended) (Served.goes_on Done (record k { suspended = k.suspended - 1 })) (Served.misuses State k)
    (on system (record k { suspended = k.suspended - 1 }) Done) (misused system k State)

row_activates : (system : System) (k : Kernel) (caller : Context) (service : Service) (argument : ℕ) → takes system service argument ≡ true
    → Activates system (Served.row system k caller service argument)
row_activates system k caller ActivateTask n has =
    either system (Served.is_suspended k n) (Served.activates n k) (Served.goes_on Limit k) (somebody system (Served.activates n k) n refl has) (on system k Limit)
row_activates system k caller TerminateTask n has =
    either system (Served.holds_any k caller) (Served.misuses Resource k) (Served.ends caller k) (misused system k Resource) (ended system k caller)
row_activates system k caller ChainTask n has =
    either system (Served.holds_any k caller) (Served.misuses Resource k)
    (cond (not (Served.is_task caller n) && not (Served.is_suspended k n)) (Served.misuses Limit k) (Served.chains caller n k))
    (misused system k Resource)
    (either system (not (Served.is_task caller n) && not (Served.is_suspended k n)) (Served.misuses Limit k) (Served.chains caller n k) (misused system k Limit) (somebody system (Served.chains caller n k) n refl has))
row_activates system k caller GetResource n has =
    let held : Served.Served = Served.goes_on Done (Served.change_caller (Served.holding n) caller k) in
    let refused : Activates system (Served.misuses Access k) = misused system k Access in
    either system (Served.is_internal system n) (Served.misuses Access k) (cond (not (Served.may_take system caller n)) (Served.misuses Access k) (cond (Served.is_held k n) (Served.misuses Access k) held)) refused
    (either system (not (Served.may_take system caller n)) (Served.misuses Access k) (cond (Served.is_held k n) (Served.misuses Access k) held) refused
    (either system (Served.is_held k n) (Served.misuses Access k) held refused (on system (Served.change_caller (Served.holding n) caller k) Done)))
row_activates system k caller ReleaseResource n has =
    either system (Served.is_last (held_by k caller) n) (Served.goes_on Done (Served.change_caller Served.without_last caller k)) (Served.misuses NoFunction k)
    (on system (Served.change_caller Served.without_last caller k) Done) (misused system k NoFunction)
row_activates system k caller DisableAllInterrupts n has = on system (record k { disabled = true }) Done
row_activates system k caller EnableAllInterrupts n has =
    either system k.disabled (Served.goes_on Done (record k { disabled = false })) (Served.misuses State k) (on system (record k { disabled = false }) Done) (misused system k State)
row_activates system k caller SuspendAllInterrupts n has = suspends_nobody system k
row_activates system k caller ResumeAllInterrupts n has = resumes_nobody system k
row_activates system k caller SuspendOSInterrupts n has = suspends_nobody system k
row_activates system k caller ResumeOSInterrupts n has = resumes_nobody system k
row_activates system k caller Schedule n has =
    either system (Served.holds_any k caller) (Served.misuses Resource k) (Served.goes_on Done (Served.change_caller Served.preemptable caller k)) (misused system k Resource) (on system (Served.change_caller Served.preemptable caller k) Done)
row_activates system k caller EndIsr n has = ended system k caller

served_activates : (system : System) (k : Kernel) (caller : Context) (service : Service) (argument : ℕ) → takes system service argument ≡ true
    → Activates system (Served.served system k caller service argument)
served_activates system k caller service argument has =
    either system (is_locked k && not (Served.is_allowed_locked service)) (Served.misuses (Served.locked_code k service) k) (cond (not (Served.is_for caller service)) (Served.misuses CallLevel k) (Served.row system k caller service argument)) (misused system k (Served.locked_code k service))
    (either system (not (Served.is_for caller service)) (Served.misuses CallLevel k) (Served.row system k caller service argument) (misused system k CallLevel) (row_activates system k caller service argument has))

pub served_exists : (system : System) (k : Kernel) (caller : Context) (service : Service) (argument : ℕ) → takes system service argument ≡ true
    → (t : ℕ) → (Served.served system k caller service argument).reply.activated ≡ Some t → t < length system.tasks
served_exists system k caller service argument has = (served_activates system k caller service argument has).exists

-- ---- Steps

pub takes_active : TakesKeepActive
takes_active system k source none = search rules

-- interrupts are open only while no ISR is active
pub open_none : (isr : Option ℕ) (locked : Bool) → (is_none isr && not locked) ≡ true → isr ≡ None
open_none None locked e = refl
open_none (Some i) locked e = cc

enters : (image : ImageData) (system : System) (registers : List ℕ) → HaveEntries image system → Enters system (at_entry image system registers)
enters image system registers have = record { each = λ c is. entered registers (entry_of image system c) (have.each c is) }
  where
    entered : (registers : List ℕ) (o : Option ℕ) → IsSome o → IsSome (option_map (standing_at registers) o)
    entered registers (Some place) some = refl
    entered registers None some = cc

pub running_exists : (system : System) (state : MachineState) (c : Context) → IsStateOf system state → runs system state.kernel ≡ Some c → IsContext system c
running_exists system state (contexts.Task t) fits e =
    let some = some_of (task_state state.kernel t) ((the_first_runs system state.kernel).active (contexts.Task t) e) in
    let within : t < length state.kernel.tasks = active_inside state.kernel t some.0 some.1 in
    let same : length state.kernel.tasks ≡ length system.tasks = fits.tasks in
    omega arith
running_exists system state (contexts.Isr i) fits e = fits.isr i ((the_first_runs system state.kernel).active (contexts.Isr i) e)

running_active : (system : System) (k : Kernel) (c : Context) → runs system k ≡ Some c → IsActive k c
running_active system k c e = (the_first_runs system k).active c e

-- ---- Steps

isr_after : (system : System) (k : Kernel) (i : ℕ) → (dispatched system k).isr ≡ Some i → k.isr ≡ Some i
isr_after system k i e = sym (dispatch_keeps_active system k).isr ∙ e

tasks_after : (system : System) (k before : Kernel) → length k.tasks ≡ length before.tasks → length before.tasks ≡ length system.tasks → length (dispatched system k).tasks ≡ length system.tasks
tasks_after system k before count same = (dispatch_keeps_active system k).count ∙ (count ∙ same)

arrive_keeps : (system : System) (arrival : Arrival) (before after : MachineState) → Arrives system arrival before after → IsStateOf system before → IsStateOf system after
arrive_keeps system arrival before after step fits = subst (IsStateOf system) (sym step.becomes) (record {
  positions = fits.positions;
  tasks = fits.tasks;
  isr = fits.isr;
  pending = length-set before.pending arrival.source true ∙ fits.pending;
  time = fits.time;
})

idle_keeps : (system : System) (cycles : ℕ) (before after : MachineState) → Idles system cycles before after → IsStateOf system before → IsStateOf system after
idle_keeps system cycles before after step fits = subst (IsStateOf system) (sym step.becomes) (record {
  positions = fits.positions;
  tasks = fits.tasks;
  isr = fits.isr;
  pending = fits.pending;
  time = omega arith;
})

execution_keeps : (image : ImageData) (system : System) (execution : Execution) (before after : MachineState) → Executes image system execution before after → IsStateOf system before → IsStateOf system after
execution_keeps image system execution before after step fits = subst (IsStateOf system) (sym step.becomes) (record {
  positions = execute_keeps system before.kernel execution.context execution.after before.standings
      (running_exists system before execution.context fits step.running) (running_active system before.kernel execution.context step.running) fits.positions;
  tasks = fits.tasks;
  isr = fits.isr;
  pending = fits.pending;
  time = omega arith;
})

pub pending_within : (pending : List Bool) (n : ℕ) → slice_index_or pending n false ≡ true → n < length pending
pending_within [] n e = cc
pending_within (b ∷ bs) zero e = omega arith
pending_within (b ∷ bs) (suc n) e = let within : n < length bs = pending_within bs n e in omega arith

taking_keeps : (image : ImageData) (system : System) (taking : Taking) (before after : MachineState) → IsLawful system → HaveEntries image system
    → Takes image system taking before after → IsStateOf system before → IsStateOf system after
taking_keeps image system taking before after lawful have step fits =
    let done = taken_by system taking.source before in
    let none : before.kernel.isr ≡ None = open_none before.kernel.isr (is_locked before.kernel) step.interrupts in
    let who : TakesActive before.kernel done = takes_active system before.kernel (source_at system taking.source) none in
    let within : taking.source < source_count system = (let w = pending_within before.pending taking.source step.pending in let same : length before.pending ≡ source_count system = fits.pending in omega arith) in
    let exist : (c : Context) → done.started ≡ Some c → IsContext system c = taken_exists system before.kernel lawful taking.source within in
    subst (IsStateOf system) (sym step.becomes) (record {
      positions = dispatch_keeps system done.kernel (started system (at_entry image system taking.registers) done.started before.standings)
          (take_keeps system (at_entry image system taking.registers) before.kernel done before.standings (enters image system taking.registers have) exist fits.tasks who fits.positions);
      tasks = tasks_after system done.kernel before.kernel who.count fits.tasks;
      isr = λ i e. elim (who.only (contexts.Isr i) (isr_after system done.kernel i e)) [ inl old ↦ fits.isr i old | inr new ↦ exist (contexts.Isr i) new ];
      pending = length-set before.pending taking.source false ∙ fits.pending;
      time = omega arith;
    })

no_isr : (activated : Option ℕ) (i : ℕ) → option_map contexts.Task activated ≡ Some (contexts.Isr i) → ⊥
no_isr None i e = none-some (contexts.Isr i) e
no_isr (Some t) i e = let same : contexts.Task t ≡ contexts.Isr i = same_Some (contexts.Task t) (contexts.Isr i) e in cc

call_keeps : (image : ImageData) (system : System) (call : ServiceCall) (before after : MachineState) → HaveEntries image system
    → Serves image system call before after → IsStateOf system before → IsStateOf system after
call_keeps image system call before after have step fits =
    let done = served_by system call before in
    let active : IsActive before.kernel call.caller = running_active system before.kernel call.caller step.running in
    let who : ServesActive before.kernel call.caller done = services_keep_active system before.kernel call.caller call.service (argument_in call.before) active in
    let exist : (t : ℕ) → done.reply.activated ≡ Some t → t < length system.tasks = served_exists system before.kernel call.caller call.service (argument_in call.before) step.argument in
    subst (IsStateOf system) (sym step.becomes) (record {
      positions = dispatch_keeps system done.kernel (answered system (at_entry image system call.registers) call.caller (Some (gone_on done.reply.code call.before)) done.reply before.standings)
          (serve_keeps system (at_entry image system call.registers) before.kernel call.caller done (gone_on done.reply.code call.before) before.standings (enters image system call.registers have) exist fits.tasks who
          (running_exists system before call.caller fits step.running) active fits.positions);
      tasks = tasks_after system done.kernel before.kernel who.count fits.tasks;
      isr = λ i e. elim (who.only (contexts.Isr i) (isr_after system done.kernel i e)) [ inl old ↦ fits.isr i old | inr new ↦ absurd (no_isr done.reply.activated i new) ];
      pending = fits.pending;
      time = omega arith;
    })

pub step_keeps : (image : ImageData) (system : System) (event : Event) (before after : MachineState) → IsLawful system → HaveEntries image system
    → Step image system event before after → IsStateOf system before → IsStateOf system after
step_keeps image system (Arrive arrival) before after lawful have step fits = arrive_keeps system arrival before after step fits
step_keeps image system (Take taking) before after lawful have step fits = taking_keeps image system taking before after lawful have step fits
step_keeps image system (Execute execution) before after lawful have step fits = execution_keeps image system execution before after step fits
step_keeps image system (Serve call) before after lawful have step fits = call_keeps image system call before after have step fits
step_keeps image system (Idle cycles) before after lawful have step fits = idle_keeps system cycles before after step fits
