-- The laws of runs.
use Rattle.std.proofs.Common.{◌≡◌, ℕ, ◌+◌, true, false, List, [], ◌∷◌, length, Option, Some, None, refl, sym, ◌∙◌, ap, subst, arith, true≢false}
use Rattle.std.proofs.lemmas.List.{length-map, length-replicate}
use Rattle.std.proofs.lemmas.Option.{same_Some, none-some}
use Rattle.oil_model.specs.declared.system.System.{System}
use Rattle.elf_image.specs.Image.{ImageData}
use Rattle.rv32_decode.specs.declared.instruction.Insn.{Insn}
use Rattle.rv32_decode.specs.declared.instruction.Insn.TheVariants.{Ecall, Ebreak}
use Rattle.rv32_machine.specs.Code.{insn_at}
use Rattle.rv32_machine.specs.Execution.{executed}
use Rattle.rv32_machine.specs.ContextStep.{Standing}
use Rattle.osek_kernel.specs.declared.service.Service.{Service}
use Rattle.osek_kernel.specs.Sources.{source_at, source_count}
use Rattle.osek_kernel.specs.Services.{service_of, takes}
use Rattle.osek_kernel.specs.Kernel.{autostarted, is_locked}
use Rattle.osek_kernel.specs.Taken.{initial}
use Rattle.osek_kernel.specs.Laws.{ServesActive, TakesActive}
use Rattle.osek_kernel.proofs.Serves.{services_keep_active}
use Rattle.osek_kernel.proofs.Theorems.{the_first_runs, dispatch_keeps_active}
use Rattle.osek_machine.specs.State.{MachineState, standing_of}
use Rattle.osek_machine.specs.Events.{Arrive, Take, Execute, Serve, Idle, Execution, ServiceCall, cycles_of}
use Rattle.osek_machine.specs.Steps.{Executes, Serves, taken_by, served_by, number_in, argument_in}
use Rattle.osek_machine.specs.Runs.{IsInitial}
use Rattle.osek_machine.specs.Room.{IsStateOf}
use Rattle.osek_machine.specs.Stuck.{is_stuck_at}
use Rattle.osek_machine.specs.Laws.{Passes, StepsTakeTheirTime, RunsTakeTheirTime, RunsKeepRoom, PrefixesAreDeclared, StuckMakeNoStep}
use Rattle.osek_machine.proofs.Kept.{step_keeps, takes_active, open_none}

-- ---- Time and mode

pub steps_take_their_time : StepsTakeTheirTime
steps_take_their_time image system (Arrive arrival) before after step = subst (Passes (Arrive arrival) before) (sym step.becomes) (record { moment = omega arith; mode = refl })
steps_take_their_time image system (Take taking) before after step =
    let done = taken_by system taking.source before in
    let none : before.kernel.isr ≡ None = open_none before.kernel.isr (is_locked before.kernel) step.interrupts in
    let who : TakesActive before.kernel done = takes_active system before.kernel (source_at system taking.source) none in
    subst (Passes (Take taking) before) (sym step.becomes) (record { moment = refl; mode = (dispatch_keeps_active system done.kernel).mode ∙ who.mode })
steps_take_their_time image system (Execute execution) before after step = subst (Passes (Execute execution) before) (sym step.becomes) (record { moment = refl; mode = refl })
steps_take_their_time image system (Serve call) before after step =
    let done = served_by system call before in
    let who : ServesActive before.kernel call.caller done = services_keep_active system before.kernel call.caller call.service (argument_in call.before) ((the_first_runs system before.kernel).active call.caller step.running) in
    subst (Passes (Serve call) before) (sym step.becomes) (record { moment = refl; mode = (dispatch_keeps_active system done.kernel).mode ∙ who.mode })
steps_take_their_time image system (Idle cycles) before after step = subst (Passes (Idle cycles) before) (sym step.becomes) (record { moment = refl; mode = refl })

pub runs_take_their_time : RunsTakeTheirTime
runs_take_their_time image system mode [] state run = record {
  moment = run.moment;
  in_mode = ap (λ k. k.mode) run.kernel ∙ (dispatch_keeps_active system (autostarted system mode)).mode;
}
runs_take_their_time image system mode (event ∷ earlier) state run =
    let before = runs_take_their_time image system mode earlier run.0 run.1 in
    let step : Passes event run.0 state = steps_take_their_time image system event run.0 state run.2 in
    record { moment = step.moment ∙ ap (λ n. n + cycles_of event) before.moment; in_mode = step.mode ∙ before.in_mode }

-- ---- Room

initial_tasks : (system : System) (mode : ℕ) → length (initial system mode).tasks ≡ length system.tasks
initial_tasks system mode = (dispatch_keeps_active system (autostarted system mode)).count ∙ simp length-map

pub starts_with_room : (image : ImageData) (system : System) (mode : ℕ) (state : MachineState) → IsInitial image system mode state → IsStateOf system state
starts_with_room image system mode state begins = record {
  positions = begins.standings;
  tasks = ap (λ k. length k.tasks) begins.kernel ∙ initial_tasks system mode;
  isr = λ i e. absurd (none-some i (sym (dispatch_keeps_active system (autostarted system mode)).isr ∙ (sym (ap (λ k. k.isr) begins.kernel) ∙ e)));
  pending = ap length begins.pending ∙ length-replicate (source_count system) false;
  time = (let last : state.last_start ≡ 0 = begins.last_start in omega arith);
}

pub runs_keep_room : RunsKeepRoom
runs_keep_room image system mode [] state lawful have run = starts_with_room image system mode state run
runs_keep_room image system mode (event ∷ earlier) state lawful have run =
    step_keeps image system event run.0 state lawful have run.2 (runs_keep_room image system mode earlier run.0 lawful have run.1)

-- ---- Declarations

pub prefixes_are_declared : PrefixesAreDeclared
prefixes_are_declared image system timing event earlier declared = record {
  arrivals = declared.arrivals.1;
  returns = declared.returns.1;
  code = declared.code.1;
  loops = declared.loops.1;
  costs = declared.costs.1;
}

-- ---- Who is stuck

stuck_executes : (system : System) (standing : Standing) (insn : Insn) (place : ℕ) (registers : List ℕ) (memory : ℕ → Option ℕ) (device : ℕ)
    → is_stuck_at system standing (Some insn) ≡ true → executed insn place registers memory device ≡ None
stuck_executes system standing Ecall place registers memory device stuck = refl
stuck_executes system standing Ebreak place registers memory device stuck = refl
stuck_executes system standing insn place registers memory device stuck = cc

stuck_calls : (system : System) (standing : Standing) (service : Service) → service_of (number_in standing) ≡ Some service
    → takes system service (argument_in standing) ≡ true → is_stuck_at system standing (Some Ecall) ≡ false
stuck_calls system standing service is has = rw is (rw has refl)

pub stuck_make_no_step : StuckMakeNoStep
stuck_make_no_step image system context address state after stuck = (executes, calls)
  where
    executes : (execution : Execution) → Executes image system execution state after → ⊥
    executes execution step =
        let who : context ≡ execution.context = same_Some context execution.context (sym stuck.running ∙ step.running) in
        let how : stuck.standing ≡ execution.before = same_Some stuck.standing execution.before (sym stuck.stands ∙ (ap (standing_of system state) who ∙ step.stands)) in
        let at : is_stuck_at system stuck.standing (Some step.step.insn) ≡ true = ap (is_stuck_at system stuck.standing) (sym (ap (λ s. insn_at image s.place) how ∙ step.step.fetched)) ∙ stuck.stuck in
        none-some step.step.effect (sym (stuck_executes system stuck.standing step.step.insn execution.before.place execution.before.registers state.memory execution.device at) ∙ step.step.does)

    calls : (call : ServiceCall) → Serves image system call state after → ⊥
    calls call step =
        let who : context ≡ call.caller = same_Some context call.caller (sym stuck.running ∙ step.running) in
        let how : stuck.standing ≡ call.before = same_Some stuck.standing call.before (sym stuck.stands ∙ (ap (standing_of system state) who ∙ step.stands)) in
        let there : is_stuck_at system call.before (insn_at image call.before.place) ≡ true = subst (λ s. is_stuck_at system s (insn_at image s.place) ≡ true) how stuck.stuck in
        let at : is_stuck_at system call.before (Some Ecall) ≡ true = ap (is_stuck_at system call.before) (sym step.fetched) ∙ there in
        let goes : is_stuck_at system call.before (Some Ecall) ≡ false = stuck_calls system call.before call.service step.service step.argument in
        true≢false (sym at ∙ goes)
