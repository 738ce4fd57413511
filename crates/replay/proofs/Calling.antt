-- The call of a service, as it was made and judged.
use Rattle.std.proofs.Common.{◌≡◌, ℕ, ◌+◌, ◌<◌, Bool, true, List, [], ◌∷◌, length, Option, Some, Ok, Err, refl, sym, ◌∙◌, ap, subst}
use Rattle.std.specs.Prelude.{IfSome, Result, option_map, find, ◌==◌}
use Rattle.std.proofs.lemmas.Bool.{cond_both, eqb-true}
use Rattle.std.specs.Option.{option_map_or}
use Rattle.std.proofs.lemmas.Option.{same_Some, none-some}
use Rattle.listed.specs.declared.fault.Fault.{Fault}
use Rattle.listed.specs.declared.fault.Fault.TheVariants.{Kind, Memory}
use Rattle.rv32_decode.specs.declared.instruction.Insn.TheVariants.{Ecall}
use Rattle.rv32_machine.specs.ContextStep.{Standing}
use Rattle.timing_file.specs.Costs.{service_cost}
use Rattle.osek_kernel.specs.declared.context.Context.{Context}
use Rattle.osek_kernel.specs.declared.context.Context.TheVariants as contexts
use Rattle.osek_kernel.specs.declared.service.Service.{Service}
use Rattle.osek_kernel.specs.Services.{code_number, number_of, service_of, services}
use Rattle.osek_kernel.specs.Served
use Rattle.osek_machine.specs.declared.labels.Label.TheVariants as labels
use Rattle.osek_machine.specs.declared.machine.Machine.{Machine}
use Rattle.osek_machine.specs.Events.{Event, Serve, ServiceCall, duration}
use Rattle.osek_machine.specs.State.{MachineState, standing_of}
use Rattle.osek_machine.specs.Steps.{Serves, argument_in, number_in}
use Rattle.osek_machine.specs.Laws.{Passes}
use Rattle.osek_machine.specs.Machine.{Fits, MadeCall, call_of, state_of}
use Rattle.osek_machine.proofs.Kept.{served_exists}
use Rattle.osek_machine.proofs.Times.{steps_take_their_time}
use Rattle.osek_machine.proofs.Machines.{if_some}
use Rattle.wcet_atomic_blocks.specs.Plants.{PlantData}
use Rattle.replay.specs.declared.player.Player.{Player}
use Rattle.replay.specs.declared.response.PlayKind.{PlayKind}
use Rattle.replay.specs.declared.response.PlayKind.TheVariants.{TooClose, Unpaired, CodeWritten, LoopPast, Misuse}
use Rattle.replay.specs.declared.turn.Turn.{Turn}
use Rattle.replay.specs.declared.turn.Turn.TheVariants as turns
use Rattle.replay.specs.Play.{IsMadeAt}
use Rattle.replay.specs.Playing.{IsRunOf}
use Rattle.replay.specs.Working.Moves.{HasRun, IsAt, RunGives, RunsAt, activates_then, active_from, active_without, ends_then, response_at}
use Rattle.replay.specs.Working.Serving.{ServeJudged, request_cost}
use Rattle.replay.proofs.Services.{TellsWhom, served_tells}

-- ---- The number of a service

found_passes : (test : Service → Bool) (services : List Service) (service : Service) → find test services ≡ Some service → test service ≡ true
found_passes test [] service is = absurd (none-some service is)
found_passes test (s ∷ services) service is =
    cond_both (test s) (Some s) (find test services) (λ (o : Option Service). o ≡ Some service → test service ≡ true)
    (λ passes e. subst (λ (found : Service). test found ≡ true) (same_Some s service e) passes) (λ fails e. found_passes test services service e) is

number_again : (number : ℕ) (service : Service) → service_of number ≡ Some service → number_of service ≡ number
number_again number service is = eqb-true (number_of service) number (found_passes (λ s. number_of s == number) services service is)

-- ---- The call as it is told

-- What was made is the call of the caller at the place.
pub record IsAnswered (plant : PlantData) (caller : Context) (place number argument code : ℕ) (misuse : Bool) (sites : List ℕ) (before : Player) (after : Machine) : Type 0 where
  pub call : ServiceCall
  pub step : Serves plant.image plant.system call (state_of before.machine) (state_of after)
  pub played : IsRunOf plant.image plant.system plant.timing (state_of before.machine) (Serve call)
  pub who : call.caller ≡ caller
  pub at : call.before.place ≡ place
  pub calls : call.before.calls ≡ sites
  pub misused : call.reply.misuse ≡ misuse
  pub told : code_number call.reply.code ≡ code
  pub ended : call.reply.ended ≡ ends_then caller number misuse
  pub activated : call.reply.activated ≡ activates_then number argument code misuse
  pub exists : IfSome call.reply.activated (λ t. t < length plant.system.tasks)

pub answered_as : (plant : PlantData) (caller who : Context) (place from number argument code cost : ℕ) (misuse : Bool) (sites : List ℕ) (before : Player) (after : Machine)
    → (at : RunsAt plant.image plant.system (state_of before.machine) caller place Ecall)
    → MadeCall plant.image plant.system cost (state_of before.machine) (state_of after) (labels.Service who from number argument code misuse)
    → cost ≡ request_cost plant.timing (standing_of plant.system (state_of before.machine) caller) place → sites ≡ at.standing.calls
    → IsAnswered plant caller place number argument code misuse sites before after
answered_as plant caller who place from number argument code cost misuse sites before after at made costs calls =
    let state : MachineState = state_of before.machine in
    let made_call : ServiceCall = call_of plant.image plant.system cost made.caller made.standing made.service state in
    let same : caller ≡ made.caller = same_Some caller made.caller (sym at.running ∙ made.step.running) in
    let how : at.standing ≡ made.standing = same_Some at.standing made.standing (sym at.stands ∙ (ap (standing_of plant.system state) same ∙ made.step.stands)) in
    let number_is : number ≡ number_in made.standing = cc in
    let argument_is : argument ≡ argument_in made.standing = cc in
    let code_is : code ≡ code_number made_call.reply.code = cc in
    let misuse_is : misuse ≡ made_call.reply.misuse = cc in
    let place_is : made.standing.place ≡ place = sym (at.at ∙ ap (λ (s : Standing). s.place) how) in
    let again : number_of made.service ≡ number = number_again (number_in made.standing) made.service made.step.service ∙ sym number_is in
    let cost_is : cost ≡ service_cost plant.timing made.service made.standing.place =
    costs ∙ (ap (λ (o : Option Standing). request_cost plant.timing o place) (at.stands ∙ ap Some how)
    ∙ (ap (λ (o : Option Service). option_map_or (λ service. service_cost plant.timing service place) o 0) made.step.service
    ∙ ap (service_cost plant.timing made.service) (sym place_is))) in
    let tells : TellsWhom made.caller (number_of made.service) (argument_in made.standing) (Served.served plant.system state.kernel made.caller made.service (argument_in made.standing)) =
    served_tells plant.system state.kernel made.caller made.service (argument_in made.standing) in
    record {
      call = made_call;
      step = made.step;
      played = ap (λ (n : ℕ). call_of plant.image plant.system n made.caller made.standing made.service state) cost_is;
      who = sym same;
      at = place_is;
      calls = sym (calls ∙ ap (λ (s : Standing). s.calls) how);
      misused = sym misuse_is;
      told = sym code_is;
      ended = tells.ended ∙ (ap (λ (c : Context). ends_then c (number_of made.service) made_call.reply.misuse) (sym same)
          ∙ (ap (λ (n : ℕ). ends_then caller n made_call.reply.misuse) again ∙ ap (ends_then caller number) (sym misuse_is)));
      activated = tells.activated ∙ (ap (λ (n : ℕ). activates_then n (argument_in made.standing) (code_number made_call.reply.code) made_call.reply.misuse) again
          ∙ (ap (λ (n : ℕ). activates_then number n (code_number made_call.reply.code) made_call.reply.misuse) (sym argument_is)
          ∙ (ap (λ (n : ℕ). activates_then number argument n made_call.reply.misuse) (sym code_is)
          ∙ ap (activates_then number argument code) (sym misuse_is))));
      exists = if_some made_call.reply.activated (λ t. t < length plant.system.tasks)
          (λ t some. served_exists plant.system state.kernel made.caller made.service (argument_in made.standing) made.step.argument t some);
    }

pub task_exists : {plant : PlantData} {caller : Context} {place number argument code : ℕ} {misuse : Bool} {sites : List ℕ} {before : Player} {after : Machine}
    → IsAnswered plant caller place number argument code misuse sites before after → IfSome (activates_then number argument code misuse) (λ t. t < length plant.system.tasks)
task_exists {plant = plant} is = subst (λ (o : Option ℕ). IfSome o (λ t. t < length plant.system.tasks)) is.activated is.exists

-- ---- What it broke

made_at : (caller : Context) (place start : ℕ) (call : ServiceCall) (c : Context) (address moment : ℕ) (events : List Event)
    → call.caller ≡ caller → call.before.place ≡ place → start ≡ duration events → IsAt caller place start c address moment → IsMadeAt c address moment (Serve call) events
made_at caller place start call c address moment events who from now at = (at.0 ∙ sym who, at.1 ∙ sym from, at.2 ∙ now)

has_run : (plant : PlantData) (caller : Context) (place number argument code : ℕ) (misuse : Bool) (sites : List ℕ) (before after : Player) (middle : Machine)
    → (is : IsAnswered plant caller place number argument code misuse sites before middle) → Fits plant.image plant.system middle → after.machine ≡ middle
    → HasRun plant (Serve is.call) before after
has_run plant caller place number argument code misuse sites before after middle is fits same = record {
  step = subst (λ (m : Machine). Serves plant.image plant.system is.call (state_of before.machine) (state_of m)) (sym same) is.step;
  played = is.played;
  fits = subst (Fits plant.image plant.system) (sym same) fits;
}

-- ---- What the step gave

pub served_gives : (plant : PlantData) (caller : Context) (place number argument code : ℕ) (misuse : Bool) (sites : List ℕ) (start : ℕ) (before after : Player) (middle : Machine)
    → IsAnswered plant caller place number argument code misuse sites before middle → Fits plant.image plant.system middle → start ≡ (state_of before.machine).moment
    → (result : Result Turn (Fault PlayKind)) → ServeJudged plant caller place number argument code misuse sites start (record before { machine = middle }) after result
    → RunGives plant before after result
served_gives plant caller place number argument code misuse sites start before after middle is fits begins (Ok (turns.Service c s a from til)) judged =
    let counted = judged.0 in
    let call : ServiceCall = is.call in
    let passes : Passes (Serve call) (state_of before.machine) (state_of middle) =
    steps_take_their_time plant.image plant.system (Serve call) (state_of before.machine) (state_of middle) is.step in
    record {
      event = Serve call;
      run = has_run plant caller place number argument code misuse sites before after middle is fits counted.machine;
      returns = tt;
      code = tt;
      laps = λ events kept within. (
          let answers = counted.laps call is.who is.at is.ended is.activated events kept within in
          (answers.kept refl, answers.within refl));
      clean = is.misused ∙ counted.clean;
      arrivals = record { arrivals = counted.arrivals; newest = ap (λ v. v.items) counted.newest };
      pending = counted.pending;
      active = counted.active
          ∙ (ap (λ (n : ℕ). active_from (option_map contexts.Task (activates_then number argument code misuse)) n (active_without (ends_then caller number misuse) before.active.items)) begins
          ∙ (ap (λ (o : Option ℕ). active_from (option_map contexts.Task o) (state_of before.machine).moment (active_without (ends_then caller number misuse) before.active.items)) (sym is.activated)
          ∙ ap (λ (o : Option Context). active_from (option_map contexts.Task call.reply.activated) (state_of before.machine).moment (active_without o before.active.items)) (sym is.ended)));
      made = counted.made;
      ended = counted.ended
          ∙ (ap (λ (o : Option Context). response_at o (state_of middle).moment before.active.items) (sym is.ended)
          ∙ ap (λ (m : Machine). response_at call.reply.ended (state_of m).moment before.active.items) (sym counted.machine));
      fault = counted.fault;
      told = λ events now. (
        judged.1 ∙ sym is.who,
        judged.2 ∙ sym is.calls,
        judged.3 ∙ sym is.at,
        judged.4 ∙ (begins ∙ now),
        judged.5 ∙ (passes.moment ∙ ap (λ n. n + call.cycles) now),
      );
    }
served_gives plant caller place number argument code misuse sites start before after middle is fits begins (Err (Kind (LoopPast c address moment))) judged = record {
  event = Serve is.call;
  run = has_run plant caller place number argument code misuse sites before after middle is fits (ap (λ (p : Player). p.machine) judged.1);
  made = ap (λ (p : Player). p.made) judged.1;
  breaks = λ events kept within now. (
    made_at caller place start is.call c address moment events is.who is.at (begins ∙ now) judged.0,
    record { returns = tt; code = tt },
    (judged.2 is.call is.who is.at is.ended is.activated events kept within).past refl,
  );
}
served_gives plant caller place number argument code misuse sites start before after middle is fits begins (Err (Kind (Misuse c address told moment))) judged = record {
  event = Serve is.call;
  run = has_run plant caller place number argument code misuse sites before after middle is fits (ap (λ (p : Player). p.machine) judged.1);
  made = ap (λ (p : Player). p.made) judged.1;
  breaks = λ events kept within now. (
    made_at caller place start is.call c address moment events is.who is.at (begins ∙ now) judged.0,
    (judged.4 is.call is.who is.at is.ended is.activated events kept within).within refl,
    (is.misused ∙ judged.3, judged.2 ∙ sym is.told),
  );
}
served_gives plant caller place number argument code misuse sites start before after middle is fits begins (Ok turns.Done) judged = absurd judged
served_gives plant caller place number argument code misuse sites start before after middle is fits begins (Ok (turns.Arrive source moment)) judged = absurd judged
served_gives plant caller place number argument code misuse sites start before after middle is fits begins (Ok (turns.Take source from til)) judged = absurd judged
served_gives plant caller place number argument code misuse sites start before after middle is fits begins (Ok (turns.Insn from til)) judged = absurd judged
served_gives plant caller place number argument code misuse sites start before after middle is fits begins (Ok (turns.Idle til)) judged = absurd judged
served_gives plant caller place number argument code misuse sites start before after middle is fits begins (Err (Kind (TooClose source moment))) judged = absurd judged
served_gives plant caller place number argument code misuse sites start before after middle is fits begins (Err (Kind (Unpaired c address moment))) judged = absurd judged
served_gives plant caller place number argument code misuse sites start before after middle is fits begins (Err (Kind (CodeWritten c address moment))) judged = absurd judged
served_gives plant caller place number argument code misuse sites start before after middle is fits begins (Err Memory) judged = absurd judged
