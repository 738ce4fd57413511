-- The step of an instruction, as it was made and judged.
use Rattle.std.proofs.Common.{◌≡◌, ◌↔◌, ℕ, ◌+◌, Bool, true, false, List, Option, Some, None, Ok, Err, IsTrue, refl, sym, ◌∙◌, ap, subst, true≢false}
use Rattle.std.specs.Prelude.{IfSome, Result}
use Rattle.std.proofs.lemmas.Option.{same_Some}
use Rattle.listed.specs.declared.fault.Fault.{Fault}
use Rattle.listed.specs.declared.fault.Fault.TheVariants.{Kind, Memory}
use Rattle.elf_image.specs.Image.{ImageData, meets_code}
use Rattle.rv32_decode.specs.declared.instruction.Insn.{Insn}
use Rattle.rv32_decode.specs.Instructions.{class_of}
use Rattle.rv32_machine.specs.declared.next.Span.{Span}
use Rattle.rv32_machine.specs.Code.{insn_at}
use Rattle.rv32_machine.specs.ContextStep.{Standing}
use Rattle.timing_file.specs.declared.timing.Timing.{Timing}
use Rattle.timing_file.specs.Costs.{insn_cost}
use Rattle.osek_kernel.specs.declared.context.Context.{Context}
use Rattle.osek_machine.specs.declared.labels.Label.TheVariants as labels
use Rattle.osek_machine.specs.declared.machine.Machine.{Machine}
use Rattle.osek_machine.specs.Events.{Event, Execute, Execution, duration}
use Rattle.osek_machine.specs.State.{standing_of}
use Rattle.osek_machine.specs.Steps.{Executes}
use Rattle.osek_machine.specs.Laws.{Passes}
use Rattle.osek_machine.specs.Loops.{innermost}
use Rattle.osek_machine.specs.Declarations.{ReturnsPaired, takes_branch}
use Rattle.osek_machine.specs.Machine.{Fits, MadeInsn, state_of}
use Rattle.osek_machine.proofs.Times.{steps_take_their_time}
use Rattle.wcet_atomic_blocks.specs.Plants.{PlantData}
use Rattle.replay.specs.declared.laps.Laps.{Laps}
use Rattle.replay.specs.declared.player.Player.{Player}
use Rattle.replay.specs.declared.response.PlayKind.{PlayKind}
use Rattle.replay.specs.declared.response.PlayKind.TheVariants.{TooClose, Unpaired, CodeWritten, LoopPast, Misuse}
use Rattle.replay.specs.declared.turn.Turn.{Turn}
use Rattle.replay.specs.declared.turn.Turn.TheVariants as turns
use Rattle.replay.specs.Play.{IsMadeAt}
use Rattle.replay.specs.Playing.{CostsFully}
use Rattle.replay.specs.Working.Moves.{HasRun, IsAt, Judged, LapsTell, RunGives, RunsAt, TellsTurn, writes_code}

-- ---- Stores

spares : (image : ImageData) (stored : Option Span) → writes_code image stored ≡ false → IfSome stored (λ span. meets_code image span.address span.length ≡ false)
spares image None is = tt
spares image (Some span) is = is

spares_not : (image : ImageData) (stored : Option Span) → writes_code image stored ≡ true → IfSome stored (λ span. meets_code image span.address span.length ≡ false) → ⊥
spares_not image None is spared = absurd cc
spares_not image (Some span) is spared = true≢false (sym is ∙ spared)

-- ---- The step as it is told

costs_fully : (image : ImageData) (timing : Timing) (e : Execution) (insn : Insn) (place : ℕ) → e.before.place ≡ place → insn_at image place ≡ Some insn
    → e.cycles ≡ insn_cost timing (class_of insn) (takes_branch insn e.before.registers) place → CostsFully image timing e
costs_fully image timing e insn place at fetched cost =
    subst (λ (o : Option Insn). IfSome o (λ i. e.cycles ≡ insn_cost timing (class_of i) (takes_branch i e.before.registers) e.before.place)) (sym (ap (insn_at image) at ∙ fetched))
    (cost ∙ ap (insn_cost timing (class_of insn) (takes_branch insn e.before.registers)) (sym at))

-- What was made is the step of the context from the place on.
pub record IsTold (plant : PlantData) (context : Context) (place to : ℕ) (call : Option ℕ) (stored : Option Span) (paired : Bool) (before : Player) (after : Machine) : Type 0 where
  pub execution : Execution
  pub step : Executes plant.image plant.system execution (state_of before.machine) (state_of after)
  pub who : execution.context ≡ context
  pub from : execution.before.place ≡ place
  pub goes_to : execution.after.place ≡ to
  pub calls : innermost execution.before.calls ≡ call
  pub writes : stored ≡ execution.stored
  pub returns : IsTrue paired ↔ ReturnsPaired plant.image (Execute execution)
  pub given : execution.device ≡ 0
  pub costs : CostsFully plant.image plant.timing execution

pub told : (plant : PlantData) (context who : Context) (insn : Insn) (place from to cost : ℕ) (call : Option ℕ) (stored : Option Span) (paired : Bool) (before : Player) (after : Machine)
    → (at : RunsAt plant.image plant.system (state_of before.machine) context place insn)
    → MadeInsn plant.image plant.system 0 cost (state_of before.machine) (state_of after) (labels.Insn who from to stored paired)
    → cost ≡ insn_cost plant.timing (class_of insn) (takes_branch insn at.standing.registers) place → call ≡ innermost at.standing.calls
    → IsTold plant context place to call stored paired before after
told plant context who insn place from to cost call stored paired before after at made costs calls =
    let e : Execution = made.execution in
    let same : context ≡ e.context = same_Some context e.context (sym at.running ∙ made.step.running) in
    let how : at.standing ≡ e.before = same_Some at.standing e.before (sym at.stands ∙ (ap (standing_of plant.system (state_of before.machine)) same ∙ made.step.stands)) in
    let from_is : e.before.place ≡ place = sym (at.at ∙ ap (λ (s : Standing). s.place) how) in
    let label : labels.Insn who from to stored paired ≡ labels.Insn e.context e.before.place e.after.place e.stored made.paired = made.told in
    let paired_is : paired ≡ made.paired = cc in
    let cost_is : e.cycles ≡ insn_cost plant.timing (class_of insn) (takes_branch insn e.before.registers) place =
    made.lasted ∙ (costs ∙ ap (λ (s : Standing). insn_cost plant.timing (class_of insn) (takes_branch insn s.registers) place) how) in
    record {
      execution = e;
      step = made.step;
      who = sym same;
      from = from_is;
      goes_to = cc;
      calls = sym (calls ∙ ap (λ (s : Standing). innermost s.calls) how);
      writes = cc;
      returns = subst (λ (b : Bool). IsTrue b ↔ ReturnsPaired plant.image (Execute e)) (sym paired_is) made.returns;
      given = made.given;
      costs = costs_fully plant.image plant.timing e insn place from_is at.fetched cost_is;
    }

-- ---- What it broke

made_at : (plant : PlantData) (context : Context) (place start : ℕ) (e : Execution) (c : Context) (address moment : ℕ) (events : List Event)
    → e.context ≡ context → e.before.place ≡ place → start ≡ duration events → IsAt context place start c address moment → IsMadeAt c address moment (Execute e) events
made_at plant context place start e c address moment events who from now at = (at.0 ∙ sym who, at.1 ∙ sym from, at.2 ∙ now)

has_run : (plant : PlantData) (context : Context) (place to : ℕ) (call : Option ℕ) (stored : Option Span) (paired : Bool) (before after : Player) (middle : Machine)
    → (is : IsTold plant context place to call stored paired before middle) → Fits plant.image plant.system middle → after.machine ≡ middle
    → HasRun plant (Execute is.execution) before after
has_run plant context place to call stored paired before after middle is fits same = record {
  step = subst (λ (m : Machine). Executes plant.image plant.system is.execution (state_of before.machine) (state_of m)) (sym same) is.step;
  played = (is.given, is.costs);
  fits = subst (Fits plant.image plant.system) (sym same) fits;
}

laps_told : (plant : PlantData) (context : Context) (place to : ℕ) (call : Option ℕ) (stored : Option Span) (paired : Bool) (before : Player) (middle : Machine) (laps : Laps) (answer : Bool)
    → (is : IsTold plant context place to call stored paired before middle) → TellsTurn plant context place to call before.laps laps answer
    → LapsTell plant.image plant.system plant.timing (Execute is.execution) before.laps laps answer
laps_told plant context place to call stored paired before middle laps answer is tells = tells is.execution is.who is.from is.goes_to is.calls

-- ---- What the step gave

pub judged_gives : (plant : PlantData) (context : Context) (place to : ℕ) (call : Option ℕ) (stored : Option Span) (paired : Bool) (start : ℕ) (before after : Player) (middle : Machine)
    → IsTold plant context place to call stored paired before middle → Fits plant.image plant.system middle → start ≡ (state_of before.machine).moment
    → (result : Result Turn (Fault PlayKind)) → Judged plant context place to call stored paired start (record before { machine = middle }) after result
    → RunGives plant before after result
judged_gives plant context place to call stored paired start before after middle is fits begins (Ok (turns.Insn from til)) judged =
    let fine = judged.0 in
    let machine : after.machine ≡ middle = ap (λ (p : Player). p.machine) fine.becomes in
    let run : HasRun plant (Execute is.execution) before after = has_run plant context place to call stored paired before after middle is fits machine in
    let passes : Passes (Execute is.execution) (state_of before.machine) (state_of middle) =
    steps_take_their_time plant.image plant.system (Execute is.execution) (state_of before.machine) (state_of middle) is.step in
    record {
      event = Execute is.execution;
      run = run;
      returns = is.returns.0 fine.returns;
      code = subst (λ (o : Option Span). IfSome o (λ span. meets_code plant.image span.address span.length ≡ false)) is.writes (spares plant.image stored fine.spares);
      laps = λ events kept within. (
          let answers = fine.laps is.execution is.who is.from is.goes_to is.calls events kept within in
          (answers.kept refl, answers.within refl));
      clean = tt;
      arrivals = record { arrivals = ap (λ (p : Player). p.arrivals) fine.becomes; newest = ap (λ (p : Player). p.newest.items) fine.becomes };
      pending = ap (λ (p : Player). p.pending) fine.becomes;
      active = ap (λ (p : Player). p.active.items) fine.becomes;
      made = ap (λ (p : Player). p.made) fine.becomes;
      ended = ap (λ (p : Player). p.ended) fine.becomes;
      fault = ap (λ (p : Player). p.fault) fine.becomes;
      told = λ events now. (judged.1 ∙ (begins ∙ now), judged.2 ∙ (passes.moment ∙ ap (λ n. n + is.execution.cycles) now));
    }
judged_gives plant context place to call stored paired start before after middle is fits begins (Err (Kind (Unpaired c address moment))) judged = record {
  event = Execute is.execution;
  run = has_run plant context place to call stored paired before after middle is fits (ap (λ (p : Player). p.machine) judged.1);
  made = ap (λ (p : Player). p.made) judged.1;
  breaks = λ events kept within now. (
    made_at plant context place start is.execution c address moment events is.who is.from (begins ∙ now) judged.0,
    λ returns. true≢false (sym (is.returns.1 returns) ∙ judged.2),
  );
}
judged_gives plant context place to call stored paired start before after middle is fits begins (Err (Kind (CodeWritten c address moment))) judged = record {
  event = Execute is.execution;
  run = has_run plant context place to call stored paired before after middle is fits (ap (λ (p : Player). p.machine) judged.1);
  made = ap (λ (p : Player). p.made) judged.1;
  breaks = λ events kept within now. (
    made_at plant context place start is.execution c address moment events is.who is.from (begins ∙ now) judged.0,
    is.returns.0 judged.2,
    subst (λ (o : Option Span). IfSome o (λ span. meets_code plant.image span.address span.length ≡ false) → ⊥) is.writes (spares_not plant.image stored judged.3),
  );
}
judged_gives plant context place to call stored paired start before after middle is fits begins (Err (Kind (LoopPast c address moment))) judged = record {
  event = Execute is.execution;
  run = has_run plant context place to call stored paired before after middle is fits (ap (λ (p : Player). p.machine) judged.1);
  made = ap (λ (p : Player). p.made) judged.1;
  breaks = λ events kept within now. (
    made_at plant context place start is.execution c address moment events is.who is.from (begins ∙ now) judged.0,
    record {
      returns = is.returns.0 judged.2;
      code = subst (λ (o : Option Span). IfSome o (λ span. meets_code plant.image span.address span.length ≡ false)) is.writes (spares plant.image stored judged.3);
    },
    (judged.4 is.execution is.who is.from is.goes_to is.calls events kept within).past refl,
  );
}
judged_gives plant context place to call stored paired start before after middle is fits begins (Ok turns.Done) judged = absurd judged
judged_gives plant context place to call stored paired start before after middle is fits begins (Ok (turns.Arrive source moment)) judged = absurd judged
judged_gives plant context place to call stored paired start before after middle is fits begins (Ok (turns.Take source from til)) judged = absurd judged
judged_gives plant context place to call stored paired start before after middle is fits begins (Ok (turns.Service c sites address from til)) judged = absurd judged
judged_gives plant context place to call stored paired start before after middle is fits begins (Ok (turns.Idle til)) judged = absurd judged
judged_gives plant context place to call stored paired start before after middle is fits begins (Err (Kind (TooClose source moment))) judged = absurd judged
judged_gives plant context place to call stored paired start before after middle is fits begins (Err (Kind (Misuse c address code moment))) judged = absurd judged
judged_gives plant context place to call stored paired start before after middle is fits begins (Err Memory) judged = absurd judged
