-- A move of the shadow ends the contexts that its step ends.
use Rattle.std.proofs.Common.{◌≡◌, ℕ, Bool, true, false, List, Option, Some, None, refl, sym, ◌∙◌, ap}
use Rattle.std.specs.Prelude.{◌&&◌}
use Rattle.std.specs.Option.{option_map_or}
use Rattle.std.proofs.lemmas.Option.{none-some, same_Some}
use Rattle.osek_kernel.specs.declared.context.Context.{Context}
use Rattle.osek_kernel.specs.declared.kernel.Reply.{Reply}
use Rattle.osek_kernel.specs.declared.service.Service.{Service}
use Rattle.osek_kernel.specs.Running.{runs}
use Rattle.osek_machine.specs.Events.{Event, ServiceCall, Serve}
use Rattle.osek_machine.specs.Loops.{is_this}
use Rattle.osek_machine.specs.State.{MachineState}
use Rattle.osek_machine.specs.Steps.{Serves, served_by, argument_in, number_in}
use Rattle.flow_graph.specs.Graph.{ends_caller}
use Rattle.graph_runs.proofs.Ending as ending
use Rattle.wcet_atomic_blocks.specs.Plants.{PlantData}
use Rattle.abstract_sched.specs.declared.states.AbsState.{AbsState}
use Rattle.scheduler_moves.specs.declared.moves.MoveLabel.{MoveLabel}
use Rattle.scheduler_moves.specs.declared.moves.MoveLabel.TheVariants as labels
use Rattle.scheduler_moves.specs.Moves.{running_in}
use Rattle.row_build.specs.Columns.{Going, service_at_node, ends_in}
use Rattle.shadow_runs.specs.Covering.{IsStepOf}
use Rattle.shadow_runs.specs.Shadow.{node_of, shadow}
use Rattle.shadow_runs.proofs.Behind.{asks_at}
use Rattle.shadow_runs.proofs.Covering.{covers, runs_are_covered, steps_are_covered}
use Rattle.activation_windows.proofs.Ending.{served_stays}
use Rattle.activation_windows.proofs.Induction.{this_is, is_this_one}
use Rattle.activation_windows.proofs.Moving.{service_called}
use Rattle.activation_windows.proofs.Windows.{serve_active}

-- the move by the label to the state
abbrev pub going_to : PlantData → ℕ → List Event → MachineState → MoveLabel → AbsState → Going
going_to plant mode earlier before label to = record { from = shadow plant mode earlier before; move = record { label = label; to = to } }

both_false : (a b : Bool) → (a ≡ true → b ≡ true → ⊥) → (a && b) ≡ false
both_false true true not = absurd (not refl refl)
both_false true false not = refl
both_false false b not = refl

-- taking a source ends nobody
pub take_ends : (plant : PlantData) (mode source : ℕ) (earlier : List Event) (before : MachineState) (to : AbsState) (c : Context)
    → ends_in plant c (going_to plant mode earlier before (labels.Take source) to) ≡ false
take_ends plant mode source earlier before to c =
    both_false (is_this c (running_in plant (shadow plant mode earlier before))) false (λ a b. cc)

-- ---- A service

ends_anyhow : (b : Bool) → (b ≡ false → ⊥) → b ≡ true
ends_anyhow true not = refl
ends_anyhow false not = absurd (not refl)

no_end : (ended : Option Context) (context : Context) → ((c : Context) → ended ≡ Some c → c ≡ context) → (ended ≡ Some context → ⊥) → ended ≡ None
no_end None context only not = refl
no_end (Some c) context only not = absurd (not (ap Some (only c refl)))

-- the label tells the service that is called
call_ends : (plant : PlantData) (states : List AbsState) (mode : ℕ) (call : ServiceCall) (earlier : List Event) (before after : MachineState)
    → IsStepOf plant states mode (Serve call) earlier before after → (node : ℕ) → node_of plant call.caller call.before ≡ Some node → (to : AbsState)
    → (c : Context)
    → ends_in plant c (going_to plant mode earlier before (labels.Service node) to) ≡ (is_this c (Some call.caller) && ends_caller call.service)
call_ends plant states mode call earlier before after next node stands to c =
    let case = next.before_it in
    let all = (covers plant states mode earlier before case.belongs case.closed case.run case.pairs).0 in
    let asks = asks_at plant case.belongs call before after all.room next.step all.walking in
    let same : asks.at.number ≡ node = same_Some asks.at.number node (sym asks.at.found ∙ stands) in
    let runs_now : running_in plant (shadow plant mode earlier before) ≡ Some call.caller =
    ap (runs plant.system) (runs_are_covered plant states mode earlier before case).kernel ∙ next.step.running in
    ap (λ (n : ℕ). is_this c (running_in plant (shadow plant mode earlier before)) && option_map_or ends_caller (service_at_node plant n) false) (sym same)
    ∙ (ap (λ (o : Option Service). is_this c (running_in plant (shadow plant mode earlier before)) && option_map_or ends_caller o false)
    (service_called plant case.belongs call before after next.step asks)
    ∙ ap (λ (o : Option Context). is_this c o && ends_caller call.service) runs_now)

pub serve_ends : (plant : PlantData) (states : List AbsState) (mode : ℕ) (call : ServiceCall) (earlier : List Event) (before after : MachineState)
    → IsStepOf plant states mode (Serve call) earlier before after → (node : ℕ) → node_of plant call.caller call.before ≡ Some node → (to : AbsState)
    → (c : Context) → ends_in plant c (going_to plant mode earlier before (labels.Service node) to) ≡ is_this c call.reply.ended
serve_ends plant states mode call earlier before after next node stands to c =
    call_ends plant states mode call earlier before after next node stands to c ∙ by (is_this c call.reply.ended) refl
  where
    step : Serves plant.image plant.system call before after
    step = next.step

    replied : (served_by plant.system call before).reply.ended ≡ call.reply.ended
    replied = ap (λ (r : Reply). r.ended) (sym step.replied)

    by : (ends : Bool) → is_this c call.reply.ended ≡ ends → (is_this c (Some call.caller) && ends_caller call.service) ≡ ends
    by true e =
        let ended : (served_by plant.system call before).reply.ended ≡ Some c = replied ∙ this_is c call.reply.ended e in
        let who : c ≡ call.caller = (serve_active plant.system call before plant.image after step).ended c ended in
        let goes : ends_caller call.service ≡ true = ends_anyhow (ends_caller call.service) (λ on. none-some c
        (sym (served_stays plant.system before.kernel call.caller call.service (argument_in call.before) on) ∙ ended)) in
        ap (λ b. b && ends_caller call.service) (is_this_one c (Some call.caller) (ap Some (sym who))) ∙ goes
    by false e = both_false (is_this c (Some call.caller)) (ends_caller call.service) (λ is goes.
        let caller : Some call.caller ≡ Some c = this_is c (Some call.caller) is in
        let none : (served_by plant.system call before).reply.ended ≡ None =
        no_end (served_by plant.system call before).reply.ended call.caller (serve_active plant.system call before plant.image after step).ended (λ ends.
        let wrong : true ≡ false = sym (is_this_one c call.reply.ended (sym replied ∙ (ends ∙ caller))) ∙ e in cc) in
        let clean : (served_by plant.system call before).reply.misuse ≡ false =
        ap (λ (r : Reply). r.misuse) (sym step.replied) ∙ (steps_are_covered plant states mode (Serve call) earlier before after next).1 in
        let on = ending.goes_on plant.system before.kernel call.caller call.service (number_in call.before) (argument_in call.before)
        step.service clean none in
        let wrong : true ≡ false = sym goes ∙ (sym (ap (λ (s : Option Service). option_map_or ends_caller s false) step.service) ∙ on) in cc)
