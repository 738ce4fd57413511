-- Which moves the steps of a run are: each goes out of a listed state, and ends the task where the step does.
use Rattle.std.proofs.Common.{◌≡◌, ℕ, Bool, true, false, List, [], ◌∷◌, Contains, map, Option, Some, None, Ok, refl, sym, ◌∙◌, ap, subst, arith}
use Rattle.std.specs.Prelude.{◌&&◌, not, option_and_then, option_map}
use Rattle.std.specs.List.{flat_map}
use Rattle.std.specs.Option.{option_map_or}
use Rattle.std.proofs.lemmas.List.Concat.{flat_map-cons}
use Rattle.std.proofs.lemmas.List.Elements.{Contains-append_left, Contains-append_right}
use Rattle.std.proofs.lemmas.Option.{none-some, same_Some}
use Rattle.osek_kernel.specs.declared.context.Context.{Context}
use Rattle.osek_kernel.specs.declared.kernel.Reply.{Reply}
use Rattle.osek_kernel.specs.declared.service.Service.{Service}
use Rattle.osek_kernel.specs.Running.{runs}
use Rattle.osek_kernel.specs.Services.{service_of}
use Rattle.osek_machine.specs.State.{MachineState}
use Rattle.osek_machine.specs.Events.{Event, ServiceCall, Arrive, Take, Execute, Serve, Idle, ended_by}
use Rattle.osek_machine.specs.Loops.{is_this}
use Rattle.osek_machine.specs.Steps.{Serves, served_by, number_in, argument_in}
use Rattle.flow_graph.specs.Graph.{ends_caller}
use Rattle.wcet_atomic_blocks.specs.Plants.{PlantData, IsPlant}
use Rattle.graph_runs.proofs.Ending as ending
use Rattle.abstract_sched.specs.declared.states.AbsState.{AbsState}
use Rattle.abstract_sched.specs.States.{kernel_of}
use Rattle.scheduler_moves.specs.declared.moves.Move.{Move}
use Rattle.scheduler_moves.specs.declared.moves.MoveLabel.{MoveLabel}
use Rattle.scheduler_moves.specs.declared.moves.MoveLabel.TheVariants as labels
use Rattle.scheduler_moves.specs.Moves.{running_in, successors}
use Rattle.shadow_runs.specs.Covering.{MakesMove, CallsAtExit}
use Rattle.shadow_runs.proofs.Behind.{AsksAt, asks_at}
use Rattle.shadow_runs.proofs.Members.{mapped_member, member_cases}
use Rattle.shadow_runs.proofs.Numbers.{service_there}
use Rattle.row_build.specs.Columns.{Going, goings, goings_from, moves_or_none, service_at_node, service_in, ends_in}
use Rattle.activation_windows.specs.Counted.{IsDeclaredCase}
use Rattle.activation_windows.specs.Windows.{shadow_after, going_by, label_of}
use Rattle.activation_windows.proofs.Ending.{served_stays}
use Rattle.activation_windows.proofs.Induction.{IsLater, covers_of, covered_of, step_of, shadow_is, this_is, is_this_one}
use Rattle.activation_windows.proofs.Windows.{serve_active}

-- ---- The shadow's kernel

pub kernel_in : (plant : PlantData) (states : List AbsState) (task mode : ℕ) (events : List Event) (state : MachineState)
    → IsDeclaredCase plant states task mode events state → kernel_of (shadow_after plant mode events) ≡ state.kernel
kernel_in plant states task mode events state case =
    ap kernel_of (shadow_is plant mode events state case.of.run) ∙ (covered_of plant states task mode events state case).kernel

pub shadow_listed : (plant : PlantData) (states : List AbsState) (task mode : ℕ) (events : List Event) (state : MachineState)
    → IsDeclaredCase plant states task mode events state → Contains states (shadow_after plant mode events)
shadow_listed plant states task mode events state case =
    subst (Contains states) (sym (shadow_is plant mode events state case.of.run)) (covered_of plant states task mode events state case).listed

-- ---- Members of flattened lists

pub flat_member : {X A : Type 0} (f : X → List A) (xs : List X) (x : X) (a : A) → Contains xs x → Contains (f x) a → Contains (flat_map f xs) a
flat_member f [] x a has there = absurd (let inside = has.1 in omega arith)
flat_member f (y ∷ ys) x a has there = subst (λ l. Contains l a) (sym (flat_map-cons f y ys))
    (member_cases x y ys has
    (λ same. Contains-append_left (f y) (flat_map f ys) a (subst (λ z. Contains (f z) a) (sym same) there))
    (λ other. Contains-append_right (f y) (flat_map f ys) a (flat_member f ys x a other there)))

-- ---- Moves out of listed states

pub going_among : (plant : PlantData) (states : List AbsState) (from : AbsState) (moves : List Move) (move : Move) → Contains states from
    → successors plant from ≡ Ok moves → Contains moves move → Contains (goings plant states) (record { from = from; move = move })
going_among plant states from moves move listed succeeds has =
    flat_member (goings_from plant) states from (record { from = from; move = move }) listed
    (subst (λ result. Contains (gone (moves_or_none result)) (record { from = from; move = move })) (sym succeeds)
    (mapped_member (λ m. record { from = from; move = m }) moves move has))
  where
    gone : List Move → List Going
    gone ms = map (λ m. record { from = from; move = m }) ms

made_listed : (plant : PlantData) (states : List AbsState) (task mode : ℕ) (label : MoveLabel) (event : Event) (earlier : List Event)
    (before after : MachineState) → IsLater plant states task mode event earlier before after
    → MakesMove plant mode label event earlier before after → Contains (goings plant states) (going_by plant mode label event earlier)
made_listed plant states task mode label event earlier before after later makes =
    let now = shadow_is plant mode earlier before later.case.of.run in
    let then = shadow_is plant mode (event ∷ earlier) after later.whole.of.run in
    going_among plant states (shadow_after plant mode earlier) makes.moves (record { label = label; to = shadow_after plant mode (event ∷ earlier) })
    (shadow_listed plant states task mode earlier before later.case)
    (ap (successors plant) now ∙ makes.moved)
    (subst (λ (s : AbsState). Contains makes.moves (record { label = label; to = s })) (sym then) makes.listed)

-- a step with a label is that move out of a listed state
pub going_listed : (plant : PlantData) (states : List AbsState) (task mode : ℕ) (label : MoveLabel) (event : Event) (earlier : List Event)
    (before after : MachineState) → IsLater plant states task mode event earlier before after
    → label_of plant event ≡ Some label → Contains (goings plant states) (going_by plant mode label event earlier)
going_listed plant states task mode label (Arrive arrival) earlier before after later e = absurd (none-some label e)
going_listed plant states task mode label (Take taking) earlier before after later e =
    made_listed plant states task mode label (Take taking) earlier before after later
    (subst (λ (l : MoveLabel). MakesMove plant mode l (Take taking) earlier before after) (same_Some (labels.Take taking.source) label e)
    (step_of plant states task mode (Take taking) earlier before after later).0)
going_listed plant states task mode label (Execute execution) earlier before after later e = absurd (none-some label e)
going_listed plant states task mode label (Serve call) earlier before after later e =
    let calls : CallsAtExit plant mode call earlier before after = (step_of plant states task mode (Serve call) earlier before after later).0 in
    made_listed plant states task mode label (Serve call) earlier before after later
    (subst (λ (l : MoveLabel). MakesMove plant mode l (Serve call) earlier before after)
    (same_Some (labels.Service calls.node) label (sym (ap (option_map labels.Service) calls.stands) ∙ e)) calls.makes)
going_listed plant states task mode label (Idle cycles) earlier before after later e = absurd (none-some label e)

-- ---- The moves that end a context

-- the service of a call's node is the one that is called
pub service_called : (plant : PlantData) → IsPlant plant → (call : ServiceCall) (before after : MachineState)
    → Serves plant.image plant.system call before after → (asks : AsksAt plant call) → service_at_node plant asks.at.number ≡ Some call.service
service_called plant is call before after step asks =
    ap (option_and_then (λ at. service_of at.number))
    (service_there plant is asks.at.number asks.at.node (Some asks.serves.service) asks.at.listed asks.service_is)
    ∙ (ap service_of (sym asks.serves.number_is) ∙ step.service)

pub asks_of : (plant : PlantData) (states : List AbsState) (task mode : ℕ) (call : ServiceCall) (earlier : List Event) (before after : MachineState)
    → IsLater plant states task mode (Serve call) earlier before after → AsksAt plant call
asks_of plant states task mode call earlier before after later =
    let all = covers_of plant states task mode earlier before later.case in
    asks_at plant later.case.of.belongs call before after all.room later.step all.walking

-- the caller runs in the shadow before
pub caller_runs : (plant : PlantData) (states : List AbsState) (task mode : ℕ) (call : ServiceCall) (earlier : List Event) (before after : MachineState)
    → IsLater plant states task mode (Serve call) earlier before after → running_in plant (shadow_after plant mode earlier) ≡ Some call.caller
caller_runs plant states task mode call earlier before after later =
    ap (runs plant.system) (kernel_in plant states task mode earlier before later.case) ∙ later.step.running

-- what a call says of ends: the label tells the service that is called
call_ends_in : (plant : PlantData) (states : List AbsState) (task mode : ℕ) (context : Context) (label : MoveLabel) (call : ServiceCall)
    (earlier : List Event) (before after : MachineState) → IsLater plant states task mode (Serve call) earlier before after
    → label_of plant (Serve call) ≡ Some label
    → ends_in plant context (going_by plant mode label (Serve call) earlier) ≡ (is_this context (Some call.caller) && ends_caller call.service)
call_ends_in plant states task mode context label call earlier before after later e =
    let asks = asks_of plant states task mode call earlier before after later in
    let is : labels.Service asks.at.number ≡ label = same_Some (labels.Service asks.at.number) label (sym (ap (option_map labels.Service) asks.at.found) ∙ e) in
    ap (λ (l : MoveLabel). is_this context (running_in plant (shadow_after plant mode earlier)) && option_map_or ends_caller (service_in plant l) false)
    (sym is)
    ∙ (ap (λ (o : Option Service). is_this context (running_in plant (shadow_after plant mode earlier)) && option_map_or ends_caller o false)
    (service_called plant later.case.of.belongs call before after later.step asks)
    ∙ ap (λ (o : Option Context). is_this context o && ends_caller call.service) (caller_runs plant states task mode call earlier before after later))

ends_anyhow : (b : Bool) → (b ≡ false → ⊥) → b ≡ true
ends_anyhow true not = refl
ends_anyhow false not = absurd (not refl)

-- a step that ends the context is a move that does
pub ends_too : (plant : PlantData) (states : List AbsState) (task mode : ℕ) (context : Context) (label : MoveLabel) (event : Event) (earlier : List Event)
    (before after : MachineState) → IsLater plant states task mode event earlier before after
    → label_of plant event ≡ Some label → ended_by event ≡ Some context → ends_in plant context (going_by plant mode label event earlier) ≡ true
ends_too plant states task mode context label (Arrive arrival) earlier before after later e ends = absurd (none-some context ends)
ends_too plant states task mode context label (Take taking) earlier before after later e ends = absurd (none-some context ends)
ends_too plant states task mode context label (Execute execution) earlier before after later e ends = absurd (none-some context ends)
ends_too plant states task mode context label (Serve call) earlier before after later e ends =
    let replied : (served_by plant.system call before).reply.ended ≡ Some context = ap (λ (r : Reply). r.ended) (sym later.step.replied) ∙ ends in
    let who : context ≡ call.caller = (serve_active plant.system call before plant.image after later.step).ended context replied in
    let goes : ends_caller call.service ≡ true = ends_anyhow (ends_caller call.service) (λ on. none-some context
    (sym (served_stays plant.system before.kernel call.caller call.service (argument_in call.before) on) ∙ replied)) in
    call_ends_in plant states task mode context label call earlier before after later e
    ∙ (ap (λ b. b && ends_caller call.service) (is_this_one context (Some call.caller) (ap Some (sym who))) ∙ goes)
ends_too plant states task mode context label (Idle cycles) earlier before after later e ends = absurd (none-some context ends)

both_false : (a b : Bool) → (a ≡ true → b ≡ true → ⊥) → (a && b) ≡ false
both_false true true not = absurd (not refl refl)
both_false true false not = refl
both_false false b not = refl

no_end : (ended : Option Context) (context : Context) → ((c : Context) → ended ≡ Some c → c ≡ context) → (ended ≡ Some context → ⊥) → ended ≡ None
no_end None context only not = refl
no_end (Some c) context only not = absurd (not (ap Some (only c refl)))

-- a step that doesn't end the context is no move that does
pub ends_only : (plant : PlantData) (states : List AbsState) (task mode : ℕ) (context : Context) (label : MoveLabel) (event : Event) (earlier : List Event)
    (before after : MachineState) → IsLater plant states task mode event earlier before after
    → label_of plant event ≡ Some label → is_this context (ended_by event) ≡ false → ends_in plant context (going_by plant mode label event earlier) ≡ false
ends_only plant states task mode context label (Arrive arrival) earlier before after later e stays = absurd (none-some label e)
ends_only plant states task mode context label (Take taking) earlier before after later e stays =
    ap (λ (l : MoveLabel). is_this context (running_in plant (shadow_after plant mode earlier)) && option_map_or ends_caller (service_in plant l) false)
    (sym (same_Some (labels.Take taking.source) label e))
    ∙ both_false (is_this context (running_in plant (shadow_after plant mode earlier))) false (λ a b. cc)
ends_only plant states task mode context label (Execute execution) earlier before after later e stays = absurd (none-some label e)
ends_only plant states task mode context label (Serve call) earlier before after later e stays =
    let done = served_by plant.system call before in
    let who = serve_active plant.system call before plant.image after later.step in
    let clean : done.reply.misuse ≡ false =
    ap (λ (r : Reply). r.misuse) (sym later.step.replied) ∙ (step_of plant states task mode (Serve call) earlier before after later).1 in
    call_ends_in plant states task mode context label call earlier before after later e
    ∙ both_false (is_this context (Some call.caller)) (ends_caller call.service) (λ is goes.
    let caller : Some call.caller ≡ Some context = this_is context (Some call.caller) is in
    let none : done.reply.ended ≡ None = no_end done.reply.ended call.caller who.ended (λ ends.
    let wrong : true ≡ false = sym (is_this_one context call.reply.ended (ap (λ (r : Reply). r.ended) later.step.replied ∙ (ends ∙ caller))) ∙ stays in cc) in
    let on = ending.goes_on plant.system before.kernel call.caller call.service (number_in call.before) (argument_in call.before)
    later.step.service clean none in
    let wrong : true ≡ false = sym goes ∙ (sym (ap (λ (s : Option Service). option_map_or ends_caller s false) later.step.service) ∙ on) in cc)
ends_only plant states task mode context label (Idle cycles) earlier before after later e stays = absurd (none-some label e)
