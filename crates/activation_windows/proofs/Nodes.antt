-- The nodes that the steps of a run tell are those at which its contexts stand.
use Rattle.std.proofs.Common.{◌≡◌, ℕ, ◌+◌, ◌-◌, ◌<◌, ◌^◌, inl, inr, Bool, true, false, cond, List, [], ◌∷◌, length, Option, Some, None, refl, sym, ◌∙◌, ap, subst, arith, is_some, IsSome, ◌↔◌, option_map}
use Rattle.std.specs.Prelude.{◌&&◌, ◌==◌, nat_eq, slice_get, option_and_then}
use Rattle.std.specs.Option.{option_map_or}
use Rattle.std.proofs.lemmas.Bool.{lt-ltb, le-ltb, and_parts, eqb-true, eq-eqb}
use Rattle.std.proofs.lemmas.List.{nil_from_length}
use Rattle.std.proofs.lemmas.List.FromFn.{get_or-map-range_with_len}
use Rattle.std.proofs.lemmas.Option.{none-some, same_Some, slice_get_within}
use Rattle.oil_model.specs.declared.system.System.{System}
use Rattle.rv32_machine.specs.ContextStep.{Standing}
use Rattle.rv32_machine.specs.Execution.{following}
use Rattle.rv32_machine.specs.Code.{insn_at}
use Rattle.rv32_machine.specs.Registers.{AreRegisters, with_value}
use Rattle.rv32_machine.proofs.ExecutionLaws.{with_value_keeps}
use Rattle.osek_kernel.specs.declared.context.Context.{Context}
use Rattle.osek_kernel.specs.declared.context.Context.TheVariants as contexts
use Rattle.osek_kernel.specs.declared.kernel.Kernel.{Kernel}
use Rattle.osek_kernel.specs.declared.kernel.Reply.{Reply}
use Rattle.osek_kernel.specs.declared.service.Code.{Code}
use Rattle.osek_kernel.specs.declared.service.Code.TheVariants.{Done, Access, CallLevel, Limit, NoFunction, Resource, State}
use Rattle.osek_kernel.specs.Contexts.{IsContext, place_of, context_at, context_count, entry_of}
use Rattle.osek_kernel.specs.Kernel.{IsActive}
use Rattle.osek_kernel.specs.Positions.{position_of, placed, started, answered}
use Rattle.osek_kernel.specs.Services.{code_number}
use Rattle.osek_kernel.specs.Taken.{initial}
use Rattle.osek_machine.specs.State.{MachineState, standing_of, standing_at, at_entry}
use Rattle.osek_machine.specs.Events.{Event, Taking, Execution, ServiceCall, Arrive, Take, Execute, Serve, Idle}
use Rattle.osek_machine.specs.Steps.{Takes, Executes, Serves, served_by, taken_by, number_in, argument_in, gone_on}
use Rattle.osek_machine.specs.Runs.{IsInitial}
use Rattle.osek_machine.proofs.Kept.{running_exists, served_exists}
use Rattle.osek_machine.proofs.Placing.{contexts_apart, place_within, placed_here, placed_elsewhere, placed_count}
use Rattle.flow_graph.specs.declared.flow.Leaving.{Leaving}
use Rattle.flow_graph.specs.Faults.{entry_in}
use Rattle.flow_graph.specs.Graph.{ends_by, next_node, edges_of, entries_of}
use Rattle.flow_graph.specs.Walks.{ServicesGoOn}
use Rattle.flow_graph.specs.Walks as graph
use Rattle.flow_graph.proofs.WalkLaws.{services_go_on}
use Rattle.graph_runs.proofs.Ending as ending
use Rattle.graph_runs.proofs.Entries.{entry_is}
use Rattle.wcet_atomic_blocks.specs.Blocks.{edges_at, onward, successor}
use Rattle.wcet_atomic_blocks.specs.Plants.{PlantData, IsPlant, IsEntryNode}
use Rattle.abstract_sched.specs.declared.states.AbsState.{AbsState}
use Rattle.scheduler_moves.specs.Moves.{is_active}
use Rattle.shadow_runs.specs.Shadow.{node_of}
use Rattle.shadow_runs.proofs.Begun.{who_exists}
use Rattle.shadow_runs.proofs.Behind.{AsksAt, asks_at}
use Rattle.shadow_runs.proofs.Numbers.{at_number, HasTarget, target_there, leaves_there}
use Rattle.shadow_runs.proofs.Planted.{program_in, has_entry_block, have_graph}
use Rattle.activation_windows.specs.Counted.{IsDeclaredCase}
use Rattle.activation_windows.specs.Windows.{first_of_block, entry_node, start_node, node_after, nodes_after}
use Rattle.activation_windows.proofs.Induction.{IsLater, later_of, covers_of, step_of}
use Rattle.activation_windows.proofs.Windows.{nodes_count}

-- ---- What stands in one list is told by what stands in another

abbrev pub Tells : {P Q : Type 0} → System → (Context → Option P → Option Q) → List (Option P) → List (Option Q) → Type 0
Tells system f xs ys = (c : Context) → IsContext system c → position_of system ys c ≡ f c (position_of system xs c)

pub placed_tells : {P Q : Type 0} (system : System) (f : Context → Option P → Option Q) (d : Context) (p : Option P) (q : Option Q)
    (xs : List (Option P)) (ys : List (Option Q))
    → IsContext system d → length xs ≡ context_count system → length ys ≡ context_count system → q ≡ f d p
    → Tells system f xs ys → Tells system f (placed system d p xs) (placed system d q ys)
placed_tells system f d p q xs ys is count others same tells = λ c there. elim (contexts_apart system c d there is) [
  | inl here ↦ ap (position_of system (placed system d q ys)) here ∙ (placed_here system d q ys is others ∙ (same
      ∙ (ap (f d) (sym (placed_here system d p xs is count)) ∙ ap (λ (e : Context). f e (position_of system (placed system d p xs) e)) (sym here))))
  | inr other ↦ placed_elsewhere system d c q ys other ∙ (tells c there ∙ ap (f c) (sym (placed_elsewhere system d c p xs other)))
]

pub started_tells : {P Q : Type 0} (system : System) (f : Context → Option P → Option Q) (entry : Context → Option P) (other : Context → Option Q)
    (who : Option Context) (xs : List (Option P)) (ys : List (Option Q))
    → ((d : Context) → who ≡ Some d → IsContext system d) → length xs ≡ context_count system → length ys ≡ context_count system
    → ((d : Context) → IsContext system d → other d ≡ f d (entry d))
    → Tells system f xs ys → Tells system f (started system entry who xs) (started system other who ys)
started_tells system f entry other None xs ys exist count others same tells = tells
started_tells system f entry other (Some d) xs ys exist count others same tells =
    placed_tells system f d (entry d) (other d) xs ys (exist d refl) count others (same d (exist d refl)) tells

pub answered_tells : {P Q : Type 0} (system : System) (f : Context → Option P → Option Q) (entry : Context → Option P) (other : Context → Option Q)
    (caller : Context) (next : Option P) (then : Option Q) (reply : Reply) (xs : List (Option P)) (ys : List (Option Q))
    → ((d : Context) → option_map contexts.Task reply.activated ≡ Some d → IsContext system d) → IsContext system caller
    → length xs ≡ context_count system → length ys ≡ context_count system
    → ((d : Context) → IsContext system d → other d ≡ f d (entry d)) → cond (is_some reply.ended) None then ≡ f caller (cond (is_some reply.ended) None next)
    → Tells system f xs ys → Tells system f (answered system entry caller next reply xs) (answered system other caller then reply ys)
answered_tells {P} {Q} system f entry other caller next then reply xs ys exist is count others same on tells =
    started_tells system f entry other (option_map contexts.Task reply.activated)
    (placed system caller (cond (is_some reply.ended) None next) xs) (placed system caller (cond (is_some reply.ended) None then) ys)
    exist (placed_count system caller (cond (is_some reply.ended) None next) xs ∙ count)
    (placed_count system caller (cond (is_some reply.ended) None then) ys ∙ others) same
    (placed_tells system f caller (cond (is_some reply.ended) None next) (cond (is_some reply.ended) None then) xs ys is count others on tells)

-- ---- Entries

pub entry_at : (entries : List (Option ℕ)) (sites : List ℕ) (address context place : ℕ) → entry_in entries context ≡ Some place
    → ((length sites == 0) && option_map_or (nat_eq address) (entry_in entries context) false) ≡ true → (sites ≡ []) × (address ≡ place)
entry_at entries sites address context place at is =
    let parts = and_parts (length sites == 0) (option_map_or (nat_eq address) (entry_in entries context) false) is in (
      nil_from_length sites (eqb-true (length sites) 0 parts.0),
      eqb-true address place (ap (λ (o : Option ℕ). option_map_or (nat_eq address) o false) (sym at) ∙ parts.1),
    )

-- a context that starts stands at the first node of its entry's block
pub entry_number : (plant : PlantData) → IsPlant plant → (context : Context) (standing : Standing) → IsContext plant.system context
    → entry_of plant.image plant.system context ≡ Some standing.place → standing.calls ≡ []
    → node_of plant context standing ≡ entry_node plant context
entry_number plant is context standing exists place calls =
    let has = has_entry_block plant is context exists in
    let first : IsEntryNode (entries_of plant.image plant.system) plant.flow (place_of plant.system context) has.block.begin.first = has.begins.first in
    let there : entry_in (entries_of plant.image plant.system) first.node.context ≡ Some standing.place =
    ap (entry_in (entries_of plant.image plant.system)) first.context_is ∙ (entry_is plant.image plant.system plant.timing context exists ∙ place) in
    let at = entry_at (entries_of plant.image plant.system) first.node.sites first.node.address first.node.context standing.place there first.is_entry in
    at_number plant is context standing has.block.begin.first first.node first.stands first.context_is (calls ∙ sym at.0) (sym at.1)
    ∙ sym (ap (option_and_then (first_of_block plant)) has.entered ∙ ap (option_map (λ b. b.begin.first)) has.there)

-- so it is with the registers that it is given
entry_tells : (plant : PlantData) → IsPlant plant → (registers : List ℕ) (context : Context) → IsContext plant.system context
    → entry_node plant context ≡ option_and_then (node_of plant context) (at_entry plant.image plant.system registers context)
entry_tells plant is registers context exists = by (entry_of plant.image plant.system context) refl ((have_graph plant is).entries.each context exists)
  where
    by : (place : Option ℕ) → entry_of plant.image plant.system context ≡ place → IsSome (entry_of plant.image plant.system context)
        → entry_node plant context ≡ option_and_then (node_of plant context) (option_map (standing_at registers) (entry_of plant.image plant.system context))
    by (Some place) e some =
        sym (entry_number plant is context (standing_at registers place) exists e refl)
        ∙ ap (λ (o : Option ℕ). option_and_then (node_of plant context) (option_map (standing_at registers) o)) (sym e)
    by None e some = absurd (let wrong = sym (ap is_some e) ∙ some in cc)

-- ---- At the start of a mode

pub context_there : (system : System) (c : Context) → IsContext system c → context_at system (place_of system c) ≡ c
context_there system (contexts.Task t) is = ap (λ b. cond b (contexts.Task t) (contexts.Isr (t - length system.tasks))) (lt-ltb t (length system.tasks) is)
context_there system (contexts.Isr i) is =
    ap (λ b. cond b (contexts.Task (length system.tasks + i)) (contexts.Isr ((length system.tasks + i) - length system.tasks)))
    (le-ltb (length system.tasks + i) (length system.tasks) (omega arith))
    ∙ ap contexts.Isr (omega arith)

pub start_there : (plant : PlantData) (mode : ℕ) (c : Context) → IsContext plant.system c
    → position_of plant.system (nodes_after plant mode []) c ≡ start_node plant (initial plant.system mode) c
start_there plant mode c exists =
    get_or-map-range_with_len (λ n. start_node plant (initial plant.system mode) (context_at plant.system n)) 0 (context_count plant.system)
    (place_of plant.system c) (place_of plant.system c) None
    (place_within plant.system c exists) (omega arith)
    ∙ ap (start_node plant (initial plant.system mode)) (context_there plant.system c exists)

is_isr : (i : ℕ) (isr : Option ℕ) → (option_map_or (nat_eq i) isr false ≡ true) ↔ (isr ≡ Some i)
is_isr i None = (λ e. absurd cc, λ e. absurd cc)
is_isr i (Some j) = (λ e. ap Some (sym (eqb-true i j e)), λ e. eq-eqb i j (let same : j ≡ i = cc in sym same))

pub active_test : (kernel : Kernel) (c : Context) → (is_active kernel c ≡ true) ↔ IsActive kernel c
active_test kernel (contexts.Task t) = (λ e. e, λ e. e)
active_test kernel (contexts.Isr i) = is_isr i kernel.isr

not_true : (b : Bool) → (b ≡ true → ⊥) → b ≡ false
not_true true not = absurd (not refl)
not_true false not = refl

start_tells : (plant : PlantData) → IsPlant plant → (mode : ℕ) (state : MachineState) → IsInitial plant.image plant.system mode state
    → Tells plant.system (λ c. option_and_then (node_of plant c)) state.standings (nodes_after plant mode [])
start_tells plant is mode state run c exists = start_there plant mode c exists ∙ by (standing_of plant.system state c) refl
  where
    kernel : Kernel
    kernel = initial plant.system mode

    by : (standing : Option Standing) → standing_of plant.system state c ≡ standing
        → start_node plant (initial plant.system mode) c ≡ option_and_then (node_of plant c) (standing_of plant.system state c)
    by (Some standing) e =
        let entry = run.entries c standing exists e in
        let active : IsActive (initial plant.system mode) c = subst (λ k. IsActive k c) run.kernel ((run.standings.active c exists).0 (ap is_some e)) in
        ap (λ b. cond b (entry_node plant c) None) ((active_test (initial plant.system mode) c).1 active)
        ∙ (sym (entry_number plant is c standing exists entry.place entry.calls) ∙ ap (option_and_then (node_of plant c)) (sym e))
    by None e =
        ap (λ b. cond b (entry_node plant c) None) (not_true (is_active (initial plant.system mode) c) (λ is_so.
        let active : IsActive state.kernel c = subst (λ k. IsActive k c) (sym run.kernel) ((active_test (initial plant.system mode) c).0 is_so) in
        let some : IsSome (standing_of plant.system state c) = (run.standings.active c exists).1 active in
        let wrong = sym (ap is_some e) ∙ some in cc))
        ∙ ap (option_and_then (node_of plant c)) (sym e)

-- ---- After a service

goes_by_first : (leaving : Leaving) (next : ℕ) → is_some leaving.service ≡ true
    → option_and_then (λ edge. edge.to) (slice_get leaving.edges 0) ≡ Some next → onward leaving ≡ Some next
goes_by_first leaving next some first = ap (λ b. cond b (option_and_then (λ edge. edge.to) (slice_get leaving.edges 0)) None) some ∙ first

successor_there : (plant : PlantData) → IsPlant plant → (call : ServiceCall) (asks : AsksAt plant call) (place target : ℕ) → place ≡ 0
    → (has : HasTarget plant asks.at.number place (next_node asks.at.node)) → successor plant.flow asks.at.number ≡ Some has.target
successor_there plant is call asks place target start has =
    let leaves = leaves_there plant is asks.at.number asks.at.node asks.at.listed in
    let edges : edges_at plant.flow asks.at.number ≡ leaves.leaving.edges = ap
    (λ (o : Option Leaving). option_map_or (λ (l : Leaving). l.edges) o []) leaves.listed in
    let first : option_and_then (λ edge. edge.to) (slice_get leaves.leaving.edges 0) ≡ Some has.target =
    ap (option_and_then (λ edge. edge.to)) (ap (λ es. slice_get es 0) (sym edges)
    ∙ (ap (slice_get (edges_at plant.flow asks.at.number)) (sym start) ∙ has.leaves)) ∙ has.arrives in
    let some : is_some leaves.leaving.service ≡ true = ap is_some (leaves.are.service_is ∙ asks.service_is) in
    ap (option_and_then onward) leaves.listed ∙ goes_by_first leaves.leaving has.target some first

code_fits : (code : Code) → code_number code < 2 ^ 32
code_fits Done = omega arith
code_fits Access = omega arith
code_fits CallLevel = omega arith
code_fits Limit = omega arith
code_fits NoFunction = omega arith
code_fits Resource = omega arith
code_fits State = omega arith

-- where the caller goes on it stands at the successor of its node
pub goes_to_successor : (plant : PlantData) → IsPlant plant → (call : ServiceCall) (before after : MachineState)
    → Serves plant.image plant.system call before after → (asks : AsksAt plant call)
    → (served_by plant.system call before).reply.misuse ≡ false → (served_by plant.system call before).reply.ended ≡ None
    → (target : ℕ) × (successor plant.flow asks.at.number ≡ Some target)
    × (node_of plant call.caller (gone_on (served_by plant.system call before).reply.code call.before) ≡ Some target)
unfolding ServicesGoOn
goes_to_successor plant is call before after step asks clean stays =
    let code = (served_by plant.system call before).reply.code in
    let registers : List ℕ = with_value call.before.registers 10 (code_number code) in
    let are : AreRegisters registers =
    with_value_keeps call.before.registers 10 (code_number code) asks.at.stands.fits.registers_fit (omega arith) (code_fits code) in
    let on : ends_by (number_in call.before) ≡ false =
    ending.goes_on plant.system before.kernel call.caller call.service (number_in call.before) (argument_in call.before) step.service clean stays in
    let goes = services_go_on (program_in plant) asks.at.node asks.serves.service registers asks.at.faultless asks.ecall
    asks.service_is (ap ends_by (sym asks.serves.number_is) ∙ on) are in
    let to = target_there plant is asks.at.number asks.at.node goes.leads.number goes.leads.edge
    (next_node asks.at.node) asks.at.listed goes.leads.leaves goes.leads.arrives in
    let zero : goes.leads.number ≡ 0 = (let within = slice_get_within
    (edges_of (insn_at plant.image) asks.at.node) goes.leads.number goes.leads.edge goes.leads.leaves in let only = goes.only in omega arith) in (
      to.target,
      successor_there plant is call asks goes.leads.number to.target zero to,
      at_number plant is call.caller (graph.standing_at registers (following call.before.place) call.before.calls) to.target
          (next_node asks.at.node) to.listed asks.at.context_is
          asks.at.stands.calls_are (ap following asks.at.stands.place_is),
    )

pub activated_exists : (system : System) (reply : Option ℕ) → ((t : ℕ) → reply ≡ Some t → t < length system.tasks)
    → (d : Context) → option_map contexts.Task reply ≡ Some d → IsContext system d
activated_exists system None exist d e = absurd (none-some d e)
activated_exists system (Some t) exist d e = subst (IsContext system) (same_Some (contexts.Task t) d e) (exist t refl)

caller_tells : (f : Option Standing → Option ℕ) (ended : Option Context) (then : Option ℕ) (next : Option Standing) → f None ≡ None
    → (ended ≡ None → then ≡ f next) → cond (is_some ended) None then ≡ f (cond (is_some ended) None next)
caller_tells f None then next none same = same refl
caller_tells f (Some c) then next none same = sym none

serve_tells : (plant : PlantData) (states : List AbsState) (task mode : ℕ) (call : ServiceCall) (earlier : List Event) (before after : MachineState)
    → IsLater plant states task mode (Serve call) earlier before after
    → Tells plant.system (λ c. option_and_then (node_of plant c)) before.standings (nodes_after plant mode earlier)
    → Tells plant.system (λ c. option_and_then (node_of plant c)) after.standings (nodes_after plant mode (Serve call ∷ earlier))
serve_tells plant states task mode call earlier before after later tells =
    let is : IsPlant plant = later.case.of.belongs in
    let step : Serves plant.image plant.system call before after = later.step in
    let all = covers_of plant states task mode earlier before later.case in
    let done = served_by plant.system call before in
    let next = gone_on done.reply.code call.before in
    let asks = asks_at plant is call before after all.room step all.walking in
    let clean : done.reply.misuse ≡ false =
    ap (λ (r : Reply). r.misuse) (sym step.replied) ∙ (step_of plant states task mode (Serve call) earlier before after later).1 in
    let on : done.reply.ended ≡ None → node_after plant call ≡ node_of plant call.caller next =
    (λ stays. let goes = goes_to_successor plant is call before after step asks clean stays in
    ap (option_and_then (successor plant.flow)) asks.at.found ∙ (goes.1 ∙ sym goes.2)) in
    let served : Tells plant.system (λ c. option_and_then (node_of plant c))
    (answered plant.system (at_entry plant.image plant.system call.registers) call.caller (Some next) done.reply before.standings)
    (answered plant.system (entry_node plant) call.caller (node_after plant call) done.reply (nodes_after plant mode earlier)) =
    answered_tells plant.system (λ c. option_and_then (node_of plant c)) (at_entry plant.image plant.system call.registers) (entry_node plant)
    call.caller (Some next) (node_after plant call) done.reply before.standings (nodes_after plant mode earlier)
    (activated_exists plant.system done.reply.activated
    (served_exists plant.system before.kernel call.caller call.service (argument_in call.before) step.argument))
    (running_exists plant.system before call.caller all.room step.running) all.room.positions.count (nodes_count plant mode earlier)
    (entry_tells plant is call.registers)
    (caller_tells (option_and_then (node_of plant call.caller)) done.reply.ended (node_after plant call) (Some next) refl on) tells in
    subst (λ (s : MachineState). Tells plant.system (λ c. option_and_then (node_of plant c)) s.standings (nodes_after plant mode (Serve call ∷ earlier)))
    (sym step.becomes)
    (subst (λ (r : Reply). Tells plant.system (λ c. option_and_then (node_of plant c))
    (answered plant.system (at_entry plant.image plant.system call.registers) call.caller (Some next) done.reply before.standings)
    (answered plant.system (entry_node plant) call.caller (node_after plant call) r (nodes_after plant mode earlier))) (sym step.replied) served)

-- ---- After the other steps

take_tells : (plant : PlantData) (states : List AbsState) (task mode : ℕ) (taking : Taking) (earlier : List Event) (before after : MachineState)
    → IsLater plant states task mode (Take taking) earlier before after
    → Tells plant.system (λ c. option_and_then (node_of plant c)) before.standings (nodes_after plant mode earlier)
    → Tells plant.system (λ c. option_and_then (node_of plant c)) after.standings (nodes_after plant mode (Take taking ∷ earlier))
take_tells plant states task mode taking earlier before after later tells =
    let is : IsPlant plant = later.case.of.belongs in
    let step : Takes plant.image plant.system taking before after = later.step in
    let all = covers_of plant states task mode earlier before later.case in
    let who = (taken_by plant.system taking.source before).started in
    let done : Tells plant.system (λ c. option_and_then (node_of plant c))
    (started plant.system (at_entry plant.image plant.system taking.registers) who before.standings)
    (started plant.system (entry_node plant) who (nodes_after plant mode earlier)) =
    started_tells plant.system (λ c. option_and_then (node_of plant c)) (at_entry plant.image plant.system taking.registers) (entry_node plant) who
    before.standings (nodes_after plant mode earlier) (who_exists plant is taking before after all.room step) all.room.positions.count
    (nodes_count plant mode earlier) (entry_tells plant is taking.registers) tells in
    subst (λ (s : MachineState). Tells plant.system (λ c. option_and_then (node_of plant c)) s.standings (nodes_after plant mode (Take taking ∷ earlier)))
    (sym step.becomes)
    (subst (λ (w : Option Context). Tells plant.system (λ c. option_and_then (node_of plant c))
    (started plant.system (at_entry plant.image plant.system taking.registers) who before.standings)
    (started plant.system (entry_node plant) w (nodes_after plant mode earlier))) (sym step.started) done)

execute_tells : (plant : PlantData) (states : List AbsState) (task mode : ℕ) (execution : Execution) (earlier : List Event) (before after : MachineState)
    → IsLater plant states task mode (Execute execution) earlier before after
    → Tells plant.system (λ c. option_and_then (node_of plant c)) before.standings (nodes_after plant mode earlier)
    → Tells plant.system (λ c. option_and_then (node_of plant c)) after.standings (nodes_after plant mode (Execute execution ∷ earlier))
execute_tells plant states task mode execution earlier before after later tells =
    let step : Executes plant.image plant.system execution before after = later.step in
    let all = covers_of plant states task mode earlier before later.case in
    subst (λ (s : MachineState). Tells plant.system (λ c. option_and_then (node_of plant c)) s.standings (nodes_after plant mode (Execute execution ∷ earlier)))
    (sym step.becomes)
    (placed_tells plant.system (λ c. option_and_then (node_of plant c)) execution.context (Some execution.after)
    (node_of plant execution.context execution.after) before.standings (nodes_after plant mode earlier)
    (running_exists plant.system before execution.context all.room step.running) all.room.positions.count (nodes_count plant mode earlier) refl tells)

-- ---- After every run

-- the node that the steps tell of a context is the one at which it stands
pub nodes_are : (plant : PlantData) (states : List AbsState) (task mode : ℕ) (events : List Event) (state : MachineState)
    → IsDeclaredCase plant states task mode events state
    → Tells plant.system (λ c. option_and_then (node_of plant c)) state.standings (nodes_after plant mode events)
nodes_are plant states task mode [] state case = start_tells plant case.of.belongs mode state case.of.run
nodes_are plant states task mode (Arrive arrival ∷ earlier) state case =
    let later = later_of plant states task mode (Arrive arrival) earlier state case in
    subst (λ (s : MachineState). Tells plant.system (λ c. option_and_then (node_of plant c)) s.standings (nodes_after plant mode earlier))
    (sym later.1.step.becomes) (nodes_are plant states task mode earlier later.0 later.1.case)
nodes_are plant states task mode (Take taking ∷ earlier) state case =
    let later = later_of plant states task mode (Take taking) earlier state case in
    take_tells plant states task mode taking earlier later.0 state later.1 (nodes_are plant states task mode earlier later.0 later.1.case)
nodes_are plant states task mode (Execute execution ∷ earlier) state case =
    let later = later_of plant states task mode (Execute execution) earlier state case in
    execute_tells plant states task mode execution earlier later.0 state later.1 (nodes_are plant states task mode earlier later.0 later.1.case)
nodes_are plant states task mode (Serve call ∷ earlier) state case =
    let later = later_of plant states task mode (Serve call) earlier state case in
    serve_tells plant states task mode call earlier later.0 state later.1 (nodes_are plant states task mode earlier later.0 later.1.case)
nodes_are plant states task mode (Idle cycles ∷ earlier) state case =
    let later = later_of plant states task mode (Idle cycles) earlier state case in
    subst (λ (s : MachineState). Tells plant.system (λ c. option_and_then (node_of plant c)) s.standings (nodes_after plant mode earlier))
    (sym later.1.step.becomes) (nodes_are plant states task mode earlier later.0 later.1.case)
