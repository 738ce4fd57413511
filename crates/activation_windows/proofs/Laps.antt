-- For each context that stands somewhere there are laps of each of its open calls, and of its own code.
use Rattle.std.proofs.Common.{◌≡◌, ℕ, ◌+◌, inl, inr, Bool, true, false, cond, List, [], ◌∷◌, length, Option, Some, None, refl, sym, ◌∙◌, ap, subst, arith}
use Rattle.std.specs.Prelude.{◌&&◌, is_some, is_none, slice_get, option_map}
use Rattle.std.specs.Option.{option_map_or}
use Rattle.std.proofs.lemmas.Option.{none-some, same_Some}
use Rattle.rv32_machine.specs.declared.turns.Turn.{Turn}
use Rattle.rv32_machine.specs.declared.turns.Turn.TheVariants.{Calling, Returning}
use Rattle.rv32_machine.specs.Code.{insn_at}
use Rattle.rv32_machine.specs.ContextStep.{Standing, IsPaired, calls_after, turn_from}
use Rattle.rv32_machine.specs.Execution.{following}
use Rattle.rv32_machine.specs.Places.{pair_at, service_at, turn_at, turn_of}
use Rattle.timing_file.specs.declared.timing.Loop.{Loop}
use Rattle.oil_model.specs.declared.system.System.{System}
use Rattle.osek_kernel.specs.declared.context.Context.{Context}
use Rattle.osek_kernel.specs.declared.context.Context.TheVariants as contexts
use Rattle.osek_kernel.specs.declared.kernel.Reply.{Reply}
use Rattle.osek_kernel.specs.Contexts.{IsContext, context_count}
use Rattle.osek_kernel.specs.Positions.{position_of, placed, started, answered}
use Rattle.osek_machine.specs.State.{MachineState, standing_of, standing_at, at_entry}
use Rattle.osek_machine.specs.Events.{Taking, Execution, ServiceCall, Event, Arrive, Take, Execute, Serve, Idle, started_by}
use Rattle.osek_machine.specs.Loops.{begun, innermost, is_this, laps_of, laps_with, moved_on, returned, same_context, turned}
use Rattle.osek_machine.specs.Steps.{Takes, Executes, Serves, gone_on, served_by}
use Rattle.osek_machine.proofs.Kept.{running_exists}
use Rattle.osek_machine.proofs.Placing.{contexts_apart, placed_here, placed_elsewhere, placed_count}
use Rattle.flow_graph.specs.declared.node.Node.{Node}
use Rattle.flow_graph.specs.Graph.{edges_by}
use Rattle.wcet_atomic_blocks.specs.Plants.{PlantData}
use Rattle.abstract_sched.specs.declared.states.AbsState.{AbsState}
use Rattle.activation_windows.specs.Counted.{IsDeclaredCase}
use Rattle.activation_windows.specs.Windows.{edge_taken}
use Rattle.activation_windows.proofs.EdgesTaken.{TakesEdge, paired}
use Rattle.activation_windows.proofs.Induction.{IsLater, covers_of, is_this_one, later_of, this_is}
use Rattle.activation_windows.proofs.Lasting.{edge_in}
use Rattle.activation_windows.proofs.Stepping.{contexts_exist}
use Rattle.activation_windows.proofs.Turning.{FitsTurn, kind_fits, moved_length, turned_by, turned_count}

-- ---- Where a context stands after a change

-- the one that starts is at its entry, and any other where it was
pub started_here : {P : Type 0} (system : System) (entry : Context → Option P) (who : Option Context) (c : Context) (xs : List (Option P))
    → IsContext system c → length xs ≡ context_count system → is_this c who ≡ true → position_of system (started system entry who xs) c ≡ entry c
started_here system entry who c xs exists count is =
    ap (λ (w : Option Context). position_of system (started system entry w xs) c) (this_is c who is) ∙ placed_here system c (entry c) xs exists count

not_this : (c : Context) (who : Option Context) → is_this c who ≡ false → who ≡ Some c → ⊥
not_this c who is e = let wrong : true ≡ false = sym (is_this_one c who e) ∙ is in cc

pub placed_other : {P : Type 0} (system : System) (d c : Context) (p : Option P) (xs : List (Option P)) → IsContext system c → IsContext system d
    → same_context c d ≡ false → position_of system (placed system d p xs) c ≡ position_of system xs c
placed_other system d c p xs exists there is = elim (contexts_apart system c d exists there) [
  | inl same ↦ absurd (not_this c (Some d) is (ap Some (sym same)))
  | inr other ↦ placed_elsewhere system d c p xs other
]

pub started_other : {P : Type 0} (system : System) (entry : Context → Option P) (who : Option Context) (c : Context) (xs : List (Option P))
    → IsContext system c → ((d : Context) → who ≡ Some d → IsContext system d) → is_this c who ≡ false
    → position_of system (started system entry who xs) c ≡ position_of system xs c
started_other system entry None c xs exists exist is = refl
started_other system entry (Some d) c xs exists exist is = placed_other system d c (entry d) xs exists (exist d refl) is

-- ---- The turn of a step

turned_nodes : (l : Loop) (turn : Turn) (execution : Execution) (laps : List ℕ) (source target : Node) → execution.before.place ≡ source.address
    → execution.after.place ≡ target.address → execution.before.calls ≡ source.sites
    → turned l (Some turn) execution laps ≡ turned_by l turn source target laps
turned_nodes l (Calling place) execution laps source target from to calls = refl
turned_nodes l Returning execution laps source target from to calls = ap (λ (cs : List ℕ). returned l (innermost cs) laps) calls
turned_nodes l turn execution laps source target from to calls =
    ap (λ a. moved_on l a execution.after.place laps) from ∙ ap (λ a. moved_on l source.address a laps) to

-- The turn of an instruction step, which its edge fits.
pub record Turns (plant : PlantData) (execution : Execution) (takes : TakesEdge plant execution) : Type 0 where
  pub turn : Turn
  pub at : turn_at (insn_at plant.image) execution.before.place ≡ Some turn
  pub fits : FitsTurn turn takes.edge.kind
  pub sites : takes.next.sites ≡ calls_after turn takes.at.node.address takes.at.node.sites
  pub paired : IsPaired turn takes.at.node.sites takes.next.address
  pub laps_are : (l : Loop) (laps : List ℕ) → turned l (turn_at (insn_at plant.image) execution.before.place) execution laps
      ≡ turned_by l turn takes.at.node takes.next laps

pub turns_in : (plant : PlantData) (states : List AbsState) (task mode : ℕ) (execution : Execution) (earlier : List Event) (before after : MachineState)
    → IsLater plant states task mode (Execute execution) earlier before after → (takes : TakesEdge plant execution) → Turns plant execution takes
turns_in plant states task mode execution earlier before after later takes =
    let step : Executes plant.image plant.system execution before after = later.step in
    let code = insn_at plant.image in
    let turn : Turn = turn_from code step.step.insn execution.before in
    let at : turn_at code execution.before.place ≡ Some turn =
    ap (option_map (turn_of (pair_at code execution.before.place) execution.before.place)) step.step.fetched in
    let place = takes.at.stands.place_is in
    let calls = takes.at.stands.calls_are in
    let back : IsPaired turn execution.before.calls execution.after.place =
    paired plant.image step.step.insn execution.before execution.after step.step.fetched later.pairs in
    record {
      turn = turn;
      at = at;
      fits = subst (FitsTurn turn) (sym takes.kind_is)
          (kind_fits (service_at code takes.at.node.address) takes.at.node turn (edge_taken plant execution) takes.from_node
          (ap (λ (found : Option Turn). slice_get (option_map_or (edges_by (service_at code takes.at.node.address) takes.at.node) found [])
          (edge_taken plant execution))
          (sym (ap (turn_at code) (sym place) ∙ at)) ∙ takes.is_edge));
      sites = sym takes.stands.calls_are ∙ (step.step.calls_are
          ∙ (ap (λ a. calls_after turn a execution.before.calls) place ∙ ap (calls_after turn takes.at.node.address) calls));
      paired = subst (λ (cs : List ℕ). IsPaired turn cs takes.next.address) calls
          (subst (IsPaired turn execution.before.calls) takes.stands.place_is back);
      laps_are = λ l laps. ap (λ (t : Option Turn). turned l t execution laps) at
          ∙ turned_nodes l turn execution laps takes.at.node takes.next place takes.stands.place_is calls;
    }

-- ---- Laps and open calls

abbrev pub HasLaps : PlantData → Loop → List Event → MachineState → Type 0
HasLaps plant l events state = (c : Context) (standing : Standing) → IsContext plant.system c → standing_of plant.system state c ≡ Some standing
    → length (laps_of plant.image l c events) ≡ length standing.calls + 1

-- laps where a step starts the context, or doesn't
pub laps_new : (plant : PlantData) (l : Loop) (c : Context) (event : Event) (earlier : List Event) → is_this c (started_by event) ≡ true
    → laps_of plant.image l c (event ∷ earlier) ≡ begun []
laps_new plant l c event earlier is =
    ap (λ b. cond b (begun []) (laps_with plant.image l c event (laps_of plant.image l c earlier))) is

pub laps_old : (plant : PlantData) (l : Loop) (c : Context) (event : Event) (earlier : List Event) → is_this c (started_by event) ≡ false
    → laps_of plant.image l c (event ∷ earlier) ≡ laps_with plant.image l c event (laps_of plant.image l c earlier)
laps_old plant l c event earlier is =
    ap (λ b. cond b (begun []) (laps_with plant.image l c event (laps_of plant.image l c earlier))) is

entry_calls : (registers : List ℕ) (place : Option ℕ) (standing : Standing) → option_map (standing_at registers) place ≡ Some standing → standing.calls ≡ []
entry_calls registers None standing e = absurd (none-some standing e)
entry_calls registers (Some place) standing e = ap (λ (s : Standing). s.calls) (sym (same_Some (standing_at registers place) standing e))

entry_laps : (plant : PlantData) (l : Loop) (c : Context) (event : Event) (earlier : List Event) (registers : List ℕ) (standing : Standing)
    → is_this c (started_by event) ≡ true → at_entry plant.image plant.system registers c ≡ Some standing
    → length (laps_of plant.image l c (event ∷ earlier)) ≡ length standing.calls + 1
entry_laps plant l c event earlier registers standing is at =
    let calls = ap length (entry_calls registers _ standing at) in
    let laps = ap length (laps_new plant l c event earlier is) in
    omega arith

take_laps : (plant : PlantData) (states : List AbsState) (task mode : ℕ) (l : Loop) (taking : Taking) (earlier : List Event) (before after : MachineState)
    → IsLater plant states task mode (Take taking) earlier before after → HasLaps plant l earlier before
    → (c : Context) (standing : Standing) → IsContext plant.system c
    → position_of plant.system (started plant.system (at_entry plant.image plant.system taking.registers) taking.started before.standings) c ≡ Some standing
    → (starts : Bool) → is_this c taking.started ≡ starts → length (laps_of plant.image l c (Take taking ∷ earlier)) ≡ length standing.calls + 1
take_laps plant states task mode l taking earlier before after later had c standing exists at true is =
    entry_laps plant l c (Take taking) earlier taking.registers standing is
    (sym (started_here plant.system (at_entry plant.image plant.system taking.registers) taking.started c before.standings exists
    (covers_of plant states task mode earlier before later.case).room.positions.count is) ∙ at)
take_laps plant states task mode l taking earlier before after later had c standing exists at false is =
    ap length (laps_old plant l c (Take taking) earlier is)
    ∙ had c standing exists (sym (started_other plant.system (at_entry plant.image plant.system taking.registers) taking.started c before.standings exists
    (contexts_exist plant states task mode (Take taking) earlier before after later) is) ∙ at)

take_stands : (plant : PlantData) (states : List AbsState) (task mode : ℕ) (taking : Taking) (earlier : List Event) (before after : MachineState)
    → IsLater plant states task mode (Take taking) earlier before after → (c : Context) (standing : Standing)
    → standing_of plant.system after c ≡ Some standing
    → position_of plant.system (started plant.system (at_entry plant.image plant.system taking.registers) taking.started before.standings) c ≡ Some standing
take_stands plant states task mode taking earlier before after later c standing stands =
    let step : Takes plant.image plant.system taking before after = later.step in
    ap (λ (w : Option Context). position_of plant.system
    (started plant.system (at_entry plant.image plant.system taking.registers) w before.standings) c) step.started
    ∙ (ap (λ (s : MachineState). standing_of plant.system s c) (sym step.becomes) ∙ stands)

execute_laps : (plant : PlantData) (states : List AbsState) (task mode : ℕ) (l : Loop) (execution : Execution) (earlier : List Event)
    (before after : MachineState)
    → IsLater plant states task mode (Execute execution) earlier before after → HasLaps plant l earlier before
    → (c : Context) (standing : Standing) → IsContext plant.system c → standing_of plant.system after c ≡ Some standing
    → (own : Bool) → same_context c execution.context ≡ own → length (laps_of plant.image l c (Execute execution ∷ earlier)) ≡ length standing.calls + 1
execute_laps plant states task mode l execution earlier before after later had c standing exists stands true is =
    let step : Executes plant.image plant.system execution before after = later.step in
    let all = covers_of plant states task mode earlier before later.case in
    let takes = edge_in plant states task mode execution earlier before after later in
    let turns = turns_in plant states task mode execution earlier before after later takes in
    let who : execution.context ≡ c = same_Some execution.context c (this_is c (Some execution.context) is) in
    let there : IsContext plant.system execution.context = running_exists plant.system before execution.context all.room step.running in
    let laps = laps_of plant.image l c earlier in
    let at : Some execution.after ≡ Some standing =
    sym (placed_here plant.system execution.context (Some execution.after) before.standings there all.room.positions.count)
    ∙ (ap (position_of plant.system (placed plant.system execution.context (Some execution.after) before.standings)) who
    ∙ (ap (λ (s : MachineState). standing_of plant.system s c) (sym step.becomes) ∙ stands)) in
    let same : execution.after ≡ standing = same_Some execution.after standing at in
    let earlier_laps : length laps ≡ length execution.before.calls + 1 =
    had c execution.before exists (ap (standing_of plant.system before) (sym who) ∙ step.stands) in
    let calls = ap length takes.at.stands.calls_are in
    let counts = turned_count l turns.turn takes.at.node takes.next laps turns.sites turns.paired (omega arith) in
    let after_calls = ap length takes.stands.calls_are in
    let same_calls = ap (λ (s : Standing). length s.calls) same in
    let turned_are = ap length (ap (λ b. cond b (turned l (turn_at (insn_at plant.image) execution.before.place) execution laps) laps) is
    ∙ turns.laps_are l laps) in
    omega arith
execute_laps plant states task mode l execution earlier before after later had c standing exists stands false is =
    let step : Executes plant.image plant.system execution before after = later.step in
    let all = covers_of plant states task mode earlier before later.case in
    let there : IsContext plant.system execution.context = running_exists plant.system before execution.context all.room step.running in
    let laps = laps_of plant.image l c earlier in
    ap length (ap (λ b. cond b (turned l (turn_at (insn_at plant.image) execution.before.place) execution laps) laps) is)
    ∙ had c standing exists (sym (placed_other plant.system execution.context c (Some execution.after) before.standings exists there is)
    ∙ (ap (λ (s : MachineState). standing_of plant.system s c) (sym step.becomes) ∙ stands))

-- what a service leaves of a caller
caller_at : (ended : Option Context) (next standing : Standing) → cond (is_some ended) None (Some next) ≡ Some standing
    → (is_none ended ≡ true) × (next ≡ standing)
caller_at None next standing e = (refl, same_Some next standing e)
caller_at (Some d) next standing e = absurd (none-some standing e)

serve_other : (plant : PlantData) (states : List AbsState) (task mode : ℕ) (l : Loop) (call : ServiceCall) (earlier : List Event)
    (before after : MachineState)
    → IsLater plant states task mode (Serve call) earlier before after → HasLaps plant l earlier before
    → (c : Context) (standing : Standing) → IsContext plant.system c
    → position_of plant.system (placed plant.system call.caller (cond (is_some call.reply.ended) None
    (Some (gone_on (served_by plant.system call before).reply.code call.before))) before.standings) c ≡ Some standing
    → (own : Bool) → same_context c call.caller ≡ own
    → length (laps_with plant.image l c (Serve call) (laps_of plant.image l c earlier)) ≡ length standing.calls + 1
serve_other plant states task mode l call earlier before after later had c standing exists at true is =
    let step : Serves plant.image plant.system call before after = later.step in
    let all = covers_of plant states task mode earlier before later.case in
    let who : call.caller ≡ c = same_Some call.caller c (this_is c (Some call.caller) is) in
    let there : IsContext plant.system call.caller = running_exists plant.system before call.caller all.room step.running in
    let next = gone_on (served_by plant.system call before).reply.code call.before in
    let gone = cond (is_some call.reply.ended) None (Some next) in
    let goes = caller_at call.reply.ended next standing
    (sym (placed_here plant.system call.caller gone before.standings there all.room.positions.count)
    ∙ (ap (position_of plant.system (placed plant.system call.caller gone before.standings)) who ∙ at)) in
    let laps = laps_of plant.image l c earlier in
    let earlier_laps : length laps ≡ length call.before.calls + 1 = had c call.before exists (ap (standing_of plant.system before) (sym who) ∙ step.stands) in
    let moved = moved_on l call.before.place (following call.before.place) laps in
    let same = ap length (ap (λ b. cond (b && is_none call.reply.ended) moved laps) is ∙ ap (λ b. cond b moved laps) goes.0) in
    let count = moved_length l call.before.place (following call.before.place) laps in
    let calls = ap (λ (s : Standing). length s.calls) goes.1 in
    omega arith
serve_other plant states task mode l call earlier before after later had c standing exists at false is =
    let step : Serves plant.image plant.system call before after = later.step in
    let all = covers_of plant states task mode earlier before later.case in
    let there : IsContext plant.system call.caller = running_exists plant.system before call.caller all.room step.running in
    let laps = laps_of plant.image l c earlier in
    let moved = moved_on l call.before.place (following call.before.place) laps in
    ap length (ap (λ b. cond (b && is_none call.reply.ended) moved laps) is)
    ∙ had c standing exists (sym (placed_other plant.system call.caller c _ before.standings exists there is) ∙ at)

-- the standings when the caller has gone on or ended, before a task starts
abbrev pub gone_standings : PlantData → ServiceCall → MachineState → List (Option Standing)
gone_standings plant call before = placed plant.system call.caller (cond (is_some call.reply.ended) None
    (Some (gone_on (served_by plant.system call before).reply.code call.before))) before.standings

pub serve_stands : (plant : PlantData) (states : List AbsState) (task mode : ℕ) (call : ServiceCall) (earlier : List Event) (before after : MachineState)
    → IsLater plant states task mode (Serve call) earlier before after → (c : Context) (standing : Standing)
    → standing_of plant.system after c ≡ Some standing
    → position_of plant.system (started plant.system (at_entry plant.image plant.system call.registers) (option_map contexts.Task call.reply.activated)
    (gone_standings plant call before)) c ≡ Some standing
serve_stands plant states task mode call earlier before after later c standing stands =
    let step : Serves plant.image plant.system call before after = later.step in
    ap (λ (r : Reply). position_of plant.system (answered plant.system (at_entry plant.image plant.system call.registers) call.caller
    (Some (gone_on (served_by plant.system call before).reply.code call.before)) r before.standings) c) step.replied
    ∙ (ap (λ (s : MachineState). standing_of plant.system s c) (sym step.becomes) ∙ stands)

pub activated_there : (plant : PlantData) (states : List AbsState) (task mode : ℕ) (call : ServiceCall) (earlier : List Event)
    (before after : MachineState) → IsLater plant states task mode (Serve call) earlier before after
    → (d : Context) → option_map contexts.Task call.reply.activated ≡ Some d → IsContext plant.system d
activated_there plant states task mode call earlier before after later d e =
    (contexts_exist plant states task mode (Serve call) earlier before after later).1 d e

serve_laps : (plant : PlantData) (states : List AbsState) (task mode : ℕ) (l : Loop) (call : ServiceCall) (earlier : List Event) (before after : MachineState)
    → IsLater plant states task mode (Serve call) earlier before after → HasLaps plant l earlier before
    → (c : Context) (standing : Standing) → IsContext plant.system c → standing_of plant.system after c ≡ Some standing
    → (starts : Bool) → is_this c (started_by (Serve call)) ≡ starts
    → length (laps_of plant.image l c (Serve call ∷ earlier)) ≡ length standing.calls + 1
serve_laps plant states task mode l call earlier before after later had c standing exists stands true is =
    let all = covers_of plant states task mode earlier before later.case in
    entry_laps plant l c (Serve call) earlier call.registers standing is
    (sym (started_here plant.system (at_entry plant.image plant.system call.registers) (option_map contexts.Task call.reply.activated) c
    (gone_standings plant call before) exists (placed_count plant.system call.caller _ before.standings ∙ all.room.positions.count) is)
    ∙ serve_stands plant states task mode call earlier before after later c standing stands)
serve_laps plant states task mode l call earlier before after later had c standing exists stands false is =
    ap length (laps_old plant l c (Serve call) earlier is)
    ∙ serve_other plant states task mode l call earlier before after later had c standing exists
    (sym (started_other plant.system (at_entry plant.image plant.system call.registers) (option_map contexts.Task call.reply.activated) c
    (gone_standings plant call before) exists (activated_there plant states task mode call earlier before after later) is)
    ∙ serve_stands plant states task mode call earlier before after later c standing stands) (same_context c call.caller) refl

pub has_laps : (plant : PlantData) (states : List AbsState) (task mode : ℕ) (l : Loop) (events : List Event) (state : MachineState)
    → IsDeclaredCase plant states task mode events state → HasLaps plant l events state
has_laps plant states task mode l [] state case = λ c standing exists stands.
    let calls = ap length (case.of.run.entries c standing exists stands).calls in omega arith
has_laps plant states task mode l (Arrive arrival ∷ earlier) state case = λ c standing exists stands.
    let later = later_of plant states task mode (Arrive arrival) earlier state case in
    has_laps plant states task mode l earlier later.0 later.1.case c standing exists
    (ap (λ (s : MachineState). standing_of plant.system s c) (sym later.1.step.becomes) ∙ stands)
has_laps plant states task mode l (Take taking ∷ earlier) state case = λ c standing exists stands.
    let later = later_of plant states task mode (Take taking) earlier state case in
    take_laps plant states task mode l taking earlier later.0 state later.1 (has_laps plant states task mode l earlier later.0 later.1.case)
    c standing exists (take_stands plant states task mode taking earlier later.0 state later.1 c standing stands) (is_this c taking.started) refl
has_laps plant states task mode l (Execute execution ∷ earlier) state case = λ c standing exists stands.
    let later = later_of plant states task mode (Execute execution) earlier state case in
    execute_laps plant states task mode l execution earlier later.0 state later.1 (has_laps plant states task mode l earlier later.0 later.1.case)
    c standing exists stands (same_context c execution.context) refl
has_laps plant states task mode l (Serve call ∷ earlier) state case = λ c standing exists stands.
    let later = later_of plant states task mode (Serve call) earlier state case in
    serve_laps plant states task mode l call earlier later.0 state later.1 (has_laps plant states task mode l earlier later.0 later.1.case)
    c standing exists stands (is_this c (started_by (Serve call))) refl
has_laps plant states task mode l (Idle cycles ∷ earlier) state case = λ c standing exists stands.
    let later = later_of plant states task mode (Idle cycles) earlier state case in
    has_laps plant states task mode l earlier later.0 later.1.case c standing exists
    (ap (λ (s : MachineState). standing_of plant.system s c) (sym later.1.step.becomes) ∙ stands)
