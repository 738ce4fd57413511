-- In every run that pairs its returns and misuses no service a counted loop goes round at most as often as its bound says.
use Rattle.std.proofs.Common.{◌≡◌, ◌⊎◌, inl, inr, ℕ, zero, suc, ◌+◌, ◌^◌, ◌<◌, ◌≤◌, Bool, true, false, cond, List, [], ◌∷◌, length, Option, Some, None, refl, sym, ◌∙◌, ap, subst, arith}
use Rattle.std.specs.Prelude.{◌&&◌, IfSome, is_some, is_none, slice_get, option_map, option_and_then}
use Rattle.std.proofs.lemmas.Bool.{eqb-true, eq-eqb}
use Rattle.std.proofs.lemmas.List.Elements.{All-contains}
use Rattle.std.proofs.lemmas.Option.{none-some, same_Some}
use Rattle.elf_image.specs.Image.{ImageData}
use Rattle.oil_model.specs.declared.system.System.{System}
use Rattle.rv32_decode.specs.declared.instruction.Insn.{Insn}
use Rattle.rv32_decode.specs.declared.instruction.Insn.TheVariants.{Ecall}
use Rattle.rv32_machine.specs.Code.{insn_at}
use Rattle.rv32_machine.specs.ContextStep.{Standing, IsPaired, turn_from}
use Rattle.rv32_machine.specs.Execution.{following}
use Rattle.rv32_machine.specs.Places.{pair_at, service_at, turn_of, turn_at}
use Rattle.rv32_machine.specs.Registers.{AreRegisters, with_value}
use Rattle.rv32_machine.proofs.ExecutionLaws.{with_value_keeps}
use Rattle.rv32_machine.proofs.StepLaws.{image_fits, step_keeps}
use Rattle.timing_file.specs.declared.timing.Loop.{Loop}
use Rattle.osek_kernel.specs.declared.context.Context.{Context}
use Rattle.osek_kernel.specs.declared.context.Context.TheVariants as contexts
use Rattle.osek_kernel.specs.declared.kernel.Reply.{Reply}
use Rattle.osek_kernel.specs.declared.service.Code.{Code}
use Rattle.osek_kernel.specs.declared.service.Code.TheVariants.{Done, Access, CallLevel, Limit, NoFunction, Resource, State}
use Rattle.osek_kernel.specs.Services.{code_number}
use Rattle.osek_kernel.specs.Contexts.{IsContext, place_of, context_count, entry_of}
use Rattle.osek_kernel.specs.Positions.{position_of, placed, started, answered}
use Rattle.osek_kernel.specs.Sources.{source_count}
use Rattle.osek_machine.specs.State.{MachineState, standing_of, standing_at, at_entry, StandsAtEntry}
use Rattle.osek_machine.specs.Events.{Taking, Execution, ServiceCall, Event, Arrive, Take, Execute, Serve, Idle, started_by}
use Rattle.osek_machine.specs.Loops.{begun, is_this, laps_of, laps_with, moved_on, same_context, turned}
use Rattle.osek_machine.specs.Steps.{Step, Takes, Executes, Serves, taken_by, served_by, gone_on, number_in, argument_in}
use Rattle.osek_machine.specs.Room.{IsStateOf}
use Rattle.osek_machine.specs.Runs.{IsRun}
use Rattle.osek_machine.specs.Declarations.{PairsReturns, ReturnsPaired}
use Rattle.osek_machine.proofs.Kept.{taken_exists, served_exists, running_exists, pending_within}
use Rattle.osek_machine.proofs.Placing.{contexts_apart, placed_here, placed_elsewhere, placed_count}
use Rattle.osek_machine.proofs.Times.{runs_keep_room}
use Rattle.flow_graph.specs.Graph.{entries_of, ends_by, next_node}
use Rattle.flow_graph.specs.Standing.{StepsFollowEdges}
use Rattle.flow_graph.specs.Walks.{EcallsServe, ServicesGoOn}
use Rattle.flow_graph.proofs.Law.{steps_follow_edges}
use Rattle.flow_graph.proofs.WalkLaws.{ecalls_serve, services_go_on}
use Rattle.flow_graph.specs.Faults.{entry_at}
use Rattle.graph_runs.specs.Walking.{AreWalking, MisusesNothing, IsNoMisuse}
use Rattle.graph_runs.proofs.Ending as ending
use Rattle.graph_runs.proofs.Entries.{entry_is}
use Rattle.graph_runs.proofs.Walking.{runs_walk}
use Rattle.wcet_atomic_blocks.specs.Plants.{PlantData, IsPlant}
use Rattle.shadow_runs.proofs.Numbers.{IsAtNode, at_node}
use Rattle.shadow_runs.proofs.Planted.{program_in, have_graph}
use Rattle.activation_windows.proofs.EdgesTaken.{paired}
use Rattle.activation_windows.proofs.Induction.{this_is}
use Rattle.activation_windows.proofs.Laps.{started_here, started_other, placed_other, laps_new, laps_old}
use Rattle.timing_file.specs.Lawful.{IsLoop}
use Rattle.counted_loops.specs.Counted.{IsCounted}
use Rattle.counted_loops.specs.Laws.{GoRoundAtMost}
use Rattle.counted_loops.proofs.Knowing.{IsSure, Steps}
use Rattle.counted_loops.proofs.Serving.{served_holds, started_holds}
use Rattle.counted_loops.proofs.Sureness.{sure_of, aligned_at, edge_there}
use Rattle.counted_loops.proofs.Turning.{AtMost, Holds, IsAlong, executes_hold}

-- ---- What is kept

-- The laps of each context are at most the bound, and where it stands somewhere its registers hold what is known there.
record Stays (plant : PlantData) (l : Loop) (bound : ℕ) (sure : IsSure (insn_at plant.image) (entries_of plant.image plant.system) plant.flow l bound)
    (events : List Event) (state : MachineState) : Type 0 where
  most : (c : Context) → AtMost bound (laps_of plant.image l c events)
  holds : (c : Context) (standing : Standing) → IsContext plant.system c → standing_of plant.system state c ≡ Some standing
      → Holds sure standing (laps_of plant.image l c events)

-- what is known of a step
record IsNext (plant : PlantData) (event : Event) (before after : MachineState) : Type 0 where
  belongs : IsPlant plant
  room : IsStateOf plant.system before
  walking : AreWalking (program_in plant) plant.system before
  step : Step plant.image plant.system event before after
  pairs : ReturnsPaired plant.image event
  clean : IsNoMisuse event

-- ---- Starts of contexts

entry_listed : (plant : PlantData) (c : Context) (place : ℕ) → IsContext plant.system c → entry_of plant.image plant.system c ≡ Some place
    → slice_get (entries_of plant.image plant.system) (place_of plant.system c) ≡ Some (Some place)
entry_listed plant c place exists at =
    through (slice_get (entries_of plant.image plant.system) (place_of plant.system c)) (entry_is plant.image plant.system plant.timing c exists ∙ at)
  where
    through : (found : Option (Option ℕ)) → option_and_then (λ (entry : Option ℕ). entry) found ≡ Some place → found ≡ Some (Some place)
    through None e = absurd (none-some place e)
    through (Some entry) e = ap Some e

entry_holds : (plant : PlantData) (l : Loop) (bound : ℕ) (sure : IsSure (insn_at plant.image) (entries_of plant.image plant.system) plant.flow l bound)
    (c : Context) (registers : List ℕ) (standing : Standing) → IsContext plant.system c → AreRegisters registers
    → at_entry plant.image plant.system registers c ≡ Some standing → Holds sure standing (begun [])
entry_holds plant l bound sure c registers standing exists are at = by (entry_of plant.image plant.system c) refl at
  where
    by : (place : Option ℕ) → entry_of plant.image plant.system c ≡ place → option_map (standing_at registers) place ≡ Some standing → Holds sure standing (begun [])
    by None e is = absurd (none-some standing is)
    by (Some place) e is = subst (λ s. Holds sure s (begun [])) (same_Some (standing_at registers place) standing is)
        (started_holds sure (standing_at registers place) (place_of plant.system c) (entry_listed plant c place exists e) are)

at_start : (plant : PlantData) (l : Loop) (bound : ℕ) (sure : IsSure (insn_at plant.image) (entries_of plant.image plant.system) plant.flow l bound)
    (mode : ℕ) (state : MachineState) → IsRun plant.image plant.system mode [] state → Stays plant l bound sure [] state
at_start plant l bound sure mode state initial = record {
  most = λ c. (omega arith, tt);
  holds = λ c standing exists at.
      let stands = initial.entries c standing exists at in
      started_holds sure standing (place_of plant.system c) (entry_listed plant c standing.place exists stands.place) stands.registers;
}

-- ---- A source is taken

take_stays : (plant : PlantData) (l : Loop) (bound : ℕ) (sure : IsSure (insn_at plant.image) (entries_of plant.image plant.system) plant.flow l bound)
    (taking : Taking) (earlier : List Event) (before after : MachineState) → IsNext plant (Take taking) before after
    → Stays plant l bound sure earlier before → Stays plant l bound sure (Take taking ∷ earlier) after
take_stays plant l bound sure taking earlier before after next stays = record {
  most = λ c. most c (is_this c taking.started) refl;
  holds = λ c standing exists at. holds c standing exists (stands c standing at) (is_this c taking.started) refl;
}
  where
    step : Takes plant.image plant.system taking before after
    step = next.step

    most : (c : Context) (b : Bool) → is_this c taking.started ≡ b → AtMost bound (laps_of plant.image l c (Take taking ∷ earlier))
    most c true e = subst (AtMost bound) (sym (laps_new plant l c (Take taking) earlier e)) (omega arith, tt)
    most c false e = subst (AtMost bound) (sym (laps_old plant l c (Take taking) earlier e)) (stays.most c)

    entry : Context → Option Standing
    entry = at_entry plant.image plant.system taking.registers

    stands : (c : Context) (standing : Standing) → standing_of plant.system after c ≡ Some standing
        → position_of plant.system (started plant.system entry taking.started before.standings) c ≡ Some standing
    stands c standing at =
        ap (λ (w : Option Context). position_of plant.system (started plant.system entry w before.standings) c) step.started
        ∙ (ap (λ (s : MachineState). standing_of plant.system s c) (sym step.becomes) ∙ at)

    exist : (d : Context) → taking.started ≡ Some d → IsContext plant.system d
    exist d e =
        let within : taking.source < source_count plant.system =
        (let w = pending_within before.pending taking.source step.pending in let same = next.room.pending in omega arith) in
        taken_exists plant.system before.kernel next.belongs.system taking.source within d (sym step.started ∙ e)

    holds : (c : Context) (standing : Standing) → IsContext plant.system c
        → position_of plant.system (started plant.system entry taking.started before.standings) c ≡ Some standing
        → (b : Bool) → is_this c taking.started ≡ b → Holds sure standing (laps_of plant.image l c (Take taking ∷ earlier))
    holds c standing exists at true e = subst (Holds sure standing) (sym (laps_new plant l c (Take taking) earlier e))
        (entry_holds plant l bound sure c taking.registers standing exists step.registers
        (sym (started_here plant.system entry taking.started c before.standings exists next.room.positions.count e) ∙ at))
    holds c standing exists at false e = subst (Holds sure standing) (sym (laps_old plant l c (Take taking) earlier e))
        (stays.holds c standing exists (sym (started_other plant.system entry taking.started c before.standings exists exist e) ∙ at))

-- ---- An instruction is executed

executes_along : (plant : PlantData) (execution : Execution) (before after : MachineState) → IsNext plant (Execute execution) before after
    → IsContext plant.system execution.context → IsAlong plant.flow execution.before execution.after
unfolding StepsFollowEdges
executes_along plant execution before after next exists =
    let step : Executes plant.image plant.system execution before after = next.step in
    let at = at_node plant next.belongs execution.context execution.before (next.walking.walks execution.context execution.before exists step.stands) in
    let follows = steps_follow_edges (program_in plant) (image_fits plant.image) at.node execution.device before.memory after.memory execution.before
    execution.after at.faultless at.stands next.walking.bytes step.step
    (paired plant.image step.step.insn execution.before execution.after step.step.fetched next.pairs) in
    record {
      source = at.node;
      target = follows.next;
      kind = follows.edge.kind;
      edge = edge_there plant next.belongs at.number at.node _ follows.edge follows.next at.listed follows.leaves follows.arrives;
      from = at.stands.place_is;
      to = follows.stands.place_is;
    }

own_execution : (plant : PlantData) (l : Loop) (bound : ℕ) (sure : IsSure (insn_at plant.image) (entries_of plant.image plant.system) plant.flow l bound)
    (execution : Execution) (before after : MachineState) → IsNext plant (Execute execution) before after → IsContext plant.system execution.context
    → (laps : List ℕ) → Holds sure execution.before laps
    → Holds sure execution.after (turned l (turn_at (insn_at plant.image) execution.before.place) execution laps)
own_execution plant l bound sure execution before after next exists laps holds =
    let step : Executes plant.image plant.system execution before after = next.step in
    let at = at_node plant next.belongs execution.context execution.before (next.walking.walks execution.context execution.before exists step.stands) in
    let are : AreRegisters execution.before.registers = at.stands.fits.registers_fit in
    let fits = step_keeps (insn_at plant.image) execution.device before.memory after.memory execution.before execution.after (image_fits plant.image) are
    next.walking.bytes step.step in
    executes_hold sure execution (record {
      device = execution.device;
      memory = before.memory;
      memory' = after.memory;
      step = step.step;
      from = are;
      to = fits.registers_fit;
    }) (executes_along plant execution before after next exists)
    (aligned_at plant.image execution.before.place step.step.insn next.belongs.image step.step.fetched) next.pairs laps holds

execute_stays : (plant : PlantData) (l : Loop) (bound : ℕ) (sure : IsSure (insn_at plant.image) (entries_of plant.image plant.system) plant.flow l bound)
    (execution : Execution) (earlier : List Event) (before after : MachineState) → IsNext plant (Execute execution) before after
    → Stays plant l bound sure earlier before → Stays plant l bound sure (Execute execution ∷ earlier) after
execute_stays plant l bound sure execution earlier before after next stays = record {
  most = λ c. most c (same_context c execution.context) refl;
  holds = λ c standing exists at. holds c standing exists at (same_context c execution.context) refl;
}
  where
    step : Executes plant.image plant.system execution before after
    step = next.step

    there : IsContext plant.system execution.context
    there = running_exists plant.system before execution.context next.room step.running

    own : (c : Context) → same_context c execution.context ≡ true
        → Holds sure execution.after (turned l (turn_at (insn_at plant.image) execution.before.place) execution (laps_of plant.image l c earlier))
    own c e =
        let who : execution.context ≡ c = same_Some execution.context c (this_is c (Some execution.context) e) in
        own_execution plant l bound sure execution before after next there (laps_of plant.image l c earlier)
        (stays.holds c execution.before (subst (IsContext plant.system) who there) (ap (standing_of plant.system before) (sym who) ∙ step.stands))

    laps_are : (c : Context) (b : Bool) → same_context c execution.context ≡ b → laps_of plant.image l c (Execute execution ∷ earlier)
        ≡ cond b (turned l (turn_at (insn_at plant.image) execution.before.place) execution (laps_of plant.image l c earlier)) (laps_of plant.image l c earlier)
    laps_are c b e = ap (λ t. cond t (turned l (turn_at (insn_at plant.image) execution.before.place) execution (laps_of plant.image l c earlier))
        (laps_of plant.image l c earlier)) e

    most : (c : Context) (b : Bool) → same_context c execution.context ≡ b → AtMost bound (laps_of plant.image l c (Execute execution ∷ earlier))
    most c true e = subst (AtMost bound) (sym (laps_are c true e)) (own c e).most
    most c false e = subst (AtMost bound) (sym (laps_are c false e)) (stays.most c)

    holds : (c : Context) (standing : Standing) → IsContext plant.system c → standing_of plant.system after c ≡ Some standing
        → (b : Bool) → same_context c execution.context ≡ b → Holds sure standing (laps_of plant.image l c (Execute execution ∷ earlier))
    holds c standing exists at true e =
        let who : execution.context ≡ c = same_Some execution.context c (this_is c (Some execution.context) e) in
        let same : Some execution.after ≡ Some standing =
        sym (placed_here plant.system execution.context (Some execution.after) before.standings there next.room.positions.count)
        ∙ (ap (position_of plant.system (placed plant.system execution.context (Some execution.after) before.standings)) who
        ∙ (ap (λ (s : MachineState). standing_of plant.system s c) (sym step.becomes) ∙ at)) in
        subst (λ s. Holds sure s (laps_of plant.image l c (Execute execution ∷ earlier))) (same_Some execution.after standing same)
        (subst (Holds sure execution.after) (sym (laps_are c true e)) (own c e))
    holds c standing exists at false e = subst (Holds sure standing) (sym (laps_are c false e))
        (stays.holds c standing exists (sym (placed_other plant.system execution.context c (Some execution.after) before.standings exists there e)
        ∙ (ap (λ (s : MachineState). standing_of plant.system s c) (sym step.becomes) ∙ at)))

-- ---- A service is called

-- what a service leaves of a caller
caller_at : (ended : Option Context) (next standing : Standing) → cond (is_some ended) None (Some next) ≡ Some standing → (ended ≡ None) × (next ≡ standing)
caller_at None next standing e = (refl, same_Some next standing e)
caller_at (Some d) next standing e = absurd (none-some standing e)

code_below : (code : Code) → code_number code < 2 ^ 32
code_below Done = omega arith
code_below Access = omega arith
code_below CallLevel = omega arith
code_below Limit = omega arith
code_below NoFunction = omega arith
code_below Resource = omega arith
code_below State = omega arith

-- where the caller stands that goes on
abbrev next_of : PlantData → ServiceCall → MachineState → Standing
next_of plant call before = gone_on (served_by plant.system call before).reply.code call.before

-- how a caller goes on: along an edge, with registers
record GoesBehind (plant : PlantData) (call : ServiceCall) (before : MachineState) : Type 0 where
  along : IsAlong plant.flow call.before (next_of plant call before)
  registers : AreRegisters (next_of plant call before).registers

goes_behind : (plant : PlantData) (call : ServiceCall) (before after : MachineState) → IsNext plant (Serve call) before after
    → IsContext plant.system call.caller → call.reply.ended ≡ None → GoesBehind plant call before
unfolding EcallsServe ServicesGoOn
goes_behind plant call before after next exists stays =
    let step : Serves plant.image plant.system call before after = next.step in
    let at = at_node plant next.belongs call.caller call.before (next.walking.walks call.caller call.before exists step.stands) in
    let are : AreRegisters call.before.registers = at.stands.fits.registers_fit in
    let code = (served_by plant.system call before).reply.code in
    let registers : AreRegisters (next_of plant call before).registers =
    with_value_keeps call.before.registers 10 (code_number code) are (omega arith) (code_below code) in
    let serves = ecalls_serve (program_in plant) at.node call.before at.faultless at.stands step.fetched in
    let clean : (served_by plant.system call before).reply.misuse ≡ false = ap (λ (r : Reply). r.misuse) (sym step.replied) ∙ next.clean in
    let on : (served_by plant.system call before).reply.ended ≡ None = ap (λ (r : Reply). r.ended) (sym step.replied) ∙ stays in
    let goes : ends_by (number_in call.before) ≡ false =
    ending.goes_on plant.system before.kernel call.caller call.service (number_in call.before) (argument_in call.before) step.service clean on in
    let ecall : insn_at plant.image at.node.address ≡ Some Ecall = ap (insn_at plant.image) (sym at.stands.place_is) ∙ step.fetched in
    let behind = services_go_on (program_in plant) at.node serves.service (next_of plant call before).registers at.faultless ecall
    (ap (service_at (insn_at plant.image)) (sym at.stands.place_is) ∙ serves.stands) (ap ends_by (sym serves.number_is) ∙ goes) registers in
    record {
      along = record {
        source = at.node;
        target = next_node at.node;
        kind = behind.leads.edge.kind;
        edge = edge_there plant next.belongs at.number at.node behind.leads.number behind.leads.edge (next_node at.node) at.listed behind.leads.leaves
            behind.leads.arrives;
        from = at.stands.place_is;
        to = ap following at.stands.place_is;
      };
      registers = registers;
    }

serve_stays : (plant : PlantData) (l : Loop) (bound : ℕ) (sure : IsSure (insn_at plant.image) (entries_of plant.image plant.system) plant.flow l bound)
    (call : ServiceCall) (earlier : List Event) (before after : MachineState) → IsNext plant (Serve call) before after
    → Stays plant l bound sure earlier before → Stays plant l bound sure (Serve call ∷ earlier) after
serve_stays plant l bound sure call earlier before after next stays = record {
  most = λ c. most c (is_this c (started_by (Serve call))) refl;
  holds = λ c standing exists at. holds c standing exists (stands c standing at) (is_this c (started_by (Serve call))) refl;
}
  where
    step : Serves plant.image plant.system call before after
    step = next.step

    there : IsContext plant.system call.caller
    there = running_exists plant.system before call.caller next.room step.running

    entry : Context → Option Standing
    entry = at_entry plant.image plant.system call.registers

    who : Option Context
    who = option_map contexts.Task call.reply.activated

    gone : Option Standing
    gone = cond (is_some call.reply.ended) None (Some (next_of plant call before))

    stands : (c : Context) (standing : Standing) → standing_of plant.system after c ≡ Some standing
        → position_of plant.system (started plant.system entry who (placed plant.system call.caller gone before.standings)) c ≡ Some standing
    stands c standing at =
        ap (λ (r : Reply). position_of plant.system (answered plant.system entry call.caller (Some (next_of plant call before)) r before.standings) c) step.replied
        ∙ (ap (λ (s : MachineState). standing_of plant.system s c) (sym step.becomes) ∙ at)

    exist : (d : Context) → who ≡ Some d → IsContext plant.system d
    exist d e = by call.reply.activated (λ t h. served_exists plant.system before.kernel call.caller call.service (argument_in call.before) step.argument t
        (ap (λ (r : Reply). r.activated) (sym step.replied) ∙ h)) e
      where
        by : (o : Option ℕ) → ((t : ℕ) → o ≡ Some t → t < length plant.system.tasks) → option_map contexts.Task o ≡ Some d → IsContext plant.system d
        by None there h = absurd (none-some d h)
        by (Some t) there h = subst (IsContext plant.system) (same_Some (contexts.Task t) d h) (there t refl)

    moved : Context → List ℕ
    moved c = moved_on l call.before.place (following call.before.place) (laps_of plant.image l c earlier)

    -- the caller's laps, where it goes on
    behind : (c : Context) → call.reply.ended ≡ None → Holds sure (next_of plant call before) (moved c)
    behind c on =
        let goes = goes_behind plant call before after next there on in
        served_holds sure call.before (next_of plant call before) step.fetched
        (aligned_at plant.image call.before.place Ecall next.belongs.image step.fetched) goes.along goes.registers (laps_of plant.image l c earlier) (stays.most c)

    laps_own : (c : Context) → is_this c (started_by (Serve call)) ≡ false → (own : Bool) → same_context c call.caller ≡ own → (on : Bool) → is_none call.reply.ended ≡ on
        → laps_of plant.image l c (Serve call ∷ earlier) ≡ cond (own && on) (moved c) (laps_of plant.image l c earlier)
    laps_own c e own f on g = laps_old plant l c (Serve call) earlier e
        ∙ (ap (λ t. cond (t && is_none call.reply.ended) (moved c) (laps_of plant.image l c earlier)) f
        ∙ ap (λ t. cond (own && t) (moved c) (laps_of plant.image l c earlier)) g)

    none_is : (o : Option Context) → is_none o ≡ true → o ≡ None
    none_is None h = refl
    none_is (Some d) h = absurd cc

    most_old : (c : Context) → is_this c (started_by (Serve call)) ≡ false → (own : Bool) → same_context c call.caller ≡ own → (on : Bool) → is_none call.reply.ended ≡ on
        → AtMost bound (laps_of plant.image l c (Serve call ∷ earlier))
    most_old c e true f true g = subst (AtMost bound) (sym (laps_own c e true f true g)) (behind c (none_is call.reply.ended g)).most
    most_old c e true f false g = subst (AtMost bound) (sym (laps_own c e true f false g)) (stays.most c)
    most_old c e false f on g = subst (AtMost bound) (sym (laps_own c e false f on g)) (stays.most c)

    most : (c : Context) (b : Bool) → is_this c (started_by (Serve call)) ≡ b → AtMost bound (laps_of plant.image l c (Serve call ∷ earlier))
    most c true e = subst (AtMost bound) (sym (laps_new plant l c (Serve call) earlier e)) (omega arith, tt)
    most c false e = most_old c e (same_context c call.caller) refl (is_none call.reply.ended) refl

    holds_old : (c : Context) (standing : Standing) → IsContext plant.system c
        → position_of plant.system (placed plant.system call.caller gone before.standings) c ≡ Some standing
        → is_this c (started_by (Serve call)) ≡ false → (own : Bool) → same_context c call.caller ≡ own → Holds sure standing (laps_of plant.image l c (Serve call ∷ earlier))
    holds_old c standing exists at e true f =
        let same : call.caller ≡ c = same_Some call.caller c (this_is c (Some call.caller) f) in
        let goes = caller_at call.reply.ended (next_of plant call before) standing
        (sym (placed_here plant.system call.caller gone before.standings there next.room.positions.count)
        ∙ (ap (position_of plant.system (placed plant.system call.caller gone before.standings)) same ∙ at)) in
        subst (λ s. Holds sure s (laps_of plant.image l c (Serve call ∷ earlier))) goes.1
        (subst (Holds sure (next_of plant call before)) (sym (laps_own c e true f true (ap is_none goes.0))) (behind c goes.0))
    holds_old c standing exists at e false f =
        subst (Holds sure standing) (sym (laps_own c e false f (is_none call.reply.ended) refl))
        (stays.holds c standing exists (sym (placed_other plant.system call.caller c gone before.standings exists there f) ∙ at))

    holds : (c : Context) (standing : Standing) → IsContext plant.system c
        → position_of plant.system (started plant.system entry who (placed plant.system call.caller gone before.standings)) c ≡ Some standing
        → (b : Bool) → is_this c (started_by (Serve call)) ≡ b → Holds sure standing (laps_of plant.image l c (Serve call ∷ earlier))
    holds c standing exists at true e = subst (Holds sure standing) (sym (laps_new plant l c (Serve call) earlier e))
        (entry_holds plant l bound sure c call.registers standing exists step.registers
        (sym (started_here plant.system entry who c (placed plant.system call.caller gone before.standings) exists
        (placed_count plant.system call.caller gone before.standings ∙ next.room.positions.count) e) ∙ at))
    holds c standing exists at false e = holds_old c standing exists
        (sym (started_other plant.system entry who c (placed plant.system call.caller gone before.standings) exists exist e) ∙ at) e
        (same_context c call.caller) refl

-- ---- Each step, and whole runs

step_stays : (plant : PlantData) (l : Loop) (bound : ℕ) (sure : IsSure (insn_at plant.image) (entries_of plant.image plant.system) plant.flow l bound)
    (event : Event) (earlier : List Event) (before after : MachineState) → IsNext plant event before after
    → Stays plant l bound sure earlier before → Stays plant l bound sure (event ∷ earlier) after
step_stays plant l bound sure (Arrive arrival) earlier before after next stays = record {
  most = stays.most;
  holds = λ c standing exists at. stays.holds c standing exists (ap (λ (s : MachineState). standing_of plant.system s c) (sym next.step.becomes) ∙ at);
}
step_stays plant l bound sure (Take taking) earlier before after next stays = take_stays plant l bound sure taking earlier before after next stays
step_stays plant l bound sure (Execute execution) earlier before after next stays = execute_stays plant l bound sure execution earlier before after next stays
step_stays plant l bound sure (Serve call) earlier before after next stays = serve_stays plant l bound sure call earlier before after next stays
step_stays plant l bound sure (Idle cycles) earlier before after next stays = record {
  most = stays.most;
  holds = λ c standing exists at. stays.holds c standing exists (ap (λ (s : MachineState). standing_of plant.system s c) (sym next.step.becomes) ∙ at);
}

run_stays : (plant : PlantData) (l : Loop) (bound : ℕ) (sure : IsSure (insn_at plant.image) (entries_of plant.image plant.system) plant.flow l bound)
    (mode : ℕ) (events : List Event) (state : MachineState) → IsPlant plant → IsRun plant.image plant.system mode events state
    → PairsReturns plant.image events → MisusesNothing events → Stays plant l bound sure events state
run_stays plant l bound sure mode [] state belongs run pairs clean = at_start plant l bound sure mode state run
run_stays plant l bound sure mode (event ∷ earlier) state belongs run pairs clean =
    let have = have_graph plant belongs in
    step_stays plant l bound sure event earlier run.0 state (record {
      belongs = belongs;
      room = runs_keep_room plant.image plant.system mode earlier run.0 have.system_lawful have.entries run.1;
      walking = runs_walk plant.image plant.system plant.timing mode earlier run.0 have run.1 pairs.1 clean.1;
      step = run.2;
      pairs = pairs.0;
      clean = clean.0;
    }) (run_stays plant l bound sure mode earlier run.0 belongs run.1 pairs.1 clean.1)

pub loop_goes_round : (plant : PlantData) (l : Loop) (bound mode : ℕ) (events : List Event) (state : MachineState) (context : Context)
    → IsPlant plant → IsLoop l → IsCounted (insn_at plant.image) (entries_of plant.image plant.system) plant.flow l bound
    → IsRun plant.image plant.system mode events state → PairsReturns plant.image events → MisusesNothing events
    → AtMost bound (laps_of plant.image l context events)
loop_goes_round plant l bound mode events state context belongs declared is run pairs clean =
    (run_stays plant l bound (sure_of plant l bound belongs declared is) mode events state belongs run pairs clean).most context

pub go_round_at_most : GoRoundAtMost
go_round_at_most plant l bound mode events state context belongs declared is run pairs clean =
    loop_goes_round plant l bound mode events state context belongs (All-contains IsLoop plant.timing.loops l belongs.timing.loops.each declared) is run pairs clean
