-- Services and taken sources keep what is counted of a loop.
use Rattle.std.proofs.Common.{◌≡◌, ◌≢◌, ℕ, ◌+◌, ◌≤◌, Bool, true, false, cond, List, [], ◌∷◌, ◌++◌, length, Option, Some, None, refl, sym, ◌∙◌, ap, subst, arith}
use Rattle.std.specs.Prelude.{◌==◌, ◌&&◌, not, is_some, is_none, slice_get, sum_by, option_and_then, option_map, option_to_list}
use Rattle.std.specs.Option.{option_map_or}
use Rattle.std.proofs.lemmas.Bool.{eq-eqb}
use Rattle.std.proofs.lemmas.Option.{same_Some, slice_get_within}
use Rattle.rv32_machine.specs.ContextStep.{Standing}
use Rattle.rv32_machine.specs.Execution.{following}
use Rattle.timing_file.specs.declared.timing.Loop.{Loop}
use Rattle.osek_kernel.specs.declared.context.Context.{Context}
use Rattle.osek_kernel.specs.declared.context.Context.TheVariants as contexts
use Rattle.osek_kernel.specs.declared.kernel.Reply.{Reply}
use Rattle.osek_kernel.specs.Contexts.{IsContext, context_count}
use Rattle.osek_kernel.specs.Positions.{position_of, placed, started, answered}
use Rattle.osek_machine.specs.State.{MachineState, standing_of, at_entry}
use Rattle.osek_machine.specs.Events.{Taking, ServiceCall, Event, Take, Serve, started_by}
use Rattle.osek_machine.specs.Loops.{is_this, laps_of, laps_with, moved_on, same_context}
use Rattle.osek_machine.specs.Steps.{Takes, Serves, gone_on, served_by}
use Rattle.osek_machine.proofs.Kept.{running_exists}
use Rattle.osek_machine.proofs.Placing.{placed_here, placed_count}
use Rattle.flow_graph.specs.declared.node.Node.{Node}
use Rattle.wcet_atomic_blocks.specs.declared.block.Block.{Block}
use Rattle.wcet_atomic_blocks.specs.Blocks.{successor}
use Rattle.wcet_atomic_blocks.specs.Loops.{block_enters, begins_outside, enters, in_range, is_inside}
use Rattle.wcet_atomic_blocks.specs.PlantLaws.{BeginsBehind, AftersBegin, ServicesHaveBlocks}
use Rattle.wcet_atomic_blocks.specs.Plants.{PlantData, IsPlant}
use Rattle.wcet_atomic_blocks.proofs.PlantFacts.{afters_begin, services_have_blocks}
use Rattle.abstract_sched.specs.declared.states.AbsState.{AbsState}
use Rattle.scheduler_moves.specs.declared.moves.MoveLabel.TheVariants as labels
use Rattle.scheduler_moves.specs.Moves.{block_behind}
use Rattle.row_build.specs.Columns.{Column, Begins}
use Rattle.row_build.specs.Families.{is_listed}
use Rattle.shadow_runs.specs.Shadow.{node_of}
use Rattle.shadow_runs.proofs.Begun.{who_exists}
use Rattle.shadow_runs.proofs.Planted.{there_is}
use Rattle.activation_windows.specs.Windows.{behind, call_label, entered, going_by, used_by, waiting_after}
use Rattle.activation_windows.proofs.AtNodes.{at_node_of}
use Rattle.activation_windows.proofs.Beyond.{beyond, is_string}
use Rattle.activation_windows.proofs.Circling.{Circles, circles_fresh, circles_gone, circles_round}
use Rattle.activation_windows.proofs.Induction.{IsLater, covers_of, step_of, this_is}
use Rattle.activation_windows.proofs.Instances.{number_listed}
use Rattle.activation_windows.proofs.Laps.{activated_there, gone_standings, has_laps, laps_old, placed_other, started_here, started_other}
use Rattle.activation_windows.proofs.Lasting.{asks_in}
use Rattle.activation_windows.proofs.Nodes.{goes_to_successor}
use Rattle.activation_windows.proofs.OwnVisits.{backs_count, entries_count}
use Rattle.activation_windows.proofs.Rounds.{GoesRound, inside_where, laps_at, local_round, string_some}
use Rattle.activation_windows.proofs.RoundEdges.{few_laps}
use Rattle.activation_windows.proofs.RoundSteps.{IsInstance, its, Rounds, circles_as, moves_count_nothing, start_rounds, unused}
use Rattle.activation_windows.proofs.Sums.{one, sum_option}

-- ---- A source is taken

pub take_rounds : (plant : PlantData) (states : List AbsState) (task mode : ℕ) (head : Node) (declared : ℕ) (l : Loop) (own : Context) (taking : Taking)
    (earlier : List Event) (before after : MachineState) (uses : List Column) (waiting : List (Option Column))
    → IsInstance plant head declared l own → IsLater plant states task mode (Take taking) earlier before after
    → length waiting ≡ context_count plant.system
    → Rounds plant head declared l own earlier before uses waiting → (starts : Bool) → is_this own taking.started ≡ starts
    → Rounds plant head declared l own (Take taking ∷ earlier) after
    (option_to_list (used_by plant mode (Take taking) earlier) ++ uses) (waiting_after plant (Take taking) waiting)
take_rounds plant states task mode head declared l own taking earlier before after uses waiting is later count rounds true starts =
    let step : Takes plant.image plant.system taking before after = later.step in
    let all = covers_of plant states task mode earlier before later.case in
    let instance = its plant head declared l in
    let nothing = moves_count_nothing instance (λ label. going_by plant mode label (Take taking) earlier) (Some (labels.Take taking.source)) in
    let entry = at_entry plant.image plant.system taking.registers in
    let stands : standing_of plant.system after own ≡ entry own =
    ap (λ (s : MachineState). standing_of plant.system s own) step.becomes
    ∙ (ap (λ (w : Option Context). position_of plant.system (started plant.system entry w before.standings) own) (sym step.started)
    ∙ started_here plant.system entry taking.started own before.standings is.exists all.room.positions.count starts) in
    circles_as l head.sites l.bound _ _ _ _ _ _ _ _ _ _
    (unused (backs_count instance) (used_by plant mode (Take taking) earlier) uses nothing.0)
    (unused (entries_count instance) (used_by plant mode (Take taking) earlier) uses nothing.1) refl (sym stands)
    (ap (sum_option (entries_count instance)) (sym (started_here plant.system (entered plant) taking.started own waiting is.exists count starts)))
    (start_rounds plant later.case.of.belongs head declared l own is taking.registers _ _ (laps_of plant.image l own (Take taking ∷ earlier)) rounds.most)
take_rounds plant states task mode head declared l own taking earlier before after uses waiting is later count rounds false starts =
    let step : Takes plant.image plant.system taking before after = later.step in
    let all = covers_of plant states task mode earlier before later.case in
    let instance = its plant head declared l in
    let nothing = moves_count_nothing instance (λ label. going_by plant mode label (Take taking) earlier) (Some (labels.Take taking.source)) in
    let entry = at_entry plant.image plant.system taking.registers in
    let exist = (λ (d : Context) (e : taking.started ≡ Some d).
    who_exists plant later.case.of.belongs taking before after all.room step d (sym step.started ∙ e)) in
    let stands : standing_of plant.system after own ≡ standing_of plant.system before own =
    ap (λ (s : MachineState). standing_of plant.system s own) step.becomes
    ∙ (ap (λ (w : Option Context). position_of plant.system (started plant.system entry w before.standings) own) (sym step.started)
    ∙ started_other plant.system entry taking.started own before.standings is.exists exist starts) in
    circles_as l head.sites l.bound _ _ _ _ _ _ _ _ _ _
    (unused (backs_count instance) (used_by plant mode (Take taking) earlier) uses nothing.0)
    (unused (entries_count instance) (used_by plant mode (Take taking) earlier) uses nothing.1)
    (sym (laps_old plant l own (Take taking) earlier starts)) (sym stands)
    (ap (sum_option (entries_count instance)) (sym (started_other plant.system (entered plant) taking.started own waiting is.exists exist starts)))
    rounds

-- ---- The block behind a service

some_block : (after : Option ℕ) → after ≢ None → (block : ℕ) × (after ≡ Some block)
some_block (Some block) some = (block, refl)
some_block None some = absurd (some refl)

-- the block that begins behind the node
pub record Behind (plant : PlantData) (node target : ℕ) : Type 0 where
  pub number : ℕ
  pub found : block_behind plant node ≡ Some number
  pub block : Block
  pub there : slice_get plant.blocks.blocks number ≡ Some block
  pub after : block.begin.after ≡ Some node
  pub first : block.begin.first ≡ target

behind_node : (plant : PlantData) → IsPlant plant → (node target : ℕ) → successor plant.flow node ≡ Some target → Behind plant node target
unfolding ServicesHaveBlocks AftersBegin
behind_node plant is node target goes =
    let after = there_is (slice_get plant.blocks.afters node) (λ after. after ≢ None) (services_have_blocks plant is node target goes) in
    let block = some_block after.item after.holds in
    let there : slice_get plant.blocks.afters node ≡ Some (Some block.0) = after.there ∙ ap Some block.1 in
    let begins = there_is (slice_get plant.blocks.blocks block.0) (BeginsBehind plant node) (afters_begin plant is node block.0 there) in
    record {
      number = block.0;
      found = ap (option_and_then (λ (behind : Option ℕ). behind)) there;
      block = begins.item;
      there = begins.there;
      after = begins.holds.after;
      first = same_Some begins.item.begin.first target (sym begins.holds.first ∙ goes);
    }

-- whether its visit counts
visit_counts : (plant : PlantData) (head : Node) (declared : ℕ) (l : Loop) (call : ServiceCall) (node target : ℕ) (source next : Node)
    → (behind_it : Behind plant node target) → option_and_then (block_behind plant) (node_of plant call.caller call.before) ≡ block_behind plant node
    → slice_get plant.flow.nodes node ≡ Some source → slice_get plant.flow.nodes target ≡ Some next
    → (is_inside head l next && not (in_range l source.address)) ≡ true
    → sum_option (entries_count (its plant head declared l)) (behind plant call) ≡ 1
visit_counts plant head declared l call node target source next behind_it at source_is next_is passes =
    let enters_it : block_enters plant.flow plant.blocks.blocks head l behind_it.number ≡ true =
    ap (λ (o : Option Block). option_map_or (λ b. enters plant.flow head l b.begin) o false) behind_it.there
    ∙ (ap (λ (o : Option Node). option_map_or (is_inside head l) o false && begins_outside plant.flow l behind_it.block.begin.after)
    (ap (slice_get plant.flow.nodes) behind_it.first ∙ next_is)
    ∙ (ap (λ (o : Option ℕ). is_inside head l next && begins_outside plant.flow l o) behind_it.after
    ∙ (ap (λ (o : Option Node). is_inside head l next && option_map_or (λ (n : Node). not (in_range l n.address)) o false) source_is ∙ passes))) in
    let listed : is_listed (its plant head declared l).blocks behind_it.number ≡ true =
    number_listed (block_enters plant.flow plant.blocks.blocks head l) (length plant.blocks.blocks) behind_it.number
    (slice_get_within plant.blocks.blocks behind_it.number behind_it.block behind_it.there) enters_it in
    ap (λ (o : Option ℕ). sum_option (entries_count (its plant head declared l)) (option_map Begins o)) (at ∙ behind_it.found)
    ∙ (let counts = ap one listed in omega arith)

-- ---- The loop's own context calls a service and goes on

goes_on_by : (plant : PlantData) (states : List AbsState) (task mode : ℕ) (head : Node) (declared : ℕ) (l : Loop) (own : Context) (call : ServiceCall)
    (earlier : List Event) (before after : MachineState) (backs entries : ℕ) (next : Standing) (source target : Node) (visit : ℕ)
    → IsInstance plant head declared l own → IsLater plant states task mode (Serve call) earlier before after
    → next.place ≡ following call.before.place → next.calls ≡ call.before.calls
    → call.before.place ≡ source.address → next.place ≡ target.address → next.calls ≡ target.sites → (head.context == target.context) ≡ true
    → moved_on l call.before.place (following call.before.place) (laps_of plant.image l own earlier) ≡ laps_of plant.image l own (Serve call ∷ earlier)
    → length (laps_of plant.image l own earlier) ≡ length call.before.calls + 1
    → Circles l head.sites l.bound backs entries (laps_of plant.image l own earlier) (Some call.before) 0
    → (enters : Bool) → (is_inside head l target && not (in_range l source.address)) ≡ enters → (enters ≡ true → visit ≡ 1)
    → Circles l head.sites l.bound backs entries (laps_of plant.image l own (Serve call ∷ earlier)) (Some next) visit
goes_on_by plant states task mode head declared l own call earlier before after backs entries next source target visit is later place calls from to sites there
    laps_are count circles true passes counts =
    circles_fresh l head.sites l.bound backs entries _ next visit circles.most
    (λ rest string lies none. absurd (let one_visit = counts refl in omega arith))
goes_on_by plant states task mode head declared l own call earlier before after backs entries next source target visit is later place calls from to sites there
    laps_are count circles false passes counts =
    let laps = laps_of plant.image l own earlier in
    let outside = (λ (string : is_string (beyond head.sites call.before.calls) ≡ true) (far : in_range l call.before.place ≡ false).
    stays_outside string far (in_range l (following call.before.place)) refl) in
    let round = local_round l call.before.place (following call.before.place) (beyond head.sites call.before.calls) laps false (omega arith)
    (λ wrong. absurd (let w : false ≡ true = wrong in cc)) outside in
    circles_as l head.sites l.bound _ _ _ _ _ _ _ _ _ _ (omega arith) refl laps_are refl refl
    (circles_round l head.sites l.bound backs entries laps (moved_on l call.before.place (following call.before.place) laps) call.before next false visit
    (round_to round) (λ rest. subst (λ (ns : List ℕ). laps_at ns rest ≤ l.bound) (sym laps_are)
    (few_laps plant states task mode head declared l own (Serve call) earlier before after is later rest)) circles)
  where
    stays_outside : is_string (beyond head.sites call.before.calls) ≡ true → in_range l call.before.place ≡ false
        → (inside : Bool) → in_range l (following call.before.place) ≡ inside → inside ≡ false
    stays_outside string far false e = refl
    stays_outside string far true e =
        let at : beyond head.sites target.sites ≡ Some [] = ap (beyond head.sites) (sym sites ∙ calls)
        ∙ string_some (beyond head.sites call.before.calls) string in
        let inside : is_inside head l target ≡ true = inside_where head l target there at (ap (in_range l) (sym to ∙ place) ∙ e) in
        let wrong : true ≡ false = sym (ap (λ b. b && not (in_range l source.address)) inside
        ∙ ap not (ap (in_range l) (sym from) ∙ far)) ∙ passes in
        absurd cc

    round_to : GoesRound l call.before.place (following call.before.place) (beyond head.sites call.before.calls) (beyond head.sites call.before.calls)
        (laps_of plant.image l own earlier) (moved_on l call.before.place (following call.before.place) (laps_of plant.image l own earlier)) false
        → GoesRound l call.before.place next.place (beyond head.sites call.before.calls) (beyond head.sites next.calls)
        (laps_of plant.image l own earlier) (moved_on l call.before.place (following call.before.place) (laps_of plant.image l own earlier)) false
    round_to round =
        subst (λ (n : ℕ). GoesRound l call.before.place n (beyond head.sites call.before.calls) (beyond head.sites next.calls)
        (laps_of plant.image l own earlier) (moved_on l call.before.place (following call.before.place) (laps_of plant.image l own earlier)) false) (sym place)
        (subst (λ (cs : List ℕ). GoesRound l call.before.place (following call.before.place) (beyond head.sites call.before.calls) (beyond head.sites cs)
        (laps_of plant.image l own earlier) (moved_on l call.before.place (following call.before.place) (laps_of plant.image l own earlier)) false)
        (sym calls) round)

goes_on_rounds : (plant : PlantData) (states : List AbsState) (task mode : ℕ) (head : Node) (declared : ℕ) (l : Loop) (own : Context) (call : ServiceCall)
    (earlier : List Event) (before after : MachineState) (backs entries : ℕ)
    → IsInstance plant head declared l own → IsLater plant states task mode (Serve call) earlier before after
    → call.caller ≡ own → call.reply.ended ≡ None
    → moved_on l call.before.place (following call.before.place) (laps_of plant.image l own earlier) ≡ laps_of plant.image l own (Serve call ∷ earlier)
    → standing_of plant.system after own ≡ Some (gone_on (served_by plant.system call before).reply.code call.before)
    → Circles l head.sites l.bound backs entries (laps_of plant.image l own earlier) (Some call.before) 0
    → Circles l head.sites l.bound backs entries (laps_of plant.image l own (Serve call ∷ earlier))
    (Some (gone_on (served_by plant.system call before).reply.code call.before)) (sum_option (entries_count (its plant head declared l)) (behind plant call))
goes_on_rounds plant states task mode head declared l own call earlier before after backs entries is later who goes laps_are stands circles =
    let step : Serves plant.image plant.system call before after = later.step in
    let next = gone_on (served_by plant.system call before).reply.code call.before in
    let asks = asks_in plant states task mode call earlier before after later in
    let clean : (served_by plant.system call before).reply.misuse ≡ false =
    ap (λ (r : Reply). r.misuse) (sym step.replied) ∙ (step_of plant states task mode (Serve call) earlier before after later).1 in
    let stays : (served_by plant.system call before).reply.ended ≡ None = ap (λ (r : Reply). r.ended) (sym step.replied) ∙ goes in
    let to = goes_to_successor plant later.case.of.belongs call before after step asks clean stays in
    let behind_it = behind_node plant later.case.of.belongs asks.at.number to.0 to.1 in
    let at = at_node_of plant states task mode (Serve call ∷ earlier) after own next later.whole is.exists stands in
    let same : at.number ≡ to.0 = same_Some at.number to.0 (sym at.found ∙ (ap (λ (c : Context). node_of plant c next) (sym who) ∙ to.2)) in
    let context : (head.context == at.node.context) ≡ true = eq-eqb head.context at.node.context (is.place ∙ sym at.context_is) in
    goes_on_by plant states task mode head declared l own call earlier before after backs entries next asks.at.node at.node
    (sum_option (entries_count (its plant head declared l)) (behind plant call)) is later refl refl asks.at.stands.place_is at.stands.place_is
    at.stands.calls_are context laps_are
    (has_laps plant states task mode l earlier before later.case own call.before is.exists (ap (standing_of plant.system before) (sym who) ∙ step.stands))
    circles (is_inside head l at.node && not (in_range l asks.at.node.address)) refl
    (visit_counts plant head declared l call asks.at.number to.0 asks.at.node at.node behind_it (ap (option_and_then (block_behind plant)) asks.at.found)
    asks.at.listed (ap (slice_get plant.flow.nodes) (sym same) ∙ at.listed))

-- ---- Any service

serve_after : (plant : PlantData) (states : List AbsState) (task mode : ℕ) (call : ServiceCall) (earlier : List Event) (before after : MachineState)
    → IsLater plant states task mode (Serve call) earlier before after → (c : Context)
    → standing_of plant.system after c ≡ position_of plant.system
    (started plant.system (at_entry plant.image plant.system call.registers) (option_map contexts.Task call.reply.activated)
    (gone_standings plant call before)) c
serve_after plant states task mode call earlier before after later c =
    let step : Serves plant.image plant.system call before after = later.step in
    ap (λ (s : MachineState). standing_of plant.system s c) step.becomes
    ∙ ap (λ (r : Reply). position_of plant.system (answered plant.system (at_entry plant.image plant.system call.registers) call.caller
    (Some (gone_on (served_by plant.system call before).reply.code call.before)) r before.standings) c) (sym step.replied)

-- the visits when the caller has gone on or ended, before a task starts
abbrev gone_waiting : PlantData → ServiceCall → List (Option Column) → List (Option Column)
gone_waiting plant call waiting = placed plant.system call.caller (cond (is_some call.reply.ended) None (behind plant call)) waiting

-- the loop's own context calls, and isn't started anew
own_serves : (plant : PlantData) (states : List AbsState) (task mode : ℕ) (head : Node) (declared : ℕ) (l : Loop) (own : Context) (call : ServiceCall)
    (earlier : List Event) (before after : MachineState) (backs entries : ℕ)
    → IsInstance plant head declared l own → IsLater plant states task mode (Serve call) earlier before after
    → call.caller ≡ own → same_context own call.caller ≡ true
    → laps_with plant.image l own (Serve call) (laps_of plant.image l own earlier) ≡ laps_of plant.image l own (Serve call ∷ earlier)
    → (ended : Option Context) → call.reply.ended ≡ ended
    → standing_of plant.system after own ≡ cond (is_some ended) None (Some (gone_on (served_by plant.system call before).reply.code call.before))
    → Circles l head.sites l.bound backs entries (laps_of plant.image l own earlier) (Some call.before) 0
    → Circles l head.sites l.bound backs entries (laps_of plant.image l own (Serve call ∷ earlier))
    (cond (is_some ended) None (Some (gone_on (served_by plant.system call before).reply.code call.before)))
    (sum_option (entries_count (its plant head declared l)) (cond (is_some ended) None (behind plant call)))
own_serves plant states task mode head declared l own call earlier before after backs entries is later who mine laps_are (Some d) ended stands circles =
    circles_gone l head.sites l.bound backs entries _ _ circles.most
own_serves plant states task mode head declared l own call earlier before after backs entries is later who mine laps_are None ended stands circles =
    let laps = laps_of plant.image l own earlier in
    let moved = moved_on l call.before.place (following call.before.place) laps in
    goes_on_rounds plant states task mode head declared l own call earlier before after backs entries is later who ended
    (sym (ap (λ b. cond (b && is_none call.reply.ended) moved laps) mine
    ∙ ap (λ (o : Option Context). cond (is_none o) moved laps) ended) ∙ laps_are) stands circles

pub serve_rounds : (plant : PlantData) (states : List AbsState) (task mode : ℕ) (head : Node) (declared : ℕ) (l : Loop) (own : Context) (call : ServiceCall)
    (earlier : List Event) (before after : MachineState) (uses : List Column) (waiting : List (Option Column))
    → IsInstance plant head declared l own → IsLater plant states task mode (Serve call) earlier before after
    → length waiting ≡ context_count plant.system → position_of plant.system waiting call.caller ≡ None
    → Rounds plant head declared l own earlier before uses waiting → (starts : Bool) → is_this own (started_by (Serve call)) ≡ starts
    → (mine : Bool) → same_context own call.caller ≡ mine
    → Rounds plant head declared l own (Serve call ∷ earlier) after
    (option_to_list (used_by plant mode (Serve call) earlier) ++ uses) (waiting_after plant (Serve call) waiting)
serve_rounds plant states task mode head declared l own call earlier before after uses waiting is later count ran rounds true starts mine same =
    let all = covers_of plant states task mode earlier before later.case in
    let instance = its plant head declared l in
    let nothing = moves_count_nothing instance (λ label. going_by plant mode label (Serve call) earlier) (call_label plant call) in
    let stands : standing_of plant.system after own ≡ at_entry plant.image plant.system call.registers own =
    serve_after plant states task mode call earlier before after later own
    ∙ started_here plant.system (at_entry plant.image plant.system call.registers) (option_map contexts.Task call.reply.activated) own
    (gone_standings plant call before) is.exists (placed_count plant.system call.caller _ before.standings ∙ all.room.positions.count) starts in
    circles_as l head.sites l.bound _ _ _ _ _ _ _ _ _ _
    (unused (backs_count instance) (used_by plant mode (Serve call) earlier) uses nothing.0)
    (unused (entries_count instance) (used_by plant mode (Serve call) earlier) uses nothing.1) refl (sym stands)
    (ap (sum_option (entries_count instance)) (sym (started_here plant.system (entered plant) (option_map contexts.Task call.reply.activated) own
    (gone_waiting plant call waiting) is.exists (placed_count plant.system call.caller _ waiting ∙ count) starts)))
    (start_rounds plant later.case.of.belongs head declared l own is call.registers _ _ (laps_of plant.image l own (Serve call ∷ earlier)) rounds.most)
serve_rounds plant states task mode head declared l own call earlier before after uses waiting is later count ran rounds false starts true same =
    let step : Serves plant.image plant.system call before after = later.step in
    let all = covers_of plant states task mode earlier before later.case in
    let instance = its plant head declared l in
    let nothing = moves_count_nothing instance (λ label. going_by plant mode label (Serve call) earlier) (call_label plant call) in
    let who : call.caller ≡ own = same_Some call.caller own (this_is own (Some call.caller) same) in
    let there : IsContext plant.system call.caller = running_exists plant.system before call.caller all.room step.running in
    let next = Some (gone_on (served_by plant.system call before).reply.code call.before) in
    let stands : standing_of plant.system after own ≡ cond (is_some call.reply.ended) None next =
    serve_after plant states task mode call earlier before after later own
    ∙ (started_other plant.system (at_entry plant.image plant.system call.registers) (option_map contexts.Task call.reply.activated) own
    (gone_standings plant call before) is.exists (activated_there plant states task mode call earlier before after later) starts
    ∙ (ap (position_of plant.system (gone_standings plant call before)) (sym who)
    ∙ placed_here plant.system call.caller (cond (is_some call.reply.ended) None next) before.standings there all.room.positions.count)) in
    let waits : position_of plant.system (waiting_after plant (Serve call) waiting) own ≡ cond (is_some call.reply.ended) None (behind plant call) =
    started_other plant.system (entered plant) (option_map contexts.Task call.reply.activated) own (gone_waiting plant call waiting) is.exists
    (activated_there plant states task mode call earlier before after later) starts
    ∙ (ap (position_of plant.system (gone_waiting plant call waiting)) (sym who)
    ∙ placed_here plant.system call.caller (cond (is_some call.reply.ended) None (behind plant call)) waiting there count) in
    let stood : standing_of plant.system before own ≡ Some call.before = ap (standing_of plant.system before) (sym who) ∙ step.stands in
    let gone : sum_option (entries_count instance) (position_of plant.system waiting own) ≡ 0 =
    ap (sum_option (entries_count instance)) (ap (position_of plant.system waiting) (sym who) ∙ ran) in
    circles_as l head.sites l.bound _ _ _ _ _ _ _ _ _ _
    (unused (backs_count instance) (used_by plant mode (Serve call) earlier) uses nothing.0)
    (unused (entries_count instance) (used_by plant mode (Serve call) earlier) uses nothing.1) refl (sym stands)
    (ap (sum_option (entries_count instance)) (sym waits))
    (own_serves plant states task mode head declared l own call earlier before after (sum_by (backs_count instance) uses)
    (sum_by (entries_count instance) uses) is later who same (sym (laps_old plant l own (Serve call) earlier starts)) call.reply.ended refl stands
    (circles_as l head.sites l.bound _ _ _ _ _ _ _ _ _ _ refl refl refl stood gone rounds))
serve_rounds plant states task mode head declared l own call earlier before after uses waiting is later count ran rounds false starts false same =
    let step : Serves plant.image plant.system call before after = later.step in
    let all = covers_of plant states task mode earlier before later.case in
    let instance = its plant head declared l in
    let nothing = moves_count_nothing instance (λ label. going_by plant mode label (Serve call) earlier) (call_label plant call) in
    let there : IsContext plant.system call.caller = running_exists plant.system before call.caller all.room step.running in
    let laps = laps_of plant.image l own earlier in
    let moved = moved_on l call.before.place (following call.before.place) laps in
    let stands : standing_of plant.system after own ≡ standing_of plant.system before own =
    serve_after plant states task mode call earlier before after later own
    ∙ (started_other plant.system (at_entry plant.image plant.system call.registers) (option_map contexts.Task call.reply.activated) own
    (gone_standings plant call before) is.exists (activated_there plant states task mode call earlier before after later) starts
    ∙ placed_other plant.system call.caller own _ before.standings is.exists there same) in
    let waits : position_of plant.system (waiting_after plant (Serve call) waiting) own ≡ position_of plant.system waiting own =
    started_other plant.system (entered plant) (option_map contexts.Task call.reply.activated) own (gone_waiting plant call waiting) is.exists
    (activated_there plant states task mode call earlier before after later) starts
    ∙ placed_other plant.system call.caller own _ waiting is.exists there same in
    circles_as l head.sites l.bound _ _ _ _ _ _ _ _ _ _
    (unused (backs_count instance) (used_by plant mode (Serve call) earlier) uses nothing.0)
    (unused (entries_count instance) (used_by plant mode (Serve call) earlier) uses nothing.1)
    (sym (laps_old plant l own (Serve call) earlier starts ∙ ap (λ b. cond (b && is_none call.reply.ended) moved laps) same)) (sym stands)
    (ap (sum_option (entries_count instance)) (sym waits)) rounds
