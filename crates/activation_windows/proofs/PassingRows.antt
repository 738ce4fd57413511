-- A node is left at most as often as it is come to.
use Rattle.std.proofs.Common.{◌≡◌, ℕ, ◌+◌, ◌-◌, ◌<◌, ◌≤◌, inl, inr, Bool, true, false, cond, List, [], ◌∷◌, ◌++◌, All, Contains, length, map, Option, Some, None, refl, sym, ◌∙◌, ap, subst, arith, is_some}
use Rattle.std.specs.Prelude.{◌==◌, nat_eq, nat_lt, slice_get, option_map, option_and_then, option_to_list, sum_by, ◌≢◌, ◌+ℤ◌}
use Rattle.std.specs.List.{range_with_len}
use Rattle.std.specs.Option.{option_map_or}
use Rattle.std.proofs.lemmas.Bool.{eqb-true, eq-eqb, ltb-true, ltb-false}
use Rattle.std.proofs.lemmas.List.Elements.{All-nil, All-cons}
use Rattle.std.proofs.lemmas.List.FromFn.{length-range_with_len, get_or-range_with_len}
use Rattle.std.proofs.lemmas.Option.{same_Some, slice_get-get_or}
use Rattle.std.proofs.Math.ListN.{get_or-map}
use Rattle.oil_model.specs.declared.system.System.{System}
use Rattle.osek_kernel.specs.declared.context.Context.{Context}
use Rattle.osek_kernel.specs.declared.context.Context.TheVariants as contexts
use Rattle.osek_kernel.specs.declared.kernel.Reply.{Reply}
use Rattle.osek_kernel.specs.Contexts.{IsContext, place_of, context_at, context_count}
use Rattle.osek_kernel.specs.Positions.{position_of, placed, started}
use Rattle.osek_kernel.specs.Running.{runs}
use Rattle.osek_machine.specs.State.{MachineState, standing_of}
use Rattle.osek_machine.specs.Events.{Event, Execution, ServiceCall, Arrive, Take, Execute, Serve, Idle}
use Rattle.osek_machine.specs.Steps.{served_by, argument_in}
use Rattle.osek_machine.proofs.Kept.{running_exists, served_exists}
use Rattle.osek_machine.proofs.Placing.{contexts_apart, placed_here, placed_elsewhere, placed_count}
use Rattle.flow_graph.specs.declared.node.Node.{Node}
use Rattle.wcet_atomic_blocks.specs.declared.block.Block.{Block}
use Rattle.wcet_atomic_blocks.specs.Blocks.{successor}
use Rattle.wcet_atomic_blocks.specs.PlantLaws.{ServicesHaveBlocks}
use Rattle.wcet_atomic_blocks.specs.Plants.{PlantData, IsPlant}
use Rattle.wcet_atomic_blocks.proofs.GraphFacts.{at_slice, context_exists}
use Rattle.wcet_atomic_blocks.proofs.PlantFacts.{services_have_blocks}
use Rattle.abstract_sched.specs.declared.states.AbsState.{AbsState}
use Rattle.flow_graph.specs.Faults.{IsNode}
use Rattle.scheduler_moves.specs.declared.moves.MoveLabel.TheVariants as labels
use Rattle.scheduler_moves.specs.Moves.{entry_block, block_behind}
use Rattle.shadow_runs.specs.Shadow.{node_of}
use Rattle.shadow_runs.proofs.Begun.{who_exists}
use Rattle.shadow_runs.proofs.Entered.{as_many_entries}
use Rattle.shadow_runs.proofs.Members.{first_member, later_member}
use Rattle.shadow_runs.proofs.Planted.{IsThere, there_is, program_in}
use Rattle.row_build.specs.Columns.{Column, Starts, Moves, Goes, Begins, Stands, calls_at}
use Rattle.row_build.specs.Families.{edges_that, moves_that, begins_that, stands_that, out_of, leads_to, is_first_at, passes}
use Rattle.activation_windows.specs.Counted.{IsDeclaredCase, Meets, MeetsPassing}
use Rattle.activation_windows.specs.Windows.{Window, running_after, first_of_block, entry_node, node_after, nodes_after, label_of, used_by, entered, behind, waiting_after, run_in, open_window}
use Rattle.activation_windows.proofs.EdgesTaken.{takes_edge}
use Rattle.activation_windows.proofs.Induction.{IsLater, OfUses, covers_of, kernel_is, of_open, of_used}
use Rattle.activation_windows.proofs.LeavingRows.{SparesVisits, run_in_same, start_sum, move_used}
use Rattle.activation_windows.proofs.Moving.{asks_of}
use Rattle.activation_windows.proofs.Nodes.{activated_exists, nodes_are}
use Rattle.activation_windows.proofs.Sums.{one, IsDifference, meets_by, edges_count, moves_count, begins_count, stands_count, edges_counted, moves_counted, begins_counted, stands_counted, sum_counted, difference_counted, sum_option, sum_with}
use Rattle.activation_windows.proofs.Uses.{IsStart, AreListed, InductsByParts, by_parts, opened_first, stepped}
use Rattle.activation_windows.proofs.VisitNodes.{WaitsAt, visit_node, is_visit}
use Rattle.activation_windows.proofs.Windows.{IsWhole, is_whole, nodes_count}

-- ---- Counts

abbrev out_count : ℕ → Column → ℕ
out_count node column = edges_count (λ along. along.node == node) column + moves_count (λ going. calls_at node going.move.label) column

abbrev in_count : PlantData → ℕ → Column → ℕ
in_count plant node column =
    edges_count (leads_to node) column + (begins_count (is_first_at plant node) column + stands_count (nat_eq node) column)

passes_is : (plant : PlantData) (node : ℕ) → IsDifference (passes plant node).factor (out_count node) (in_count plant node)
passes_is plant node column =
    difference_counted (out_of node column)
    (edges_that (leads_to node) column +ℤ (begins_that (is_first_at plant node) column +ℤ stands_that (nat_eq node) column))
    (out_count node column) (in_count plant node column)
    (sum_counted (edges_that (λ along. along.node == node) column) (moves_that (λ going. calls_at node going.move.label) column)
    (edges_count (λ along. along.node == node) column) (moves_count (λ going. calls_at node going.move.label) column)
    (edges_counted (λ along. along.node == node) column) (moves_counted (λ going. calls_at node going.move.label) column))
    (sum_counted (edges_that (leads_to node) column) (begins_that (is_first_at plant node) column +ℤ stands_that (nat_eq node) column)
    (edges_count (leads_to node) column) (begins_count (is_first_at plant node) column + stands_count (nat_eq node) column)
    (edges_counted (leads_to node) column)
    (sum_counted (begins_that (is_first_at plant node) column) (stands_that (nat_eq node) column)
    (begins_count (is_first_at plant node) column) (stands_count (nat_eq node) column)
    (begins_counted (is_first_at plant node) column) (stands_counted (nat_eq node) column)))

-- whether a context has come to the node: it stands there, and no visit of it waits
abbrev has_come : ℕ → Option Column → Option ℕ → ℕ
has_come node (Some column) at = 0
has_come node None at = one (option_map_or (nat_eq node) at false)

one_same : (m n : ℕ) → one (m == n) ≤ one (nat_eq n m)
one_same m n = by (m == n) refl
  where
    by : (b : Bool) → (m == n) ≡ b → one b ≤ one (nat_eq n m)
    by true e = let there : one (nat_eq n m) ≡ 1 = ap one (eq-eqb n m (sym (eqb-true m n e))) in omega arith
    by false e = omega arith

none_apart : (m n : ℕ) → (m ≡ n → ⊥) → one (m == n) ≡ 0
none_apart m n apart = by (m == n) refl
  where
    by : (b : Bool) → (m == n) ≡ b → one b ≡ 0
    by true e = absurd (apart (eqb-true m n e))
    by false e = refl

-- ---- Visits that are used come to their nodes

first_comes : (plant : PlantData) (node : ℕ) (block : Option Block)
    → one (option_map_or (nat_eq node) (option_map (λ b. b.begin.first) block) false) ≤ one (option_map_or (λ b. b.begin.first == node) block false)
first_comes plant node None = omega arith
first_comes plant node (Some block) = one_same node block.begin.first

visit_comes : (plant : PlantData) (node : ℕ) (column : Column) → is_visit column ≡ true
    → one (option_map_or (nat_eq node) (visit_node plant column) false) ≤ in_count plant node column
visit_comes plant node (Starts start) is = absurd cc
visit_comes plant node (Moves going) is = absurd cc
visit_comes plant node (Goes along) is = absurd cc
visit_comes plant node (Begins block) is = (let comes = first_comes plant node (slice_get plant.blocks.blocks block) in omega arith)
visit_comes plant node (Stands at) is = omega arith

used_comes : (plant : PlantData) (states : List AbsState) (task node : ℕ) (context : Context) (waits : Option Column) (at : Option ℕ)
    → WaitsAt plant states task context waits at
    → has_come node None at ≤ sum_option (in_count plant node) waits + has_come node waits at
used_comes plant states task node context None at wait = omega arith
used_comes plant states task node context (Some column) at wait =
    let visit = wait column refl in
    let same : one (option_map_or (nat_eq node) at false) ≡ one (option_map_or (nat_eq node) (visit_node plant column) false) =
    ap (λ (o : Option ℕ). one (option_map_or (nat_eq node) o false)) visit.at in
    (let comes = visit_comes plant node column visit.visits in omega arith)

out_no_visit : (node : ℕ) → SparesVisits (out_count node)
out_no_visit node (Starts start) is = absurd cc
out_no_visit node (Moves going) is = absurd cc
out_no_visit node (Goes along) is = absurd cc
out_no_visit node (Begins block) is = refl
out_no_visit node (Stands at) is = refl

-- ---- A step of a context

-- a context that starts hasn't come anywhere yet
entered_come : (plant : PlantData) (node : ℕ) (block : Option ℕ) → has_come node (option_map Begins block) (option_and_then (first_of_block plant) block) ≡ 0
entered_come plant node None = refl
entered_come plant node (Some block) = refl

abbrev come_of : PlantData → ℕ → Context → List (Option Column) → List (Option ℕ) → ℕ
come_of plant node context waiting nodes = has_come node (position_of plant.system waiting context) (position_of plant.system nodes context)

elsewhere_come : (plant : PlantData) (node : ℕ) (d context : Context) (waits : Option Column) (at : Option ℕ) (waiting : List (Option Column))
    (nodes : List (Option ℕ)) → (place_of plant.system context ≡ place_of plant.system d → ⊥)
    → come_of plant node context (placed plant.system d waits waiting) (placed plant.system d at nodes) ≡ come_of plant node context waiting nodes
elsewhere_come plant node d context waits at waiting nodes apart =
    ap (λ (w : Option Column). has_come node w (position_of plant.system (placed plant.system d at nodes) context))
    (placed_elsewhere plant.system d context waits waiting apart)
    ∙ ap (has_come node (position_of plant.system waiting context)) (placed_elsewhere plant.system d context at nodes apart)

here_come : (plant : PlantData) (node : ℕ) (context : Context) (waits : Option Column) (at : Option ℕ) (waiting : List (Option Column))
    (nodes : List (Option ℕ)) → IsContext plant.system context → length waiting ≡ context_count plant.system → length nodes ≡ context_count plant.system
    → come_of plant node context (placed plant.system context waits waiting) (placed plant.system context at nodes) ≡ has_come node waits at
here_come plant node context waits at waiting nodes exists count others =
    ap (λ (w : Option Column). has_come node w (position_of plant.system (placed plant.system context at nodes) context))
    (placed_here plant.system context waits waiting exists count)
    ∙ ap (has_come node waits) (placed_here plant.system context at nodes exists others)

started_come : (plant : PlantData) (node : ℕ) (context : Context) (who : Option Context) (waiting : List (Option Column)) (nodes : List (Option ℕ))
    → IsContext plant.system context → ((d : Context) → who ≡ Some d → IsContext plant.system d)
    → length waiting ≡ context_count plant.system → length nodes ≡ context_count plant.system
    → come_of plant node context (started plant.system (entered plant) who waiting) (started plant.system (entry_node plant) who nodes)
    ≤ come_of plant node context waiting nodes
started_come plant node context None waiting nodes exists exist count others = omega arith
started_come plant node context (Some d) waiting nodes exists exist count others = elim (contexts_apart plant.system context d exists (exist d refl)) [
  | inl same ↦
      let come : come_of plant node context (placed plant.system d (entered plant d) waiting) (placed plant.system d (entry_node plant d) nodes) ≡ 0 =
      subst (λ (e : Context). come_of plant node context (placed plant.system e (entered plant e) waiting)
      (placed plant.system e (entry_node plant e) nodes) ≡ 0)
      same
      (here_come plant node context (entered plant context) (entry_node plant context) waiting nodes exists count others
      ∙ entered_come plant node (entry_block plant context)) in
      omega arith
  | inr other ↦
      let stays : come_of plant node context (placed plant.system d (entered plant d) waiting) (placed plant.system d (entry_node plant d) nodes)
      ≡ come_of plant node context waiting nodes =
      elsewhere_come plant node d context (entered plant d) (entry_node plant d) waiting nodes other in
      omega arith
]

-- a caller that goes on waits, where it goes anywhere
some_behind : (after : Option (Option ℕ)) → (is : IsThere after (λ (b : Option ℕ). b ≢ None)) → (block : ℕ)
    × (option_and_then (λ (b : Option ℕ). b) after ≡ Some block)
some_behind after is = by is.item is.there is.holds
  where
    by : (b : Option ℕ) → after ≡ Some b → (b ≢ None) → (block : ℕ) × (option_and_then (λ (b : Option ℕ). b) after ≡ Some block)
    by (Some block) there some = (block, ap (option_and_then (λ (b : Option ℕ). b)) there)
    by None there some = absurd (some refl)

gone_come : (plant : PlantData) → IsPlant plant → (node at : ℕ)
    → has_come node (option_map Begins (block_behind plant at)) (successor plant.flow at) ≡ 0
unfolding ServicesHaveBlocks
gone_come plant is node at = by (successor plant.flow at) refl
  where
    none : (waits : Option Column) → has_come node waits None ≡ 0
    none None = refl
    none (Some column) = refl

    by : (next : Option ℕ) → successor plant.flow at ≡ next → has_come node (option_map Begins (block_behind plant at)) (successor plant.flow at) ≡ 0
    by None e = ap (has_come node (option_map Begins (block_behind plant at))) e ∙ none (option_map Begins (block_behind plant at))
    by (Some next) e =
        let block = some_behind (slice_get plant.blocks.afters at)
        (there_is (slice_get plant.blocks.afters at) (λ (b : Option ℕ). b ≢ None) (services_have_blocks plant is at next e)) in
        ap (λ (b : Option ℕ). has_come node (option_map Begins b) (successor plant.flow at)) block.1

answered_come : (plant : PlantData) → IsPlant plant → (node : ℕ) (call : ServiceCall) (at : ℕ) → node_of plant call.caller call.before ≡ Some at
    → (ended : Option Context)
    → has_come node (cond (is_some ended) None (behind plant call)) (cond (is_some ended) None (node_after plant call)) ≡ 0
answered_come plant is node call at stands (Some context) = refl
answered_come plant is node call at stands None =
    ap (λ (o : Option ℕ). has_come node (option_map Begins (option_and_then (block_behind plant) o)) (option_and_then (successor plant.flow) o)) stands
    ∙ gone_come plant is node at

-- ---- What a step does to a node

-- The node's context: it exists, and the node is there.
pub record IsNodeOf (plant : PlantData) (node : ℕ) (context : Context) : Type 0 where
  pub exists : IsContext plant.system context
  pub at : Node
  pub listed : slice_get plant.flow.nodes node ≡ Some at
  pub context_is : at.context ≡ place_of plant.system context

-- a node of another context is another one
apart_nodes : (plant : PlantData) (node number : ℕ) (context : Context) (other : Node) (place : ℕ) → IsNodeOf plant node context
    → slice_get plant.flow.nodes number ≡ Some other → other.context ≡ place → (place_of plant.system context ≡ place → ⊥) → number ≡ node → ⊥
apart_nodes plant node number context other place own listed is apart same =
    let nodes : other ≡ own.at = same_Some other own.at (sym listed ∙ (ap (slice_get plant.flow.nodes) same ∙ own.listed)) in
    apart (sym own.context_is ∙ (ap (λ (n : Node). n.context) (sym nodes) ∙ is))

-- out of the node the step goes only if its context had come there, and it comes there by what the step uses
abbrev Passes : PlantData → ℕ → ℕ → Context → Event → List Event → List (Option Column) → Type 0
Passes plant mode node context event earlier waiting =
    sum_option (out_count node) (used_by plant mode event earlier)
    + come_of plant node context (waiting_after plant event waiting) (nodes_after plant mode (event ∷ earlier))
    ≤ sum_option (in_count plant node) (used_by plant mode event earlier) + come_of plant node context waiting (nodes_after plant mode earlier)

-- where the context that makes the step stands
standing_come : (plant : PlantData) (states : List AbsState) (task mode node : ℕ) (earlier : List Event) (before : MachineState) (context : Context)
    (standing : _) (at : ℕ) (waiting : List (Option Column)) → IsDeclaredCase plant states task mode earlier before → IsContext plant.system context
    → standing_of plant.system before context ≡ Some standing → node_of plant context standing ≡ Some at
    → position_of plant.system waiting context ≡ None
    → come_of plant node context waiting (nodes_after plant mode earlier) ≡ one (nat_eq node at)
standing_come plant states task mode node earlier before context standing at waiting case exists stands found free =
    ap (λ (w : Option Column). has_come node w (position_of plant.system (nodes_after plant mode earlier) context)) free
    ∙ ap (has_come node None) (nodes_are plant states task mode earlier before case context exists
    ∙ (ap (option_and_then (node_of plant context)) stands ∙ found))

execute_passes : (plant : PlantData) (states : List AbsState) (task mode node : ℕ) (context : Context) (execution : Execution) (earlier : List Event)
    (before after : MachineState) (waiting : List (Option Column)) → IsNodeOf plant node context
    → IsLater plant states task mode (Execute execution) earlier before after → position_of plant.system waiting execution.context ≡ None
    → Passes plant mode node context (Execute execution) earlier waiting
execute_passes plant states task mode node context execution earlier before after waiting own later free =
    let all = covers_of plant states task mode earlier before later.case in
    let runner : IsContext plant.system execution.context = running_exists plant.system before execution.context all.room later.step.running in
    let edge = takes_edge plant later.case.of.belongs execution before after all.room later.step later.pairs all.walking in
    let used : used_by plant mode (Execute execution) earlier ≡ Some (Goes (record { node = edge.at.number; place = _; edge = edge.edge })) =
    ap (option_map Goes) edge.along in
    let out : sum_option (out_count node) (used_by plant mode (Execute execution) earlier) ≡ one (edge.at.number == node) + 0 =
    ap (sum_option (out_count node)) used in
    let come : sum_option (in_count plant node) (used_by plant mode (Execute execution) earlier) ≡ one (nat_eq node edge.target) + (0 + 0) =
    ap (sum_option (in_count plant node)) used ∙ ap (λ (to : Option ℕ). one (option_map_or (nat_eq node) to false) + (0 + 0)) edge.arrives in
    elim (contexts_apart plant.system context execution.context own.exists runner) [
      | inl same ↦
          let now : come_of plant node context waiting (nodes_after plant mode (Execute execution ∷ earlier)) ≡ one (nat_eq node edge.target) =
          ap (λ (c : Context). come_of plant node c waiting (nodes_after plant mode (Execute execution ∷ earlier))) same
          ∙ (ap (λ (w : Option Column). has_come node w
          (position_of plant.system (nodes_after plant mode (Execute execution ∷ earlier)) execution.context)) free
          ∙ ap (has_come node None) (placed_here plant.system execution.context (node_of plant execution.context execution.after)
          (nodes_after plant mode earlier) runner (nodes_count plant mode earlier) ∙ edge.found)) in
          let was : come_of plant node context waiting (nodes_after plant mode earlier) ≡ one (nat_eq node edge.at.number) =
          ap (λ (c : Context). come_of plant node c waiting (nodes_after plant mode earlier)) same
          ∙ standing_come plant states task mode node earlier before execution.context execution.before edge.at.number waiting later.case runner
          later.step.stands edge.at.found free in
          let left = one_same edge.at.number node in
          omega arith
      | inr other ↦
          let stays : come_of plant node context waiting (nodes_after plant mode (Execute execution ∷ earlier))
          ≡ come_of plant node context waiting (nodes_after plant mode earlier) =
          ap (has_come node (position_of plant.system waiting context))
          (placed_elsewhere plant.system execution.context context (node_of plant execution.context execution.after) (nodes_after plant mode earlier) other) in
          let none = none_apart edge.at.number node (apart_nodes plant node edge.at.number context edge.at.node (place_of plant.system execution.context) own
          edge.at.listed edge.at.context_is other) in
          omega arith
    ]

serve_passes : (plant : PlantData) (states : List AbsState) (task mode node : ℕ) (context : Context) (call : ServiceCall) (earlier : List Event)
    (before after : MachineState) (waiting : List (Option Column)) → IsNodeOf plant node context
    → IsLater plant states task mode (Serve call) earlier before after → length waiting ≡ context_count plant.system
    → position_of plant.system waiting call.caller ≡ None
    → Passes plant mode node context (Serve call) earlier waiting
serve_passes plant states task mode node context call earlier before after waiting own later count free =
    let all = covers_of plant states task mode earlier before later.case in
    let runner : IsContext plant.system call.caller = running_exists plant.system before call.caller all.room later.step.running in
    let asks = asks_of plant states task mode call earlier before after later in
    let label : label_of plant (Serve call) ≡ Some (labels.Service asks.at.number) = ap (option_map labels.Service) asks.at.found in
    let used = move_used plant mode (labels.Service asks.at.number) call earlier label in
    let out : sum_option (out_count node) (used_by plant mode (Serve call) earlier) ≡ 0 + one (asks.at.number == node) =
    ap (sum_option (out_count node)) used in
    let gone_waiting : List (Option Column) = placed plant.system call.caller (cond (is_some call.reply.ended) None (behind plant call)) waiting in
    let gone_nodes : List (Option ℕ) =
    placed plant.system call.caller (cond (is_some call.reply.ended) None (node_after plant call)) (nodes_after plant mode earlier) in
    let begins : come_of plant node context (waiting_after plant (Serve call) waiting) (nodes_after plant mode (Serve call ∷ earlier))
    ≤ come_of plant node context gone_waiting gone_nodes =
    started_come plant node context (option_map contexts.Task call.reply.activated) gone_waiting gone_nodes own.exists
    (λ d e. activated_exists plant.system (served_by plant.system call before).reply.activated
    (served_exists plant.system before.kernel call.caller call.service (argument_in call.before) later.step.argument) d
    (ap (λ (r : Reply). option_map contexts.Task r.activated) (sym later.step.replied) ∙ e))
    (placed_count plant.system call.caller (cond (is_some call.reply.ended) None (behind plant call)) waiting ∙ count)
    (placed_count plant.system call.caller (cond (is_some call.reply.ended) None (node_after plant call)) (nodes_after plant mode earlier)
    ∙ nodes_count plant mode earlier) in
    elim (contexts_apart plant.system context call.caller own.exists runner) [
      | inl same ↦
          let gone : come_of plant node context gone_waiting gone_nodes ≡ 0 =
          ap (λ (c : Context). come_of plant node c gone_waiting gone_nodes) same
          ∙ (here_come plant node call.caller (cond (is_some call.reply.ended) None (behind plant call))
          (cond (is_some call.reply.ended) None (node_after plant call)) waiting (nodes_after plant mode earlier) runner count (nodes_count plant mode earlier)
          ∙ answered_come plant later.case.of.belongs node call asks.at.number asks.at.found call.reply.ended) in
          let was : come_of plant node context waiting (nodes_after plant mode earlier) ≡ one (nat_eq node asks.at.number) =
          ap (λ (c : Context). come_of plant node c waiting (nodes_after plant mode earlier)) same
          ∙ standing_come plant states task mode node earlier before call.caller call.before asks.at.number waiting later.case runner
          later.step.stands asks.at.found free in
          let left = one_same asks.at.number node in
          omega arith
      | inr other ↦
          let stays : come_of plant node context gone_waiting gone_nodes ≡ come_of plant node context waiting (nodes_after plant mode earlier) =
          elsewhere_come plant node call.caller context (cond (is_some call.reply.ended) None (behind plant call))
          (cond (is_some call.reply.ended) None (node_after plant call)) waiting (nodes_after plant mode earlier) other in
          let none = none_apart asks.at.number node (apart_nodes plant node asks.at.number context asks.at.node (place_of plant.system call.caller) own
          asks.at.listed asks.at.context_is other) in
          omega arith
    ]

step_passes : (plant : PlantData) (states : List AbsState) (task mode node : ℕ) (context : Context) (event : Event) (earlier : List Event)
    (before after : MachineState) (waiting : List (Option Column)) → IsNodeOf plant node context
    → IsLater plant states task mode event earlier before after → length waiting ≡ context_count plant.system
    → ((c : Context) → running_after plant mode earlier ≡ Some c → position_of plant.system waiting c ≡ None)
    → Passes plant mode node context event earlier waiting
step_passes plant states task mode node context (Arrive arrival) earlier before after waiting own later count ran = omega arith
step_passes plant states task mode node context (Take taking) earlier before after waiting own later count ran =
    (let begins = started_come plant node context taking.started waiting (nodes_after plant mode earlier) own.exists
    (λ d e. who_exists plant later.case.of.belongs taking before after (covers_of plant states task mode earlier before later.case).room later.step d
    (sym later.step.started ∙ e)) count (nodes_count plant mode earlier) in omega arith)
step_passes plant states task mode node context (Execute execution) earlier before after waiting own later count ran =
    execute_passes plant states task mode node context execution earlier before after waiting own later
    (ran execution.context (ap (runs plant.system) (kernel_is plant mode earlier before later.case.of.run) ∙ later.step.running))
step_passes plant states task mode node context (Serve call) earlier before after waiting own later count ran =
    serve_passes plant states task mode node context call earlier before after waiting own later count
    (ran call.caller (ap (runs plant.system) (kernel_is plant mode earlier before later.case.of.run) ∙ later.step.running))
step_passes plant states task mode node context (Idle cycles) earlier before after waiting own later count ran = omega arith

-- ---- Every open window

-- the node is left at most as often as it is come to, and less often while its context has come there
abbrev PassesLess : PlantData → ℕ → ℕ → Context → List Event → MachineState → Window → Type 0
PassesLess plant mode node context events state window =
    sum_by (out_count node) window.uses + come_of plant node context window.waiting (nodes_after plant mode events)
    ≤ sum_by (in_count plant node) window.uses

none_waits : (node : ℕ) (at : Option ℕ) → has_come node (option_map Stands at) at ≡ 0
none_waits node None = refl
none_waits node (Some at) = refl

opened_passes : (plant : PlantData) (states : List AbsState) (task mode node : ℕ) (context : Context) (events : List Event) (state : MachineState)
    (column : Option Column) → IsStart plant states task mode events column
    → PassesLess plant mode node context events state (opened_first plant mode column events)
opened_passes plant states task mode node context events state column start =
    let out : sum_by (out_count node) (option_to_list column) ≡ 0 = start_sum (out_count node) column start.start start.is in
    let come : come_of plant node context (map (λ at. option_map Stands at) (nodes_after plant mode events)) (nodes_after plant mode events) ≡ 0 =
    ap (λ (w : Option Column). has_come node w (position_of plant.system (nodes_after plant mode events) context))
    (get_or-map (λ at. option_map Stands at) (nodes_after plant mode events) (place_of plant.system context) None)
    ∙ none_waits node (position_of plant.system (nodes_after plant mode events) context) in
    omega arith

by_passing : (m l u v was now more less : ℕ) → more ≡ u + m → less ≡ v + l → u + now ≤ v + was → m + was ≤ l → more + now ≤ less
by_passing m l u v was now more less e f step held = omega arith

stepped_passes : (plant : PlantData) (states : List AbsState) (task mode node : ℕ) (context : Context) (event : Event) (earlier : List Event)
    (before after : MachineState) (window : Window) → IsNodeOf plant node context
    → IsLater plant states task mode event earlier before after → IsWhole plant task mode earlier before window
    → PassesLess plant mode node context earlier before window
    → PassesLess plant mode node context (event ∷ earlier) after (stepped plant mode event earlier window)
stepped_passes plant states task mode node context event earlier before after window own later was held =
    by_passing (sum_by (out_count node) window.uses) (sum_by (in_count plant node) window.uses)
    (sum_option (out_count node) (used_by plant mode event earlier)) (sum_option (in_count plant node) (used_by plant mode event earlier))
    (come_of plant node context window.waiting (nodes_after plant mode earlier))
    (come_of plant node context (waiting_after plant event window.waiting) (nodes_after plant mode (event ∷ earlier)))
    (sum_by (out_count node) (option_to_list (used_by plant mode event earlier) ++ window.uses))
    (sum_by (in_count plant node) (option_to_list (used_by plant mode event earlier) ++ window.uses))
    (sum_with (out_count node) (used_by plant mode event earlier) window.uses)
    (sum_with (in_count plant node) (used_by plant mode event earlier) window.uses)
    (step_passes plant states task mode node context event earlier before after window.waiting own later was.count was.ran) held

ran_passes : (plant : PlantData) (states : List AbsState) (task mode node : ℕ) (context : Context) (events : List Event) (state : MachineState)
    (window : Window) (runner : Context) → IsNodeOf plant node context → IsContext plant.system runner → length window.waiting ≡ context_count plant.system
    → AreListed plant states task mode events state window
    → PassesLess plant mode node context events state window → PassesLess plant mode node context events state (run_in plant (Some runner) window)
ran_passes plant states task mode node context events state window runner own exists count are held =
    let waits = position_of plant.system window.waiting runner in
    let out = run_in_same plant states task mode events state window runner (out_count node) (out_no_visit node) exists are in
    let come = sum_with (in_count plant node) waits window.uses in
    elim (contexts_apart plant.system context runner own.exists exists) [
      | inl same ↦
          let now : come_of plant node context (placed plant.system runner None window.waiting) (nodes_after plant mode events)
          ≡ has_come node None (position_of plant.system (nodes_after plant mode events) runner) =
          ap (λ (c : Context). come_of plant node c (placed plant.system runner None window.waiting) (nodes_after plant mode events)) same
          ∙ ap (λ (w : Option Column). has_come node w (position_of plant.system (nodes_after plant mode events) runner))
          (placed_here plant.system runner None window.waiting exists count) in
          let was : come_of plant node context window.waiting (nodes_after plant mode events)
          ≡ has_come node waits (position_of plant.system (nodes_after plant mode events) runner) =
          ap (λ (c : Context). come_of plant node c window.waiting (nodes_after plant mode events)) same in
          let comes = used_comes plant states task node runner waits (position_of plant.system (nodes_after plant mode events) runner)
          (are.waiting runner exists) in
          omega arith
      | inr other ↦
          let stays : come_of plant node context (placed plant.system runner None window.waiting) (nodes_after plant mode events)
          ≡ come_of plant node context window.waiting (nodes_after plant mode events) =
          ap (λ (w : Option Column). has_come node w (position_of plant.system (nodes_after plant mode events) context))
          (placed_elsewhere plant.system runner context None window.waiting other) in
          omega arith
    ]

passes_less : (plant : PlantData) (states : List AbsState) (task mode node : ℕ) (context : Context) → IsNodeOf plant node context
    → InductsByParts plant states task mode (PassesLess plant mode node context)
passes_less plant states task mode node context own = record {
  opens = λ events state column case start. opened_passes plant states task mode node context events state column start;
  steps = λ event earlier before after window later new on was are held.
      stepped_passes plant states task mode node context event earlier before after window own later was held;
  ran = λ events state window runner case exists e count are held.
      ran_passes plant states task mode node context events state window runner own exists count are held;
}

while_passing : (plant : PlantData) (states : List AbsState) (task mode node : ℕ) (context : Context) (events : List Event) (state : MachineState)
    (window : Window) → IsNodeOf plant node context → IsDeclaredCase plant states task mode events state
    → open_window plant task mode events ≡ Some window → PassesLess plant mode node context events state window
while_passing plant states task mode node context events state window own case e =
    of_open plant states task mode (PassesLess plant mode node context)
    (by_parts plant states task mode (PassesLess plant mode node context) (passes_less plant states task mode node context own)) events state window case e

-- ---- The law

last_passing : (m l u v was now more less : ℕ) → more ≡ u + m → less ≡ v + l → u + now ≤ v + was → m + was ≤ l → more ≤ less + 0
last_passing m l u v was now more less e f step held = omega arith

passing_uses : (plant : PlantData) (states : List AbsState) (task mode node : ℕ) (context : Context) → IsNodeOf plant node context
    → OfUses plant states task mode (λ events state uses since. sum_by (out_count node) uses ≤ sum_by (in_count plant node) uses + 0)
passing_uses plant states task mode node context own = record {
  while_it_is_open = λ events state window since case is_open active.
      (let held : sum_by (out_count node) window.uses + come_of plant node context window.waiting (nodes_after plant mode events)
      ≤ sum_by (in_count plant node) window.uses =
      while_passing plant states task mode node context events state window own case is_open in omega arith);
  closes = λ event earlier before after window since later ends is_open active.
      let was = is_whole plant states task mode earlier before window later.case is_open in
      last_passing (sum_by (out_count node) window.uses) (sum_by (in_count plant node) window.uses)
      (sum_option (out_count node) (used_by plant mode event earlier)) (sum_option (in_count plant node) (used_by plant mode event earlier))
      (come_of plant node context window.waiting (nodes_after plant mode earlier))
      (come_of plant node context (waiting_after plant event window.waiting) (nodes_after plant mode (event ∷ earlier)))
      (sum_by (out_count node) (option_to_list (used_by plant mode event earlier) ++ window.uses))
      (sum_by (in_count plant node) (option_to_list (used_by plant mode event earlier) ++ window.uses))
      (sum_with (out_count node) (used_by plant mode event earlier) window.uses)
      (sum_with (in_count plant node) (used_by plant mode event earlier) window.uses)
      (step_passes plant states task mode node context event earlier before after window.waiting own later was.count was.ran)
      (while_passing plant states task mode node context earlier before window own later.case is_open);
}

-- each node is of a context
context_is_there : (system : System) (n : ℕ) → n < context_count system
    → IsContext system (context_at system n) × (place_of system (context_at system n) ≡ n)
context_is_there system n within = by (nat_lt n (length system.tasks)) refl
  where
    by : (b : Bool) → nat_lt n (length system.tasks) ≡ b → IsContext system (context_at system n) × (place_of system (context_at system n) ≡ n)
    by true e =
        let at : context_at system n ≡ contexts.Task n = ap (λ c. cond c (contexts.Task n) (contexts.Isr (n - length system.tasks))) e in
        let below : n < length system.tasks = ltb-true n (length system.tasks) e in
        (subst (IsContext system) (sym at) below, ap (place_of system) at)
    by false e =
        let at : context_at system n ≡ contexts.Isr (n - length system.tasks) =
        ap (λ c. cond c (contexts.Task n) (contexts.Isr (n - length system.tasks))) e in
        let above : length system.tasks ≤ n = ltb-false n (length system.tasks) e in
        let below : n - length system.tasks < length system.isrs = omega arith in
        let same : length system.tasks + (n - length system.tasks) ≡ n = omega arith in
        (subst (IsContext system) (sym at) below, ap (place_of system) at ∙ same)

node_there : (nodes : List Node) (n : ℕ) → n < length nodes → (node : Node) × (slice_get nodes n ≡ Some node)
node_there [] n within = absurd (omega arith)
node_there (node ∷ nodes) n within = (_, slice_get-get_or (node ∷ nodes) n node within)

own_node : (plant : PlantData) → IsPlant plant → (node : ℕ) → node < length plant.flow.nodes → (context : Context) × IsNodeOf plant node context
own_node plant is node within =
    let at = node_there plant.flow.nodes node within in
    let reached : IsNode (program_in plant) at.0 = at_slice (IsNode (program_in plant)) plant.flow.nodes node at.0 is.graph.graph.nodes.are.reached at.1 in
    let known = context_exists (program_in plant) at.0 reached in
    let many = as_many_entries plant.image plant.system in
    let there = context_is_there plant.system at.0.context (omega arith) in
    (context_at plant.system at.0.context, record { exists = there.0; at = at.0; listed = at.1; context_is = sym there.1 })

all_of_members : {A B : Type 0} (P : B → Type 0) (f : A → B) (xs : List A) → ((x : A) → Contains xs x → P (f x)) → All P (map f xs)
all_of_members P f [] each = All-nil P
all_of_members P f (x ∷ xs) each = All-cons P (f x) (map f xs) (each x (first_member x xs))
    (all_of_members P f xs (λ y has. each y (later_member y x xs has)))

range_below : (count n : ℕ) → Contains (range_with_len 0 count) n → n < count
range_below count n has =
    let many = length-range_with_len 0 count in
    let inside : has.0 < count = (let i = has.1 in omega arith) in
    let is = get_or-range_with_len 0 count has.0 n inside in
    let same : n ≡ has.0 = sym has.2 ∙ (is ∙ omega arith) in
    omega arith

pub meets_passing : MeetsPassing
meets_passing plant states task mode events state uses since case used =
    all_of_members (Meets uses) (passes plant) (range_with_len 0 (length plant.flow.nodes)) (λ node has.
    let own = own_node plant case.of.belongs node (range_below (length plant.flow.nodes) node has) in
    meets_by (passes plant node).factor (out_count node) (in_count plant node) 0 uses (passes_is plant node)
    (of_used plant states task mode (λ events state uses since. sum_by (out_count node) uses ≤ sum_by (in_count plant node) uses + 0)
    (passing_uses plant states task mode node own.0 own.1) events state uses since case used))
