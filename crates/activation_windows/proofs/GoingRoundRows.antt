-- A loop is gone round at most its bound for each time that it is entered.
use Rattle.std.proofs.Common.{◌≡◌, ℕ, ◌+◌, ◌*◌, ◌-◌, ◌<◌, ◌≤◌, Bool, true, false, cond, List, [], ◌∷◌, ◌++◌, length, map, All, Option, Some, None, refl, sym, ◌∙◌, ap, subst, arith}
use Rattle.std.specs.Prelude.{◌==◌, nat_lt, slice_get, sum_by, option_and_then, option_map, option_to_list, pos, ◌*ℤ◌, filter_map}
use Rattle.std.specs.List.{AllByRecursion, cons_option, flat_map, range_with_len}
use Rattle.std.specs.Option.{option_map_or}
use Rattle.std.proofs.Math.IntN.{pos-*ℤ-pos}
use Rattle.std.proofs.Math.ListN.{get_or-map}
use Rattle.std.proofs.lemmas.Bool.{eq-eqb, ltb-true, ltb-false}
use Rattle.std.proofs.lemmas.List.Elements.{All-from_recursion, All-map}
use Rattle.std.proofs.lemmas.List.Concat.{flat_map-cons}
use Rattle.std.proofs.lemmas.Option.{none-some, same_Some, slice_get_within}
use Rattle.rv32_machine.specs.ContextStep.{Standing}
use Rattle.oil_model.specs.declared.system.System.{System}
use Rattle.timing_file.specs.declared.timing.Loop.{Loop}
use Rattle.osek_kernel.specs.declared.context.Context.{Context}
use Rattle.osek_kernel.specs.declared.context.Context.TheVariants as contexts
use Rattle.osek_kernel.specs.Contexts.{IsContext, place_of, context_at, context_count}
use Rattle.osek_kernel.specs.Positions.{position_of}
use Rattle.osek_kernel.specs.Running.{runs}
use Rattle.osek_machine.specs.State.{MachineState, standing_of}
use Rattle.osek_machine.specs.Events.{Event, Arrive, Take, Execute, Serve, Idle, started_by, ended_by}
use Rattle.osek_machine.specs.Loops.{is_this, same_context}
use Rattle.flow_graph.specs.declared.node.Node.{Node}
use Rattle.flow_graph.specs.Faults.{IsNode}
use Rattle.flow_graph.specs.Graph.{entries_of}
use Rattle.wcet_atomic_blocks.specs.declared.loops.LoopInstance.{LoopInstance}
use Rattle.wcet_atomic_blocks.specs.Loops.{instance_at, instance_of, instances_at, instances_from, is_back, is_first, lies_within, loop_instances, node_passes, passing_edges}
use Rattle.wcet_atomic_blocks.specs.Plants.{PlantData, IsPlant}
use Rattle.wcet_atomic_blocks.proofs.GraphFacts.{at_slice, context_exists}
use Rattle.abstract_sched.specs.declared.states.AbsState.{AbsState}
use Rattle.scheduler_moves.specs.declared.moves.MoveLabel.{MoveLabel}
use Rattle.row_build.specs.Columns.{By, Column, Going, In, Stands, Starts}
use Rattle.row_build.specs.Families.{entered, goes_round, going_round, is_listed, is_listed_edge}
use Rattle.shadow_runs.specs.Shadow.{node_of}
use Rattle.shadow_runs.proofs.Entered.{as_many_entries}
use Rattle.shadow_runs.proofs.Planted.{program_in}
use Rattle.activation_windows.specs.Counted.{IsDeclaredCase, Meets, MeetsGoingRound}
use Rattle.activation_windows.specs.Windows.{Window, going_by, label_of, nodes_after, open_window, opened, running_after, start_by, used_by, waiting_after}
use Rattle.activation_windows.proofs.ArrivingRows.{scaled_sum}
use Rattle.activation_windows.proofs.AtNodes.{at_node_of}
use Rattle.activation_windows.proofs.Beyond.{beyond, lies_by, within_is}
use Rattle.activation_windows.proofs.InBlocks.{after_waits}
use Rattle.activation_windows.proofs.Induction.{IsLater, Inducts, covers_of, kernel_is, of_open, of_used}
use Rattle.activation_windows.proofs.Instances.{number_listed}
use Rattle.activation_windows.proofs.Nodes.{nodes_are}
use Rattle.activation_windows.proofs.OwnVisits.{backs_count, entries_count}
use Rattle.activation_windows.proofs.RoundEdges.{execute_rounds}
use Rattle.activation_windows.proofs.RoundServices.{serve_rounds, take_rounds}
use Rattle.activation_windows.proofs.RoundSteps.{IsInstance, its, Rounds, circles_as, moves_count_nothing, run_rounds, unused}
use Rattle.activation_windows.proofs.Stepping.{contexts_exist}
use Rattle.activation_windows.proofs.Sums.{one, begins_count, begins_counted, difference_counted, edges_count, edges_counted, meets_by, stands_count, stands_counted, sum_counted, sum_option}
use Rattle.activation_windows.proofs.Taking.{one_use}
use Rattle.activation_windows.proofs.Waiting.{opening_waits, open_waits}
use Rattle.activation_windows.proofs.Windows.{IsWhole, is_whole}

-- ---- A window opens

-- a context that stands in the loop waits with a visit that counts
stands_counts : (plant : PlantData) (states : List AbsState) (task mode : ℕ) (head : Node) (declared : ℕ) (l : Loop) (own : Context) (events : List Event)
    (state : MachineState)
    → IsInstance plant head declared l own → IsDeclaredCase plant states task mode events state
    → (standing : Standing) → standing_of plant.system state own ≡ Some standing
    → (rest : List ℕ) → beyond head.sites standing.calls ≡ Some rest → lies_by l standing.place (Some rest) ≡ true
    → sum_option (entries_count (its plant head declared l))
    (position_of plant.system (map (λ node. option_map Stands node) (nodes_after plant mode events)) own) ≡ 1
stands_counts plant states task mode head declared l own events state is case standing stands rest string lies =
    let at = at_node_of plant states task mode events state own standing case is.exists stands in
    let node : position_of plant.system (nodes_after plant mode events) own ≡ Some at.number =
    nodes_are plant states task mode events state case own is.exists ∙ (ap (option_and_then (node_of plant own)) stands ∙ at.found) in
    let visit : position_of plant.system (map (λ node. option_map Stands node) (nodes_after plant mode events)) own ≡ Some (Stands at.number) =
    get_or-map (λ (node : Option ℕ). option_map Stands node) (nodes_after plant mode events) (place_of plant.system own) None ∙ ap (option_map Stands) node in
    let context : (head.context == at.node.context) ≡ true = eq-eqb head.context at.node.context (is.place ∙ sym at.context_is) in
    let within : lies_within head l at.node ≡ true =
    within_is head l at.node context
    ∙ (ap (λ a. lies_by l a (beyond head.sites at.node.sites)) (sym at.stands.place_is)
    ∙ (ap (λ (cs : List ℕ). lies_by l standing.place (beyond head.sites cs)) (sym at.stands.calls_are)
    ∙ (ap (lies_by l standing.place) string ∙ lies))) in
    let listed : is_listed (its plant head declared l).within at.number ≡ true =
    number_listed (node_passes plant.flow (lies_within head l)) (length plant.flow.nodes) at.number
    (slice_get_within plant.flow.nodes at.number at.node at.listed)
    (ap (λ (o : Option Node). option_map_or (lies_within head l) o false) at.listed ∙ within) in
    ap (sum_option (entries_count (its plant head declared l))) visit ∙ (let counts = ap one listed in omega arith)

opening_rounds : (plant : PlantData) (states : List AbsState) (task mode : ℕ) (head : Node) (declared : ℕ) (l : Loop) (own : Context) (events : List Event)
    (state : MachineState) (start : Option Column)
    → IsInstance plant head declared l own → IsDeclaredCase plant states task mode events state
    → sum_option (backs_count (its plant head declared l)) start ≡ 0
    → Rounds plant head declared l own events state (option_to_list start) (map (λ node. option_map Stands node) (nodes_after plant mode events))
opening_rounds plant states task mode head declared l own events state start is case none = record {
  most = (let all = one_use (backs_count (its plant head declared l)) start in omega arith);
  inside = λ standing stands rest string lies waits.
      absurd (let counts = stands_counts plant states task mode head declared l own events state is case standing stands rest string lies in omega arith);
}

starts_count_nothing : (instance : LoopInstance) (going : MoveLabel → Going) (label : Option MoveLabel)
    → sum_option (backs_count instance) (option_map (λ m. Starts (By (going m))) label) ≡ 0
starts_count_nothing instance going None = refl
starts_count_nothing instance going (Some label) = refl

begins_nothing : (plant : PlantData) (mode : ℕ) (instance : LoopInstance) (event : Event) (earlier : List Event)
    → sum_option (backs_count instance) (start_by plant mode event earlier) ≡ 0
begins_nothing plant mode instance event earlier = starts_count_nothing instance (λ label. going_by plant mode label event earlier) (label_of plant event)

opened_rounds : (plant : PlantData) (states : List AbsState) (task mode : ℕ) (head : Node) (declared : ℕ) (l : Loop) (own : Context) (events : List Event)
    (state : MachineState) (start : Option Column)
    → IsInstance plant head declared l own → IsDeclaredCase plant states task mode events state
    → sum_option (backs_count (its plant head declared l)) start ≡ 0
    → Rounds plant head declared l own events state (opened plant mode start events).uses (opened plant mode start events).waiting
opened_rounds plant states task mode head declared l own events state start is case none =
    run_rounds plant states task mode head declared l own events state
    (record { uses = option_to_list start; waiting = map (λ node. option_map Stands node) (nodes_after plant mode events) }) is case
    (opening_waits plant states task mode events state case)
    (opening_rounds plant states task mode head declared l own events state start is case none) (running_after plant mode events) refl

-- ---- A window goes on

step_rounds : (plant : PlantData) (states : List AbsState) (task mode : ℕ) (head : Node) (declared : ℕ) (l : Loop) (own : Context) (event : Event)
    (earlier : List Event) (before after : MachineState) (window : Window)
    → IsInstance plant head declared l own → IsLater plant states task mode event earlier before after → IsWhole plant task mode earlier before window
    → Rounds plant head declared l own earlier before window.uses window.waiting
    → Rounds plant head declared l own (event ∷ earlier) after
    (option_to_list (used_by plant mode event earlier) ++ window.uses) (waiting_after plant event window.waiting)
step_rounds plant states task mode head declared l own (Arrive arrival) earlier before after window is later whole rounds =
    circles_as l head.sites l.bound _ _ _ _ _ _ _ _ _ _ refl refl refl
    (ap (λ (s : MachineState). standing_of plant.system s own) (sym later.step.becomes)) refl rounds
step_rounds plant states task mode head declared l own (Take taking) earlier before after window is later whole rounds =
    take_rounds plant states task mode head declared l own taking earlier before after window.uses window.waiting is later whole.count rounds
    (is_this own taking.started) refl
step_rounds plant states task mode head declared l own (Execute execution) earlier before after window is later whole rounds =
    let runs_now : running_after plant mode earlier ≡ Some execution.context =
    ap (runs plant.system) (kernel_is plant mode earlier before later.case.of.run) ∙ later.step.running in
    execute_rounds plant states task mode head declared l own execution earlier before after window.uses window.waiting is later
    (whole.ran execution.context runs_now) rounds (same_context own execution.context) refl
step_rounds plant states task mode head declared l own (Serve call) earlier before after window is later whole rounds =
    let runs_now : running_after plant mode earlier ≡ Some call.caller =
    ap (runs plant.system) (kernel_is plant mode earlier before later.case.of.run) ∙ later.step.running in
    serve_rounds plant states task mode head declared l own call earlier before after window.uses window.waiting is later whole.count
    (whole.ran call.caller runs_now) rounds (is_this own (started_by (Serve call))) refl (same_context own call.caller) refl
step_rounds plant states task mode head declared l own (Idle cycles) earlier before after window is later whole rounds =
    circles_as l head.sites l.bound _ _ _ _ _ _ _ _ _ _ refl refl refl
    (ap (λ (s : MachineState). standing_of plant.system s own) (sym later.step.becomes)) refl rounds

rounds_in : (plant : PlantData) (states : List AbsState) (task mode : ℕ) (head : Node) (declared : ℕ) (l : Loop) (own : Context)
    → IsInstance plant head declared l own
    → Inducts plant states task mode (λ events state window. Rounds plant head declared l own events state window.uses window.waiting)
rounds_in plant states task mode head declared l own is = record {
  starts = λ state case active. opened_rounds plant states task mode head declared l own [] state (Some (Starts (In mode))) is case refl;
  begins = λ event earlier before after later starts.
      opened_rounds plant states task mode head declared l own (event ∷ earlier) after (start_by plant mode event earlier) is later.whole
      (begins_nothing plant mode (its plant head declared l) event earlier);
  goes_on = λ event earlier before after window later others stays is_open rounds.
      run_rounds plant states task mode head declared l own (event ∷ earlier) after
      (record { uses = option_to_list (used_by plant mode event earlier) ++ window.uses; waiting = waiting_after plant event window.waiting }) is later.whole
      (after_waits plant mode event earlier window.waiting (contexts_exist plant states task mode event earlier before after later)
      (covers_of plant states task mode earlier before later.case).blocks.count
      (open_waits plant states task mode earlier before window later.case is_open))
      (step_rounds plant states task mode head declared l own event earlier before after window is later
      (is_whole plant states task mode earlier before window later.case is_open) rounds)
      (running_after plant mode (event ∷ earlier)) refl;
}

-- ---- The row of an instance

entered_counted : (instance : LoopInstance) (column : Column) → entered instance column ≡ pos (entries_count instance column)
entered_counted instance column =
    sum_counted _ _ (edges_count (is_listed_edge instance.entering) column)
    (begins_count (is_listed instance.blocks) column + stands_count (is_listed instance.within) column)
    (edges_counted (is_listed_edge instance.entering) column)
    (sum_counted _ _ (begins_count (is_listed instance.blocks) column) (stands_count (is_listed instance.within) column)
    (begins_counted (is_listed instance.blocks) column) (stands_counted (is_listed instance.within) column))

meets_round : (plant : PlantData) (instance : LoopInstance) (uses : List Column)
    → sum_by (backs_count instance) uses
    ≤ option_map_or (λ (d : Loop). d.bound) (slice_get plant.timing.loops instance.declared) 0 * sum_by (entries_count instance) uses
    → Meets uses (goes_round plant instance)
meets_round plant instance uses most =
    let bound = option_map_or (λ (d : Loop). d.bound) (slice_get plant.timing.loops instance.declared) 0 in
    let scaled = scaled_sum bound (entries_count instance) uses in
    meets_by _ (backs_count instance) (λ column. bound * entries_count instance column) 0 uses
    (λ column. difference_counted _ _ (backs_count instance column) (bound * entries_count instance column)
    (edges_counted (is_listed_edge instance.backs) column)
    (ap (λ z. pos bound *ℤ z) (entered_counted instance column) ∙ pos-*ℤ-pos bound (entries_count instance column)))
    (omega arith)

bound_is : (plant : PlantData) (head : Node) (declared : ℕ) (l : Loop) (own : Context) (uses : List Column) → IsInstance plant head declared l own
    → sum_by (backs_count (its plant head declared l)) uses ≤ l.bound * sum_by (entries_count (its plant head declared l)) uses
    → Meets uses (goes_round plant (its plant head declared l))
bound_is plant head declared l own uses is most =
    let bound : option_map_or (λ (d : Loop). d.bound) (slice_get plant.timing.loops declared) 0 ≡ l.bound =
    ap (λ (o : Option Loop). option_map_or (λ (d : Loop). d.bound) o 0) is.there in
    meets_round plant (its plant head declared l) uses
    (subst (λ n. sum_by (backs_count (its plant head declared l)) uses ≤ n * sum_by (entries_count (its plant head declared l)) uses) (sym bound) most)

-- ---- All instances

context_number : (system : System) (n : ℕ) → n < context_count system → IsContext system (context_at system n) × (n ≡ place_of system (context_at system n))
context_number system n within = choose (nat_lt n (length system.tasks)) refl
  where
    choose : (task : Bool) → nat_lt n (length system.tasks) ≡ task
        → IsContext system (cond task (contexts.Task n) (contexts.Isr (n - length system.tasks)))
        × (n ≡ place_of system (cond task (contexts.Task n) (contexts.Isr (n - length system.tasks))))
    choose true e = (ltb-true n (length system.tasks) e, refl)
    choose false e = let above = ltb-false n (length system.tasks) e in (omega arith, omega arith)

instance_is : (plant : PlantData) → IsPlant plant → (head : Node) (number declared : ℕ) (l : Loop) → slice_get plant.flow.nodes number ≡ Some head
    → slice_get plant.timing.loops declared ≡ Some l → IsInstance plant head declared l (context_at plant.system head.context)
instance_is plant is head number declared l there at =
    let reached = at_slice (IsNode (program_in plant)) plant.flow.nodes number head is.graph.graph.nodes.are.reached there in
    let within : head.context < context_count plant.system = (let w : head.context < length (entries_of plant.image plant.system) =
    context_exists (program_in plant) head reached in
    let same = as_many_entries plant.image plant.system in omega arith) in
    let exists = context_number plant.system head.context within in
    record { exists = exists.0; place = exists.1; there = at }

all_both : {X : Type 0} (P : X → Type 0) (xs ys : List X) → AllByRecursion P xs → AllByRecursion P ys → AllByRecursion P (xs ++ ys)
all_both P [] ys all more = more
all_both P (x ∷ xs) ys all more = (all.0, all_both P xs ys all.1 more)

all_flat : {X : Type 0} (P : X → Type 0) (f : ℕ → List X) → ((n : ℕ) → AllByRecursion P (f n)) → (ns : List ℕ) → AllByRecursion P (flat_map f ns)
all_flat P f each [] = tt
all_flat P f each (n ∷ ns) = subst (AllByRecursion P) (sym (flat_map-cons f n ns)) (all_both P (f n) (flat_map f ns) (each n) (all_flat P f each ns))

all_chosen : {X : Type 0} (P : X → Type 0) (h : ℕ → Option X) → ((n : ℕ) (x : X) → h n ≡ Some x → P x) → (ns : List ℕ) → AllByRecursion P (filter_map h ns)
all_chosen P h each [] = tt
all_chosen {X} P h each (n ∷ ns) = chosen (h n) refl (all_chosen P h each ns)
  where
    chosen : (o : Option X) → h n ≡ o → AllByRecursion P (filter_map h ns) → AllByRecursion P (cons_option o (filter_map h ns))
    chosen None e more = more
    chosen (Some x) e more = (each n x e, more)

one_instance : (plant : PlantData) (P : LoopInstance → Type 0) (head : Node) (declared : ℕ) (found : Option Loop) (instance : LoopInstance)
    → ((l : Loop) → found ≡ Some l → P (instance_of plant.flow plant.blocks.blocks head declared l))
    → option_and_then (instance_at plant.flow plant.blocks.blocks head declared) found ≡ Some instance → P instance
one_instance plant P head declared None instance each e = absurd (none-some instance e)
one_instance plant P head declared (Some l) instance each e =
    choose (nat_lt 0 (length (passing_edges plant.flow (is_back head l)))) e
  where
    choose : (some : Bool) → cond some (Some (instance_of plant.flow plant.blocks.blocks head declared l)) None ≡ Some instance → P instance
    choose true is = subst P (same_Some _ instance is) (each l refl)
    choose false is = absurd (none-some instance is)

head_instances : (plant : PlantData) (P : LoopInstance → Type 0)
    → ((number declared : ℕ) (head : Node) (l : Loop) → slice_get plant.flow.nodes number ≡ Some head → slice_get plant.timing.loops declared ≡ Some l
    → P (instance_of plant.flow plant.blocks.blocks head declared l))
    → (number : ℕ) → AllByRecursion P (instances_from plant.flow plant.blocks.blocks plant.timing.loops number)
head_instances plant P each number = found (slice_get plant.flow.nodes number) refl
  where
    first : (node : Node) → slice_get plant.flow.nodes number ≡ Some node → (is : Bool)
        → AllByRecursion P (cond is (instances_at plant.flow plant.blocks.blocks plant.timing.loops node) [])
    first node there true =
        all_chosen P (λ declared. option_and_then (instance_at plant.flow plant.blocks.blocks node declared) (slice_get plant.timing.loops declared))
        (λ declared instance e. one_instance plant P node declared (slice_get plant.timing.loops declared) instance
        (λ l at. each number declared node l there at) e)
        (range_with_len 0 (length plant.timing.loops))
    first node there false = tt

    found : (o : Option Node) → slice_get plant.flow.nodes number ≡ o
        → AllByRecursion P (option_map_or (λ node. cond (is_first plant.flow number node)
        (instances_at plant.flow plant.blocks.blocks plant.timing.loops node) []) o [])
    found None there = tt
    found (Some node) there = first node there (is_first plant.flow number node)

all_instances : (plant : PlantData) (P : LoopInstance → Type 0)
    → ((number declared : ℕ) (head : Node) (l : Loop) → slice_get plant.flow.nodes number ≡ Some head → slice_get plant.timing.loops declared ≡ Some l
    → P (instance_of plant.flow plant.blocks.blocks head declared l))
    → AllByRecursion P (loop_instances plant.flow plant.blocks.blocks plant.timing.loops)
all_instances plant P each =
    all_flat P (instances_from plant.flow plant.blocks.blocks plant.timing.loops) (head_instances plant P each) (range_with_len 0 (length plant.flow.nodes))

all_round : (plant : PlantData) → IsPlant plant → (uses : List Column)
    → ((head : Node) (declared : ℕ) (l : Loop) (own : Context) → IsInstance plant head declared l own
    → sum_by (backs_count (its plant head declared l)) uses ≤ l.bound * sum_by (entries_count (its plant head declared l)) uses)
    → All (Meets uses) (going_round plant)
all_round plant is uses each =
    let instances = loop_instances plant.flow plant.blocks.blocks plant.timing.loops in
    All-map (Meets uses) (goes_round plant) instances
    (All-from_recursion (λ (instance : LoopInstance). Meets uses (goes_round plant instance)) instances
    (all_instances plant (λ instance. Meets uses (goes_round plant instance))
    (λ number declared head l there at.
    let instance = instance_is plant is head number declared l there at in
    bound_is plant head declared l (context_at plant.system head.context) uses instance (each head declared l
    (context_at plant.system head.context) instance))))

-- ---- The law

-- the step that ends a task is a service
ends_nothing : (plant : PlantData) (mode : ℕ) (instance : LoopInstance) (event : Event) (earlier : List Event) (context : Context)
    → ended_by event ≡ Some context
    → (sum_option (backs_count instance) (used_by plant mode event earlier) ≡ 0) × (sum_option (entries_count instance) (used_by plant mode event earlier) ≡ 0)
ends_nothing plant mode instance (Arrive arrival) earlier context ends = absurd (none-some context ends)
ends_nothing plant mode instance (Take taking) earlier context ends = absurd (none-some context ends)
ends_nothing plant mode instance (Execute execution) earlier context ends = absurd (none-some context ends)
ends_nothing plant mode instance (Serve call) earlier context ends =
    moves_count_nothing instance (λ label. going_by plant mode label (Serve call) earlier) (label_of plant (Serve call))
ends_nothing plant mode instance (Idle cycles) earlier context ends = absurd (none-some context ends)

open_rounds : (plant : PlantData) (states : List AbsState) (task mode : ℕ) (events : List Event) (state : MachineState) (window : Window)
    → IsDeclaredCase plant states task mode events state → open_window plant task mode events ≡ Some window
    → (head : Node) (declared : ℕ) (l : Loop) (own : Context) → IsInstance plant head declared l own
    → sum_by (backs_count (its plant head declared l)) window.uses ≤ l.bound * sum_by (entries_count (its plant head declared l)) window.uses
open_rounds plant states task mode events state window case is_open head declared l own is =
    (of_open plant states task mode (λ events state window. Rounds plant head declared l own events state window.uses window.waiting)
    (rounds_in plant states task mode head declared l own is) events state window case is_open).most

pub meets_going_round : MeetsGoingRound
meets_going_round plant states task mode =
    of_used plant states task mode (λ events state uses since. All (Meets uses) (going_round plant)) (record {
      while_it_is_open = λ events state window since case is_open active.
          all_round plant case.of.belongs window.uses (open_rounds plant states task mode events state window case is_open);
      closes = λ event earlier before after window since later ends is_open active.
          all_round plant later.case.of.belongs (option_to_list (used_by plant mode event earlier) ++ window.uses)
          (λ head declared l own is.
          let most = open_rounds plant states task mode earlier before window later.case is_open head declared l own is in
          let nothing = ends_nothing plant mode (its plant head declared l) event earlier (contexts.Task task) ends in
          let backs = unused (backs_count (its plant head declared l)) (used_by plant mode event earlier) window.uses nothing.0 in
          let entries = unused (entries_count (its plant head declared l)) (used_by plant mode event earlier) window.uses nothing.1 in
          subst (λ n. n ≤ l.bound * sum_by (entries_count (its plant head declared l)) (option_to_list (used_by plant mode event earlier) ++ window.uses)) backs
          (subst (λ n. sum_by (backs_count (its plant head declared l)) window.uses ≤ l.bound * n) entries most));
    })
