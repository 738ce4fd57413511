-- The visits that wait: each is a column of the rows, and begins at the node where its context stands.
use Rattle.std.proofs.Common.{◌≡◌, ℕ, inl, inr, Bool, true, false, cond, List, ◌∷◌, Contains, length, map, Option, Some, None, refl, sym, ◌∙◌, ap, subst, is_some}
use Rattle.std.specs.Prelude.{◌&&◌, ◌||◌, ◌==◌, not, nat_eq, slice_get, option_and_then, option_map}
use Rattle.std.specs.Option.{option_map_or}
use Rattle.std.specs.List.{list_any}
use Rattle.std.proofs.lemmas.Bool.{eqb-true, eq-eqb}
use Rattle.std.proofs.lemmas.Option.{none-some, same_Some, slice_get_within}
use Rattle.std.proofs.Math.ListN.{get_or-map}
use Rattle.osek_kernel.specs.declared.context.Context.{Context}
use Rattle.osek_kernel.specs.declared.context.Context.TheVariants as contexts
use Rattle.osek_kernel.specs.declared.kernel.Reply.{Reply}
use Rattle.osek_kernel.specs.Contexts.{IsContext, place_of, context_count}
use Rattle.osek_kernel.specs.Positions.{position_of}
use Rattle.osek_kernel.specs.Running.{runs}
use Rattle.osek_machine.specs.State.{MachineState}
use Rattle.osek_machine.specs.Events.{Event, ServiceCall, Arrive, Take, Execute, Serve, Idle, started_by}
use Rattle.osek_machine.specs.Loops.{is_this}
use Rattle.osek_machine.specs.Steps.{served_by, argument_in}
use Rattle.osek_machine.proofs.Kept.{running_exists, served_exists}
use Rattle.osek_machine.proofs.Placing.{contexts_apart}
use Rattle.wcet_atomic_blocks.specs.declared.block.Block.{Block}
use Rattle.wcet_atomic_blocks.specs.Blocks.{successor}
use Rattle.wcet_atomic_blocks.specs.PlantLaws.{BeginsBehind, AftersBegin, AftersAreNoEntries}
use Rattle.wcet_atomic_blocks.specs.Plants.{PlantData, IsPlant}
use Rattle.wcet_atomic_blocks.proofs.PlantFacts.{afters_begin, afters_are_no_entries}
use Rattle.abstract_sched.specs.declared.states.AbsState.{AbsState}
use Rattle.scheduler_moves.specs.Moves.{entry_block, block_behind}
use Rattle.shadow_runs.specs.Shadow.{node_of}
use Rattle.shadow_runs.proofs.Begun.{who_exists}
use Rattle.shadow_runs.proofs.Planted.{has_entry_block, there_is}
use Rattle.row_build.specs.Columns.{Start, Column, Starts, Moves, Goes, Begins, Stands, starts, columns, state_after, holds_in, is_own_entry, is_first_of, may_stand}
use Rattle.activation_windows.specs.Counted.{IsDeclaredCase}
use Rattle.activation_windows.specs.Windows.{Window, shadow_after, running_after, first_of_block, entry_node, node_after, nodes_after, entered, behind, waiting_after, run_in}
use Rattle.activation_windows.proofs.Induction.{IsLater, covers_of, is_this_one, this_is, kernel_is}
use Rattle.activation_windows.proofs.Listed.{any_member, begins_listed, stands_listed}
use Rattle.activation_windows.proofs.Nodes.{activated_exists}
use Rattle.activation_windows.proofs.Relating.{Relates, both_started, both_answered, first_placed, second_placed}
use Rattle.activation_windows.proofs.AtNodes.{stands_here, node_within, owner_is, shadow_holds}
use Rattle.activation_windows.proofs.Windows.{nodes_count}

-- ---- Visits

-- the node at which a visit begins
abbrev pub visit_node : PlantData → Column → Option ℕ
visit_node plant (Starts start) = None
visit_node plant (Moves going) = None
visit_node plant (Goes along) = None
visit_node plant (Begins block) = first_of_block plant block
visit_node plant (Stands node) = Some node

abbrev pub is_visit : Column → Bool
is_visit (Starts start) = false
is_visit (Moves going) = false
is_visit (Goes along) = false
is_visit (Begins block) = true
is_visit (Stands node) = true

-- A visit that is a column, by a context that stands at this node.
pub record IsVisit (plant : PlantData) (states : List AbsState) (task : ℕ) (node : Option ℕ) (column : Column) : Type 0 where
  pub listed : Contains (columns plant states task) column
  pub visits : is_visit column ≡ true
  pub at : node ≡ visit_node plant column

-- what waits for a context is a visit of its node
abbrev pub WaitsAt : PlantData → List AbsState → ℕ → Context → Option Column → Option ℕ → Type 0
WaitsAt plant states task context waits node = (column : Column) → waits ≡ Some column → IsVisit plant states task node column

abbrev pub WaitAtNodes : PlantData → List AbsState → ℕ → List (Option Column) → List (Option ℕ) → Type 0
WaitAtNodes plant states task waiting nodes = Relates plant.system (WaitsAt plant states task) waiting nodes

pub made_of : {A B : Type 0} (f : A → B) (o : Option A) (y : B) → option_map f o ≡ Some y → (x : A) × (o ≡ Some x) × (f x ≡ y)
made_of f None y e = absurd (none-some y e)
made_of f (Some x) y e = (x, refl, same_Some (f x) y e)

nobody_waits : (plant : PlantData) (states : List AbsState) (task : ℕ) (context : Context) (node : Option ℕ) → WaitsAt plant states task context None node
nobody_waits plant states task context at column e = absurd (none-some column e)

-- ---- Of a context that starts

other_entry : (plant : PlantData) → IsPlant plant → (task : ℕ) (context : Context) (block : ℕ) → IsContext plant.system (contexts.Task task)
    → IsContext plant.system context → entry_block plant context ≡ Some block → (context ≡ contexts.Task task → ⊥)
    → (same : Bool) → is_own_entry plant task block ≡ same → same ≡ false
other_entry plant is task context block own exists entered apart false e = refl
other_entry plant is task context block own exists entered apart true e =
    let mine = has_entry_block plant is (contexts.Task task) own in
    let its = has_entry_block plant is context exists in
    let same : block ≡ mine.number = eqb-true block mine.number (sym (ap (λ (o : Option ℕ). option_map_or (nat_eq block) o false) mine.entered) ∙ e) in
    let number : its.number ≡ mine.number = same_Some its.number block (sym its.entered ∙ entered) ∙ same in
    let blocks : its.block ≡ mine.block = same_Some its.block mine.block (sym its.there ∙ (ap (slice_get plant.blocks.blocks) number ∙ mine.there)) in
    let places : place_of plant.system context ≡ place_of plant.system (contexts.Task task) =
    sym its.begins.owner ∙ (ap (λ (b : Block). b.begin.owner) blocks ∙ mine.begins.owner) in
    elim (contexts_apart plant.system context (contexts.Task task) exists own) [
      | inl one ↦ absurd (apart one)
      | inr other ↦ absurd (other places)
    ]

pub entered_visit : (plant : PlantData) (states : List AbsState) → IsPlant plant → (task : ℕ) (context : Context)
    → IsContext plant.system (contexts.Task task) → IsContext plant.system context → (context ≡ contexts.Task task → ⊥)
    → WaitsAt plant states task context (entered plant context) (entry_node plant context)
entered_visit plant states is task context own exists apart column e =
    let made = made_of Begins (entry_block plant context) column e in
    let has = has_entry_block plant is context exists in
    let number : has.number ≡ made.0 = same_Some has.number made.0 (sym has.entered ∙ made.1) in
    let there : slice_get plant.blocks.blocks made.0 ≡ Some has.block = ap (slice_get plant.blocks.blocks) (sym number) ∙ has.there in
    subst (IsVisit plant states task (entry_node plant context)) made.2 (record {
      listed = begins_listed plant states task made.0 (slice_get_within plant.blocks.blocks made.0 has.block there)
          (other_entry plant is task context made.0 own exists made.1 apart (is_own_entry plant task made.0) refl);
      visits = refl;
      at = ap (option_and_then (first_of_block plant)) made.1;
    })

-- ---- Of a caller that goes on

pub joined : {A B : Type 0} (f : A → Option B) (o : Option A) (y : B) → option_and_then f o ≡ Some y → (x : A) × (o ≡ Some x) × (f x ≡ Some y)
joined f None y e = absurd (none-some y e)
joined f (Some x) y e = (x, refl, e)

no_entry : (plant : PlantData) → IsPlant plant → (task node block : ℕ) → slice_get plant.blocks.afters node ≡ Some (Some block)
    → (same : Bool) → is_own_entry plant task block ≡ same → same ≡ false
unfolding AftersAreNoEntries
no_entry plant is task node block after false e = refl
no_entry plant is task node block after true e = absurd (by (entry_block plant (contexts.Task task)) refl e)
  where
    by : (o : Option ℕ) → entry_block plant (contexts.Task task) ≡ o → option_map_or (nat_eq block) o false ≡ true → ⊥
    by None at is_it = cc
    by (Some entry) at is_it =
        afters_are_no_entries plant is node (place_of plant.system (contexts.Task task)) block after
        (at ∙ ap Some (sym (eqb-true block entry is_it)))

pub behind_visit : (plant : PlantData) (states : List AbsState) → IsPlant plant → (task : ℕ) (call : ServiceCall)
    → WaitsAt plant states task call.caller (behind plant call) (node_after plant call)
unfolding AftersBegin
behind_visit plant states is task call column e =
    let made = made_of Begins (option_and_then (block_behind plant) (node_of plant call.caller call.before)) column e in
    let node = joined (block_behind plant) (node_of plant call.caller call.before) made.0 made.1 in
    let after = joined (λ (behind : Option ℕ). behind) (slice_get plant.blocks.afters node.0) made.0 node.2 in
    let at : slice_get plant.blocks.afters node.0 ≡ Some (Some made.0) = after.1 ∙ ap Some after.2 in
    let begins = there_is (slice_get plant.blocks.blocks made.0) (BeginsBehind plant node.0) (afters_begin plant is node.0 made.0 at) in
    subst (IsVisit plant states task (node_after plant call)) made.2 (record {
      listed = begins_listed plant states task made.0 (slice_get_within plant.blocks.blocks made.0 begins.item begins.there)
          (no_entry plant is task node.0 made.0 at (is_own_entry plant task made.0) refl);
      visits = refl;
      at = ap (option_and_then (successor plant.flow)) node.1 ∙ (begins.holds.first ∙ sym (ap (option_map (λ (b : Block). b.begin.first)) begins.there));
    })

answered_visit : (plant : PlantData) (states : List AbsState) → IsPlant plant → (task : ℕ) (call : ServiceCall) (ended : Option Context)
    → WaitsAt plant states task call.caller (cond (is_some ended) None (behind plant call)) (cond (is_some ended) None (node_after plant call))
answered_visit plant states is task call None = behind_visit plant states is task call
answered_visit plant states is task call (Some context) = nobody_waits plant states task call.caller None

-- ---- Of the contexts that stand somewhere at the start

first_is : {A : Type 0} (g : ℕ → Option A) (first : A → ℕ) (o : Option ℕ) (node : ℕ) → option_and_then (λ b. option_map first (g b)) o ≡ Some node
    → option_map_or (λ x. first x == node) (option_and_then g o) false ≡ true
first_is g first None node e = absurd (none-some node e)
first_is {A} g first (Some b) node e = by (g b) e
  where
    by : (x : Option A) → option_map first x ≡ Some node → option_map_or (λ y. first y == node) x false ≡ true
    by None at = absurd (none-some node at)
    by (Some y) at = eq-eqb (first y) node (same_Some (first y) node at)

-- the task stands at its entry
abbrev pub IsAtEntry : PlantData → ℕ → ℕ → List Event → Type 0
IsAtEntry plant task mode events = (node : ℕ) → position_of plant.system (nodes_after plant mode events) (contexts.Task task) ≡ Some node
    → entry_node plant (contexts.Task task) ≡ Some node

stands_for : (plant : PlantData) (task node : ℕ) (context : Context) (start : Start) → holds_in plant (state_after plant start) context node ≡ true
    → (own : Bool) → is_this context (Some (contexts.Task task)) ≡ own → (own ≡ true → is_first_of plant task node ≡ true)
    → may_stand plant task node context start ≡ true
stands_for plant task node context start held true is first =
    ap (λ b. b && (not (is_this context (Some (contexts.Task task))) || is_first_of plant task node)) held
    ∙ (ap (λ b. not b || is_first_of plant task node) is ∙ first refl)
stands_for plant task node context start held false is first =
    ap (λ b. b && (not (is_this context (Some (contexts.Task task))) || is_first_of plant task node)) held
    ∙ ap (λ b. not b || is_first_of plant task node) is

pub standing_visits : (plant : PlantData) (states : List AbsState) (task mode : ℕ) (start : Start) (events : List Event) (state : MachineState)
    → IsDeclaredCase plant states task mode events state
    → Contains (starts plant states task) start → state_after plant start ≡ shadow_after plant mode events → IsAtEntry plant task mode events
    → WaitAtNodes plant states task (map (λ node. option_map Stands node) (nodes_after plant mode events)) (nodes_after plant mode events)
standing_visits plant states task mode start events state case listed same entry context exists column e =
    let here : option_map Stands (position_of plant.system (nodes_after plant mode events) context) ≡ Some column =
    sym (get_or-map (λ node. option_map Stands node) (nodes_after plant mode events) (place_of plant.system context) None) ∙ e in
    let made = made_of Stands (position_of plant.system (nodes_after plant mode events) context) column here in
    let node : ℕ = made.0 in
    let stands = stands_here plant states task mode events state context node case exists made.1 in
    let held : holds_in plant (state_after plant start) context node ≡ true =
    ap (λ (s : AbsState). holds_in plant s context node) same ∙ shadow_holds plant states task mode events state context node case stands in
    let may : may_stand plant task node context start ≡ true =
    stands_for plant task node context start held (is_this context (Some (contexts.Task task))) refl (λ own.
    let who : context ≡ contexts.Task task = sym (same_Some (contexts.Task task) context (this_is context (Some (contexts.Task task)) own)) in
    first_is (slice_get plant.blocks.blocks) (λ b. b.begin.first) (entry_block plant (contexts.Task task)) node
    (entry node (ap (position_of plant.system (nodes_after plant mode events)) (sym who) ∙ made.1))) in
    subst (IsVisit plant states task (position_of plant.system (nodes_after plant mode events) context)) made.2 (record {
      listed = stands_listed plant states task node (node_within plant mode events state context node stands)
          (ap (λ (o : Option Context). option_map_or (λ c. list_any (may_stand plant task node c) (starts plant states task)) o false)
          (owner_is plant mode events state context node exists stands)
          ∙ any_member (may_stand plant task node context) (starts plant states task) start listed may);
      visits = refl;
      at = made.1;
    })

-- ---- After a step

-- after a step that doesn't start the task, before the running context's visit is used
pub step_visits : (plant : PlantData) (states : List AbsState) (task mode : ℕ) (event : Event) (earlier : List Event) (before after : MachineState)
    (waiting : List (Option Column)) → IsLater plant states task mode event earlier before after
    → is_this (contexts.Task task) (started_by event) ≡ false
    → length waiting ≡ context_count plant.system
    → ((context : Context) → running_after plant mode earlier ≡ Some context → position_of plant.system waiting context ≡ None)
    → WaitAtNodes plant states task waiting (nodes_after plant mode earlier)
    → WaitAtNodes plant states task (waiting_after plant event waiting) (nodes_after plant mode (event ∷ earlier))
step_visits plant states task mode (Arrive arrival) earlier before after waiting later new count ran wait = wait
step_visits plant states task mode (Take taking) earlier before after waiting later new count ran wait =
    both_started plant.system (WaitsAt plant states task) (entered plant) (entry_node plant) taking.started waiting (nodes_after plant mode earlier)
    (λ d e. who_exists plant later.case.of.belongs taking before after (covers_of plant states task mode earlier before later.case).room later.step d
    (sym later.step.started ∙ e))
    count (nodes_count plant mode earlier)
    (λ d e exists. entered_visit plant states later.case.of.belongs task d later.case.exists exists (λ same.
    let wrong : true ≡ false = sym (is_this_one (contexts.Task task) taking.started (e ∙ ap Some same)) ∙ new in cc)) wait
step_visits plant states task mode (Execute execution) earlier before after waiting later new count ran wait =
    let exists : IsContext plant.system execution.context =
    running_exists plant.system before execution.context (covers_of plant states task mode earlier before later.case).room later.step.running in
    let free : position_of plant.system waiting execution.context ≡ None =
    ran execution.context (ap (runs plant.system) (kernel_is plant mode earlier before later.case.of.run) ∙ later.step.running) in
    second_placed plant.system (WaitsAt plant states task) execution.context (node_of plant execution.context execution.after) waiting
    (nodes_after plant mode earlier) exists (nodes_count plant mode earlier)
    (subst (λ (w : Option Column). WaitsAt plant states task execution.context w (node_of plant execution.context execution.after)) (sym free)
    (nobody_waits plant states task execution.context (node_of plant execution.context execution.after))) wait
step_visits plant states task mode (Serve call) earlier before after waiting later new count ran wait =
    both_answered plant.system (WaitsAt plant states task) (entered plant) (entry_node plant) call.caller (behind plant call) (node_after plant call)
    call.reply waiting (nodes_after plant mode earlier)
    (λ d e. activated_exists plant.system (served_by plant.system call before).reply.activated
    (served_exists plant.system before.kernel call.caller call.service (argument_in call.before) later.step.argument) d
    (ap (λ (r : Reply). option_map contexts.Task r.activated) (sym later.step.replied) ∙ e))
    (running_exists plant.system before call.caller (covers_of plant states task mode earlier before later.case).room later.step.running)
    count (nodes_count plant mode earlier)
    (λ d e exists. entered_visit plant states later.case.of.belongs task d later.case.exists exists (λ same.
    let wrong : true ≡ false = sym (is_this_one (contexts.Task task) (started_by (Serve call)) (e ∙ ap Some same)) ∙ new in cc))
    (answered_visit plant states later.case.of.belongs task call call.reply.ended) wait
step_visits plant states task mode (Idle cycles) earlier before after waiting later new count ran wait = wait

-- where the visit of the context that runs is used
pub run_in_visits : (plant : PlantData) (states : List AbsState) (task : ℕ) (who : Option Context) (window : Window) (nodes : List (Option ℕ))
    → ((c : Context) → who ≡ Some c → IsContext plant.system c) → length window.waiting ≡ context_count plant.system
    → WaitAtNodes plant states task window.waiting nodes → WaitAtNodes plant states task (run_in plant who window).waiting nodes
run_in_visits plant states task None window nodes exist count wait = wait
run_in_visits plant states task (Some context) window nodes exist count wait =
    first_placed plant.system (WaitsAt plant states task) context None window.waiting nodes (exist context refl) count
    (nobody_waits plant states task context (position_of plant.system nodes context)) wait
