-- Each use of a window is a column of the rows.
use Rattle.std.proofs.Common.{◌≡◌, ℕ, ◌<◌, inl, inr, Bool, true, false, cond, List, [], ◌∷◌, ◌++◌, All, Contains, length, map, Option, Some, None, refl, sym, ◌∙◌, ap, subst, arith, is_some}
use Rattle.std.specs.Prelude.{◌&&◌, ◌||◌, not, slice_get, option_map, option_to_list}
use Rattle.std.proofs.lemmas.List.{length-map}
use Rattle.std.proofs.lemmas.List.Elements.{All-nil, All-cons, All-append}
use Rattle.std.proofs.lemmas.Option.{none-some, same_Some, slice_get_within}
use Rattle.oil_model.specs.declared.system.System.{System}
use Rattle.osek_kernel.specs.declared.context.Context.{Context}
use Rattle.osek_kernel.specs.declared.context.Context.TheVariants as contexts
use Rattle.osek_kernel.specs.declared.kernel.Kernel.{Kernel}
use Rattle.osek_kernel.specs.declared.kernel.Reply.{Reply}
use Rattle.osek_kernel.specs.Contexts.{IsContext, context_count}
use Rattle.osek_kernel.specs.Kernel.{IsActive}
use Rattle.osek_kernel.specs.Positions.{position_of, placed, started}
use Rattle.osek_kernel.specs.Taken as kernels
use Rattle.osek_machine.specs.State.{MachineState}
use Rattle.osek_machine.specs.Events.{Event, Execution, Arrive, Take, Execute, Serve, Idle, started_by, ended_by}
use Rattle.osek_machine.specs.Loops.{is_this}
use Rattle.osek_machine.specs.Steps.{served_by}
use Rattle.osek_machine.proofs.Kept.{running_exists}
use Rattle.osek_machine.proofs.Placing.{placed_here, placed_count}
use Rattle.flow_graph.specs.declared.edge.Edge.{Edge}
use Rattle.wcet_atomic_blocks.specs.Blocks.{edges_at, is_service}
use Rattle.wcet_atomic_blocks.specs.Plants.{PlantData}
use Rattle.abstract_sched.specs.declared.states.AbsState.{AbsState}
use Rattle.scheduler_moves.specs.declared.moves.MoveLabel.{MoveLabel}
use Rattle.scheduler_moves.specs.declared.moves.MoveLabel.TheVariants as labels
use Rattle.scheduler_moves.specs.Moves.{is_active}
use Rattle.shadow_runs.specs.Covering.{FollowsEdge}
use Rattle.shadow_runs.specs.Shadow.{node_of}
use Rattle.row_build.specs.Columns.{Start, In, By, Along, Column, Starts, Moves, Goes, Stands, alongs, starts, state_after, columns, is_active_in, ends_in}
use Rattle.activation_windows.specs.Counted.{IsDeclaredCase, UsesAreColumns}
use Rattle.activation_windows.specs.Windows.{Window, shadow_after, running_after, entry_node, node_after, nodes_after, going_by, label_of, edge_taken, along_at, along_of, used_by, start_by, waiting_after, run_in, open_window}
use Rattle.activation_windows.proofs.Moving.{kernel_in, going_listed, asks_of, ends_too}
use Rattle.activation_windows.proofs.Induction.{IsLater, Inducts, OfUses, covers_of, step_of, kernel_is, of_open, of_used}
use Rattle.activation_windows.proofs.Listed.{starts_listed, start_in_listed, start_by_listed, moves_listed, goes_listed, along_member}
use Rattle.activation_windows.proofs.Nodes.{start_there}
use Rattle.activation_windows.proofs.AtNodes.{at_node_of}
use Rattle.activation_windows.proofs.VisitNodes.{WaitAtNodes, IsAtEntry, made_of, joined, standing_visits, step_visits, run_in_visits}
use Rattle.activation_windows.proofs.Windows.{IsWhole, is_whole, nodes_count, waiting_count, runner_exists, started_active, take_active, serve_active}

-- ---- What a step uses

along_listed : (plant : PlantData) (states : List AbsState) (task mode : ℕ) (execution : Execution) (earlier : List Event) (before after : MachineState)
    (along : Along) → IsLater plant states task mode (Execute execution) earlier before after
    → along_of plant execution ≡ Some along → Contains (alongs plant) along
along_listed plant states task mode execution earlier before after along later e =
    let node = joined (λ n. along_at plant n (edge_taken plant execution)) (node_of plant execution.context execution.before) along e in
    let made = made_of (λ (edge : Edge ℕ). record { node = node.0; place = edge_taken plant execution; edge = edge })
    (slice_get (edges_at plant.flow node.0) (edge_taken plant execution)) along node.2 in
    let follows : FollowsEdge plant mode execution earlier before after = (step_of plant states task mode (Execute execution) earlier before after later).0 in
    let exists : IsContext plant.system execution.context =
    running_exists plant.system before execution.context (covers_of plant states task mode earlier before later.case).room later.step.running in
    let at = at_node_of plant states task mode earlier before execution.context execution.before later.case exists later.step.stands in
    let same : at.number ≡ node.0 = same_Some at.number node.0 (sym at.found ∙ node.1) in
    let within : at.number < length plant.flow.nodes = slice_get_within plant.flow.nodes at.number at.node at.listed in
    let here : node.0 < length plant.flow.nodes = omega arith in
    let instruction : is_service plant.flow node.0 ≡ false =
    ap (is_service plant.flow) (same_Some node.0 follows.node (sym node.1 ∙ follows.stands)) ∙ follows.instruction in
    subst (Contains (alongs plant)) made.2 (along_member plant node.0 (edge_taken plant execution) made.0 here instruction made.1)

-- the state before a step has the task active where the machine does
pub active_before : (plant : PlantData) (states : List AbsState) (task mode : ℕ) (events : List Event) (state : MachineState)
    → IsDeclaredCase plant states task mode events state → IsActive state.kernel (contexts.Task task)
    → is_active_in (shadow_after plant mode events) (contexts.Task task) ≡ true
active_before plant states task mode events state case is =
    ap (λ (k : Kernel). is_active k (contexts.Task task)) (kernel_in plant states task mode events state case) ∙ is

move_listed : (plant : PlantData) (states : List AbsState) (task mode : ℕ) (event : Event) (earlier : List Event) (before after : MachineState)
    (column : Column) → IsLater plant states task mode event earlier before after → IsActive before.kernel (contexts.Task task)
    → option_map (λ label. Moves (going_by plant mode label event earlier)) (label_of plant event) ≡ Some column
    → Contains (columns plant states task) column
move_listed plant states task mode event earlier before after column later active e =
    let made = made_of (λ label. Moves (going_by plant mode label event earlier)) (label_of plant event) column e in
    subst (Contains (columns plant states task)) made.2 (moves_listed plant states task (going_by plant mode made.0 event earlier)
    (going_listed plant states task mode made.0 event earlier before after later made.1)
    (active_before plant states task mode earlier before later.case active))

pub used_listed : (plant : PlantData) (states : List AbsState) (task mode : ℕ) (event : Event) (earlier : List Event) (before after : MachineState)
    (column : Column) → IsLater plant states task mode event earlier before after → IsActive before.kernel (contexts.Task task)
    → used_by plant mode event earlier ≡ Some column → Contains (columns plant states task) column
used_listed plant states task mode (Arrive arrival) earlier before after column later active e =
    move_listed plant states task mode (Arrive arrival) earlier before after column later active e
used_listed plant states task mode (Take taking) earlier before after column later active e =
    move_listed plant states task mode (Take taking) earlier before after column later active e
used_listed plant states task mode (Execute execution) earlier before after column later active e =
    let made = made_of Goes (along_of plant execution) column e in
    subst (Contains (columns plant states task)) made.2 (goes_listed plant states task made.0
    (along_listed plant states task mode execution earlier before after made.0 later made.1))
used_listed plant states task mode (Serve call) earlier before after column later active e =
    move_listed plant states task mode (Serve call) earlier before after column later active e
used_listed plant states task mode (Idle cycles) earlier before after column later active e =
    move_listed plant states task mode (Idle cycles) earlier before after column later active e

-- ---- The start

-- A start of an activation of the task by the newest step: a column, by a move to the state behind it.
pub record IsStart (plant : PlantData) (states : List AbsState) (task mode : ℕ) (events : List Event) (column : Option Column) : Type 0 where
  pub start : Start
  pub is : column ≡ Some (Starts start)
  pub listed : Contains (starts plant states task) start
  pub leads : state_after plant start ≡ shadow_after plant mode events
  pub entry : IsAtEntry plant task mode events

pub label_known : (plant : PlantData) (states : List AbsState) (task mode : ℕ) (event : Event) (earlier : List Event) (before after : MachineState)
    (context : Context) → IsLater plant states task mode event earlier before after → started_by event ≡ Some context
    → (label : MoveLabel) × (label_of plant event ≡ Some label)
label_known plant states task mode (Arrive arrival) earlier before after context later e = absurd (none-some context e)
label_known plant states task mode (Take taking) earlier before after context later e = (labels.Take taking.source, refl)
label_known plant states task mode (Execute execution) earlier before after context later e = absurd (none-some context e)
label_known plant states task mode (Serve call) earlier before after context later e =
    let asks = asks_of plant states task mode call earlier before after later in
    (labels.Service asks.at.number, ap (option_map labels.Service) asks.at.found)
label_known plant states task mode (Idle cycles) earlier before after context later e = absurd (none-some context e)

activated_is : (t : Option ℕ) (task : ℕ) → option_map contexts.Task t ≡ Some (contexts.Task task) → t ≡ Some task
activated_is None task e = absurd (none-some (contexts.Task task) e)
activated_is (Some t) task e = let same : contexts.Task t ≡ contexts.Task task = same_Some (contexts.Task t) (contexts.Task task) e in ap Some cc

-- a step that starts the task where it is active ends it first
ends_first : (plant : PlantData) (states : List AbsState) (task mode : ℕ) (event : Event) (earlier : List Event) (before after : MachineState)
    → IsLater plant states task mode event earlier before after → started_by event ≡ Some (contexts.Task task)
    → IsActive before.kernel (contexts.Task task) → ended_by event ≡ Some (contexts.Task task)
ends_first plant states task mode (Arrive arrival) earlier before after later e active = absurd (none-some (contexts.Task task) e)
ends_first plant states task mode (Take taking) earlier before after later e active =
    absurd ((take_active plant.system taking before plant.image after later.step).fresh_start (contexts.Task task) (sym later.step.started ∙ e) active)
ends_first plant states task mode (Execute execution) earlier before after later e active = absurd (none-some (contexts.Task task) e)
ends_first plant states task mode (Serve call) earlier before after later e active =
    let done = served_by plant.system call before in
    let activated : done.reply.activated ≡ Some task =
    activated_is done.reply.activated task (ap (λ (r : Reply). option_map contexts.Task r.activated) (sym later.step.replied) ∙ e) in
    elim ((serve_active plant.system call before plant.image after later.step).again task activated) [
      | inl none ↦ absurd (let wrong : true ≡ false = sym active ∙ ap is_some none in cc)
      | inr ended ↦ ap (λ (r : Reply). r.ended) later.step.replied ∙ ended
    ]
ends_first plant states task mode (Idle cycles) earlier before after later e active = absurd (none-some (contexts.Task task) e)

activates_if : (to from ends : Bool) → to ≡ true → (from ≡ true → ends ≡ true) → (to && (not from || ends)) ≡ true
activates_if true true ends is then = then refl
activates_if true false ends is then = refl
activates_if false from ends is then = absurd cc

started_here : {P : Type 0} (system : System) (entry : Context → Option P) (who : Option Context) (d : Context) (xs : List (Option P))
    → who ≡ Some d → IsContext system d → length xs ≡ context_count system → position_of system (started system entry who xs) d ≡ entry d
started_here system entry None d xs e exists count = absurd (none-some d e)
started_here system entry (Some c) d xs e exists count =
    ap (λ (o : Context). position_of system (placed system o (entry o) xs) d) (same_Some c d e) ∙ placed_here system d (entry d) xs exists count

pub starts_at_entry : (plant : PlantData) (states : List AbsState) (task mode : ℕ) (event : Event) (earlier : List Event) (before after : MachineState)
    → IsLater plant states task mode event earlier before after → started_by event ≡ Some (contexts.Task task)
    → position_of plant.system (nodes_after plant mode (event ∷ earlier)) (contexts.Task task) ≡ entry_node plant (contexts.Task task)
starts_at_entry plant states task mode (Arrive arrival) earlier before after later e = absurd (none-some (contexts.Task task) e)
starts_at_entry plant states task mode (Take taking) earlier before after later e =
    started_here plant.system (entry_node plant) taking.started (contexts.Task task) (nodes_after plant mode earlier) e later.case.exists
    (nodes_count plant mode earlier)
starts_at_entry plant states task mode (Execute execution) earlier before after later e = absurd (none-some (contexts.Task task) e)
starts_at_entry plant states task mode (Serve call) earlier before after later e =
    let gone : List (Option ℕ) =
    placed plant.system call.caller (cond (is_some call.reply.ended) None (node_after plant call)) (nodes_after plant mode earlier) in
    started_here plant.system (entry_node plant) (option_map contexts.Task call.reply.activated) (contexts.Task task) gone e later.case.exists
    (placed_count plant.system call.caller (cond (is_some call.reply.ended) None (node_after plant call)) (nodes_after plant mode earlier)
    ∙ nodes_count plant mode earlier)
starts_at_entry plant states task mode (Idle cycles) earlier before after later e = absurd (none-some (contexts.Task task) e)

starts_by_move : (plant : PlantData) (mode : ℕ) (label : MoveLabel) (event : Event) (earlier : List Event) → label_of plant event ≡ Some label
    → start_by plant mode event earlier ≡ Some (Starts (By (going_by plant mode label event earlier)))
starts_by_move plant mode label event earlier e = ap (option_map (λ l. Starts (By (going_by plant mode l event earlier)))) e

pub started_start : (plant : PlantData) (states : List AbsState) (task mode : ℕ) (event : Event) (earlier : List Event) (before after : MachineState)
    → IsLater plant states task mode event earlier before after → started_by event ≡ Some (contexts.Task task)
    → IsStart plant states task mode (event ∷ earlier) (start_by plant mode event earlier)
started_start plant states task mode event earlier before after later e =
    let label = label_known plant states task mode event earlier before after (contexts.Task task) later e in
    let going = going_by plant mode label.0 event earlier in
    record {
      start = By going;
      is = starts_by_move plant mode label.0 event earlier label.1;
      listed = start_by_listed plant states task going (going_listed plant states task mode label.0 event earlier before after later label.1)
          (activates_if (is_active_in (shadow_after plant mode (event ∷ earlier)) (contexts.Task task))
          (is_active_in (shadow_after plant mode earlier) (contexts.Task task)) (ends_in plant (contexts.Task task) going)
          (active_before plant states task mode (event ∷ earlier) after later.whole (started_active plant states task mode event earlier before after later e))
          (λ active. ends_too plant states task mode (contexts.Task task) label.0 event earlier before after later label.1
          (ends_first plant states task mode event earlier before after later e
          (ap (λ (k : Kernel). is_active k (contexts.Task task)) (sym (kernel_in plant states task mode earlier before later.case)) ∙ active))));
      leads = refl;
      entry = λ node at. sym (starts_at_entry plant states task mode event earlier before after later e) ∙ at;
    }

pub initial_start : (plant : PlantData) (states : List AbsState) (task mode : ℕ) (state : MachineState)
    → IsDeclaredCase plant states task mode [] state → is_active (kernels.initial plant.system mode) (contexts.Task task) ≡ true
    → IsStart plant states task mode [] (Some (Starts (In mode)))
initial_start plant states task mode state case is = record {
  start = In mode;
  is = refl;
  listed = start_in_listed plant states task mode case.of.run.exists
      (active_before plant states task mode [] state case
      (subst (λ (k : Kernel). IsActive k (contexts.Task task)) (kernel_is plant mode [] state case.of.run) is));
  leads = refl;
  entry = λ node at. sym (start_there plant mode (contexts.Task task) case.exists
      ∙ ap (λ b. cond b (entry_node plant (contexts.Task task)) None) is) ∙ at;
}

-- ---- Every use of an open window

-- what an open window has used are columns, and so are the visits that wait
pub record AreListed (plant : PlantData) (states : List AbsState) (task mode : ℕ) (events : List Event) (state : MachineState) (window : Window)
    : Type 0 where
  pub uses : All (Contains (columns plant states task)) window.uses
  pub waiting : WaitAtNodes plant states task window.waiting (nodes_after plant mode events)

all_option : {A : Type 0} (P : A → Type 0) (o : Option A) → ((x : A) → o ≡ Some x → P x) → All P (option_to_list o)
all_option P None holds = All-nil P
all_option P (Some x) holds = All-cons P x [] (holds x refl) (All-nil P)

run_in_uses : (plant : PlantData) (states : List AbsState) (task : ℕ) (who : Option Context) (window : Window) (nodes : List (Option ℕ))
    → ((c : Context) → who ≡ Some c → IsContext plant.system c)
    → WaitAtNodes plant states task window.waiting nodes → All (Contains (columns plant states task)) window.uses
    → All (Contains (columns plant states task)) (run_in plant who window).uses
run_in_uses plant states task None window nodes exist wait uses = uses
run_in_uses plant states task (Some context) window nodes exist wait uses =
    All-append (Contains (columns plant states task)) (option_to_list (position_of plant.system window.waiting context)) window.uses
    (all_option (Contains (columns plant states task)) (position_of plant.system window.waiting context)
    (λ column e. (wait context (exist context refl) column e).listed)) uses

ran_listed : (plant : PlantData) (states : List AbsState) (task mode : ℕ) (events : List Event) (state : MachineState) (window : Window)
    → IsDeclaredCase plant states task mode events state → length window.waiting ≡ context_count plant.system
    → AreListed plant states task mode events state window
    → AreListed plant states task mode events state (run_in plant (running_after plant mode events) window)
ran_listed plant states task mode events state window case count are = record {
  uses = run_in_uses plant states task (running_after plant mode events) window (nodes_after plant mode events)
      (λ c e. runner_exists plant states task mode events state c case e) are.waiting are.uses;
  waiting = run_in_visits plant states task (running_after plant mode events) window (nodes_after plant mode events)
      (λ c e. runner_exists plant states task mode events state c case e) count are.waiting;
}

-- a window as it opens, before the visit of the context that runs is used
abbrev pub opened_first : PlantData → ℕ → Option Column → List Event → Window
opened_first plant mode column events =
    record { uses = option_to_list column; waiting = map (λ node. option_map Stands node) (nodes_after plant mode events) }

-- a window after a step, before the visit of the context that runs is used
abbrev pub stepped : PlantData → ℕ → Event → List Event → Window → Window
stepped plant mode event earlier window =
    record { uses = option_to_list (used_by plant mode event earlier) ++ window.uses; waiting = waiting_after plant event window.waiting }

opened_count : (plant : PlantData) (mode : ℕ) (column : Option Column) (events : List Event)
    → length (opened_first plant mode column events).waiting ≡ context_count plant.system
opened_count plant mode column events =
    length-map (nodes_after plant mode events) (λ (node : Option ℕ). option_map Stands node) ∙ nodes_count plant mode events

opened_listed : (plant : PlantData) (states : List AbsState) (task mode : ℕ) (events : List Event) (state : MachineState) (column : Option Column)
    → IsDeclaredCase plant states task mode events state
    → IsStart plant states task mode events column → AreListed plant states task mode events state (opened_first plant mode column events)
opened_listed plant states task mode events state column case start = record {
  uses = all_option (Contains (columns plant states task)) column (λ c e.
      subst (Contains (columns plant states task)) (same_Some (Starts start.start) c (sym start.is ∙ e))
      (starts_listed plant states task start.start start.listed));
  waiting = standing_visits plant states task mode start.start events state case start.listed start.leads start.entry;
}

stepped_listed : (plant : PlantData) (states : List AbsState) (task mode : ℕ) (event : Event) (earlier : List Event) (before after : MachineState)
    (window : Window) → IsLater plant states task mode event earlier before after
    → is_this (contexts.Task task) (started_by event) ≡ false → IsWhole plant task mode earlier before window
    → AreListed plant states task mode earlier before window
    → AreListed plant states task mode (event ∷ earlier) after (stepped plant mode event earlier window)
stepped_listed plant states task mode event earlier before after window later new was are = record {
  uses = All-append (Contains (columns plant states task)) (option_to_list (used_by plant mode event earlier)) window.uses
      (all_option (Contains (columns plant states task)) (used_by plant mode event earlier) (λ column e.
      used_listed plant states task mode event earlier before after column later was.active e)) are.uses;
  waiting = step_visits plant states task mode event earlier before after window.waiting later new was.count was.ran are.waiting;
}

windows_are_listed : (plant : PlantData) (states : List AbsState) (task mode : ℕ) → Inducts plant states task mode (AreListed plant states task mode)
windows_are_listed plant states task mode = record {
  starts = λ state case is. ran_listed plant states task mode [] state (opened_first plant mode (Some (Starts (In mode))) []) case
      (opened_count plant mode (Some (Starts (In mode))) [])
      (opened_listed plant states task mode [] state (Some (Starts (In mode))) case (initial_start plant states task mode state case is));
  begins = λ event earlier before after later is.
      let column = start_by plant mode event earlier in
      ran_listed plant states task mode (event ∷ earlier) after (opened_first plant mode column (event ∷ earlier)) later.whole
      (opened_count plant mode column (event ∷ earlier))
      (opened_listed plant states task mode (event ∷ earlier) after column later.whole
      (started_start plant states task mode event earlier before after later is));
  goes_on = λ event earlier before after window later new on is_open are.
      let was = is_whole plant states task mode earlier before window later.case is_open in
      ran_listed plant states task mode (event ∷ earlier) after (stepped plant mode event earlier window) later.whole
      (waiting_count plant event window.waiting ∙ was.count)
      (stepped_listed plant states task mode event earlier before after window later new was are);
}

pub are_listed : (plant : PlantData) (states : List AbsState) (task mode : ℕ) (events : List Event) (state : MachineState) (window : Window)
    → IsDeclaredCase plant states task mode events state → open_window plant task mode events ≡ Some window
    → AreListed plant states task mode events state window
are_listed plant states task mode events state window case e =
    of_open plant states task mode (AreListed plant states task mode) (windows_are_listed plant states task mode) events state window case e

-- ---- Induction by the parts of a step

-- A property of windows as they open, after each step, and after the visit of the context that runs is used.
pub record InductsByParts (plant : PlantData) (states : List AbsState) (task mode : ℕ) (P : List Event → MachineState → Window → Type 0) : Type 0 where
  pub opens : (events : List Event) (state : MachineState) (column : Option Column) → IsDeclaredCase plant states task mode events state
      → IsStart plant states task mode events column → P events state (opened_first plant mode column events)
  pub steps : (event : Event) (earlier : List Event) (before after : MachineState) (window : Window)
      → IsLater plant states task mode event earlier before after
      → is_this (contexts.Task task) (started_by event) ≡ false → is_this (contexts.Task task) (ended_by event) ≡ false
      → IsWhole plant task mode earlier before window → AreListed plant states task mode earlier before window
      → P earlier before window → P (event ∷ earlier) after (stepped plant mode event earlier window)
  pub ran : (events : List Event) (state : MachineState) (window : Window) (context : Context) → IsDeclaredCase plant states task mode events state
      → IsContext plant.system context → running_after plant mode events ≡ Some context → length window.waiting ≡ context_count plant.system
      → AreListed plant states task mode events state window
      → P events state window → P events state (run_in plant (Some context) window)

ran_if : (plant : PlantData) (states : List AbsState) (task mode : ℕ) (P : List Event → MachineState → Window → Type 0)
    → InductsByParts plant states task mode P → (events : List Event) (state : MachineState) (window : Window)
    → IsDeclaredCase plant states task mode events state → length window.waiting ≡ context_count plant.system
    → AreListed plant states task mode events state window → P events state window
    → (who : Option Context) → running_after plant mode events ≡ who → P events state (run_in plant who window)
ran_if plant states task mode P inducts events state window case count are held None e = held
ran_if plant states task mode P inducts events state window case count are held (Some context) e =
    inducts.ran events state window context case (runner_exists plant states task mode events state context case e) e count are held

pub by_parts : (plant : PlantData) (states : List AbsState) (task mode : ℕ) (P : List Event → MachineState → Window → Type 0)
    → InductsByParts plant states task mode P → Inducts plant states task mode P
by_parts plant states task mode P inducts = record {
  starts = λ state case is.
      let column : Option Column = Some (Starts (In mode)) in
      let start = initial_start plant states task mode state case is in
      ran_if plant states task mode P inducts [] state (opened_first plant mode column []) case (opened_count plant mode column [])
      (opened_listed plant states task mode [] state column case start) (inducts.opens [] state column case start) (running_after plant mode []) refl;
  begins = λ event earlier before after later is.
      let column = start_by plant mode event earlier in
      let start = started_start plant states task mode event earlier before after later is in
      ran_if plant states task mode P inducts (event ∷ earlier) after (opened_first plant mode column (event ∷ earlier)) later.whole
      (opened_count plant mode column (event ∷ earlier))
      (opened_listed plant states task mode (event ∷ earlier) after column later.whole start)
      (inducts.opens (event ∷ earlier) after column later.whole start) (running_after plant mode (event ∷ earlier)) refl;
  goes_on = λ event earlier before after window later new on is_open held.
      let was = is_whole plant states task mode earlier before window later.case is_open in
      let are = are_listed plant states task mode earlier before window later.case is_open in
      ran_if plant states task mode P inducts (event ∷ earlier) after (stepped plant mode event earlier window) later.whole
      (waiting_count plant event window.waiting ∙ was.count)
      (stepped_listed plant states task mode event earlier before after window later new was are)
      (inducts.steps event earlier before after window later new on was are held) (running_after plant mode (event ∷ earlier)) refl;
}

-- ---- The law

uses_listed : (plant : PlantData) (states : List AbsState) (task mode : ℕ)
    → OfUses plant states task mode (λ events state uses since. All (Contains (columns plant states task)) uses)
uses_listed plant states task mode = record {
  while_it_is_open = λ events state window since case is_open active. (are_listed plant states task mode events state window case is_open).uses;
  closes = λ event earlier before after window since later ends is_open active.
      All-append (Contains (columns plant states task)) (option_to_list (used_by plant mode event earlier)) window.uses
      (all_option (Contains (columns plant states task)) (used_by plant mode event earlier) (λ column e.
      used_listed plant states task mode event earlier before after column later
      (is_whole plant states task mode earlier before window later.case is_open).active e))
      (are_listed plant states task mode earlier before window later.case is_open).uses;
}

pub uses_are_columns : UsesAreColumns
uses_are_columns plant states task mode events state uses since case used =
    of_used plant states task mode (λ events state uses since. All (Contains (columns plant states task)) uses) (uses_listed plant states task mode)
    events state uses since case used
