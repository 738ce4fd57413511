-- An activation lasts no longer than what its uses cost: by induction on the steps of its window.
use Rattle.std.proofs.Common.{◌≡◌, ℕ, ◌+◌, ◌-◌, ◌≤◌, true, false, cond, List, ◌∷◌, ◌++◌, Option, Some, None, refl, sym, ◌∙◌, ap, subst, arith}
use Rattle.std.specs.Prelude.{IsSome, is_some, sum_by, map, option_map, option_to_list}
use Rattle.std.proofs.lemmas.List.Sums.{sum_by-append}
use Rattle.std.proofs.lemmas.Option.{none-some, same_Some}
use Rattle.osek_kernel.specs.declared.context.Context.{Context}
use Rattle.osek_kernel.specs.declared.context.Context.TheVariants as contexts
use Rattle.osek_kernel.specs.Positions.{position_of}
use Rattle.osek_kernel.specs.Running.{runs}
use Rattle.osek_kernel.specs.Services.{service_of}
use Rattle.osek_kernel.proofs.Theorems.{the_first_runs}
use Rattle.osek_machine.specs.State.{MachineState}
use Rattle.osek_machine.specs.Events.{Event, Arrive, Take, Execute, Serve, Idle, cycles_of, duration, started_by, ended_by}
use Rattle.osek_machine.specs.Activations.{active_since}
use Rattle.osek_machine.specs.Loops.{is_this}
use Rattle.osek_machine.specs.Steps.{Serves}
use Rattle.wcet_atomic_blocks.specs.Plants.{PlantData}
use Rattle.abstract_sched.specs.declared.states.AbsState.{AbsState}
use Rattle.scheduler_moves.specs.declared.moves.MoveLabel.{MoveLabel}
use Rattle.scheduler_moves.specs.declared.moves.MoveLabel.TheVariants as labels
use Rattle.row_build.specs.Columns.{By, Column, Starts, Stands, Moves, cost}
use Rattle.shadow_runs.proofs.Behind.{AsksAt, asks_at}
use Rattle.activation_windows.specs.Counted.{IsDeclaredCase, UsesCoverTime}
use Rattle.activation_windows.specs.Windows.{Window, call_label, going_by, nodes_after, open_window, opened, run_in, running_after, start_by, used_by, waiting_after}
use Rattle.activation_windows.proofs.Costing.{execute_covers, serve_covers, take_covers}
use Rattle.activation_windows.proofs.EdgesTaken.{TakesEdge, takes_edge}
use Rattle.activation_windows.proofs.Induction.{IsLater, Inducts, covers_of, is_this_one, of_open, of_used}
use Rattle.activation_windows.proofs.Windows.{is_whole}

-- ---- Each step

pub asks_in : (plant : PlantData) (states : List AbsState) (task mode : ℕ) (call : _) (earlier : List Event) (before after : MachineState)
    → IsLater plant states task mode (Serve call) earlier before after → AsksAt plant call
asks_in plant states task mode call earlier before after later =
    let covers = covers_of plant states task mode earlier before later.case in
    asks_at plant later.case.of.belongs call before after covers.room later.step covers.walking

asked_is : (plant : PlantData) (states : List AbsState) (task mode : ℕ) (call : _) (earlier : List Event) (before after : MachineState)
    → IsLater plant states task mode (Serve call) earlier before after → (asks : AsksAt plant call) → service_of asks.serves.service.number ≡ Some call.service
asked_is plant states task mode call earlier before after later asks =
    let step : Serves plant.image plant.system call before after = later.step in
    ap service_of (sym asks.serves.number_is) ∙ step.service

-- the edge of an instruction step
pub edge_in : (plant : PlantData) (states : List AbsState) (task mode : ℕ) (execution : _) (earlier : List Event) (before after : MachineState)
    → IsLater plant states task mode (Execute execution) earlier before after → TakesEdge plant execution
edge_in plant states task mode execution earlier before after later =
    let covers = covers_of plant states task mode earlier before later.case in
    takes_edge plant later.case.of.belongs execution before after covers.room later.step later.pairs covers.walking

-- a column that is a move costs what the move does
moved_costs : (plant : PlantData) (cycles : ℕ) (column : MoveLabel → Column) (found : Option MoveLabel) (label : MoveLabel)
    → found ≡ Some label → cycles ≤ cost plant (column label) → cycles ≤ sum_by (cost plant) (option_to_list (option_map column found))
moved_costs plant cycles column found label same within =
    subst (λ (l : Option MoveLabel). cycles ≤ sum_by (cost plant) (option_to_list (option_map column l))) (sym same) (omega arith)

-- somebody runs in a window
nobody_idles : (plant : PlantData) (states : List AbsState) (task mode : ℕ) (events : List Event) (state : MachineState) (window : Window)
    → IsDeclaredCase plant states task mode events state → open_window plant task mode events ≡ Some window → runs plant.system state.kernel ≡ None → ⊥
nobody_idles plant states task mode events state window case is_open nobody =
    let somebody : IsSome (runs plant.system state.kernel) = (the_first_runs plant.system state.kernel).somebody (contexts.Task task)
    (is_whole plant states task mode events state window case is_open).active in
    let wrong : true ≡ false = sym somebody ∙ ap is_some nobody in cc

-- no step of a window takes longer than what it uses
step_covers : (plant : PlantData) (states : List AbsState) (task mode : ℕ) (event : Event) (earlier : List Event) (before after : MachineState)
    (window : Window)
    → IsLater plant states task mode event earlier before after → open_window plant task mode earlier ≡ Some window
    → cycles_of event ≤ sum_by (cost plant) (option_to_list (used_by plant mode event earlier))
step_covers plant states task mode (Arrive arrival) earlier before after window later is_open = omega arith
step_covers plant states task mode (Take taking) earlier before after window later is_open =
    moved_costs plant taking.cycles (λ label. Moves (going_by plant mode label (Take taking) earlier)) (Some (labels.Take taking.source))
    (labels.Take taking.source)
    refl (take_covers plant taking later.declared.costs.0)
step_covers plant states task mode (Execute execution) earlier before after window later is_open =
    execute_covers plant mode execution earlier (edge_in plant states task mode execution earlier before after later) later.declared.costs.0
step_covers plant states task mode (Serve call) earlier before after window later is_open =
    let asks = asks_in plant states task mode call earlier before after later in
    let costs = serve_covers plant later.case.of.belongs call asks
    (asked_is plant states task mode call earlier before after later asks) later.declared.costs.0 in
    moved_costs plant call.cycles (λ label. Moves (going_by plant mode label (Serve call) earlier)) (call_label plant call) (labels.Service asks.at.number)
    costs.0 costs.1
step_covers plant states task mode (Idle cycles) earlier before after window later is_open =
    absurd (nobody_idles plant states task mode earlier before window later.case is_open later.step.nobody)

-- nor does the step that opens it
start_covers : (plant : PlantData) (states : List AbsState) (task mode : ℕ) (event : Event) (earlier : List Event) (before after : MachineState)
    (context : Context)
    → IsLater plant states task mode event earlier before after → started_by event ≡ Some context
    → cycles_of event ≤ sum_by (cost plant) (option_to_list (start_by plant mode event earlier))
start_covers plant states task mode (Arrive arrival) earlier before after context later starts = omega arith
start_covers plant states task mode (Take taking) earlier before after context later starts =
    moved_costs plant taking.cycles (λ label. Starts (By (going_by plant mode label (Take taking) earlier))) (Some (labels.Take taking.source))
    (labels.Take taking.source) refl (take_covers plant taking later.declared.costs.0)
start_covers plant states task mode (Execute execution) earlier before after context later starts = absurd (none-some context starts)
start_covers plant states task mode (Serve call) earlier before after context later starts =
    let asks = asks_in plant states task mode call earlier before after later in
    let costs = serve_covers plant later.case.of.belongs call asks
    (asked_is plant states task mode call earlier before after later asks) later.declared.costs.0 in
    moved_costs plant call.cycles (λ label. Starts (By (going_by plant mode label (Serve call) earlier))) (call_label plant call)
    (labels.Service asks.at.number)
    costs.0 costs.1
start_covers plant states task mode (Idle cycles) earlier before after context later starts = absurd (none-some context starts)

-- ---- Windows

-- what a visit that waited adds costs nothing less
run_in_costs : (plant : PlantData) (who : Option Context) (window : Window)
    → sum_by (cost plant) window.uses ≤ sum_by (cost plant) (run_in plant who window).uses
run_in_costs plant None window = omega arith
run_in_costs plant (Some context) window =
    let all = sum_by-append (cost plant) (option_to_list (position_of plant.system window.waiting context)) window.uses in omega arith

opened_costs : (plant : PlantData) (mode : ℕ) (start : Option Column) (events : List Event)
    → sum_by (cost plant) (option_to_list start) ≤ sum_by (cost plant) (opened plant mode start events).uses
opened_costs plant mode start events =
    run_in_costs plant (running_after plant mode events)
    (record { uses = option_to_list start; waiting = map (λ node. option_map Stands node) (nodes_after plant mode events) })

-- since when the task is active, where a step starts it, or neither starts nor ends it
pub since_start : (plant : PlantData) (task mode : ℕ) (event : Event) (earlier : List Event) (since : ℕ) → started_by event ≡ Some (contexts.Task task)
    → active_since plant.system mode task (event ∷ earlier) ≡ Some since → duration earlier ≡ since
since_start plant task mode event earlier since starts e =
    same_Some (duration earlier) since
    (ap (λ b. cond b (Some (duration earlier)) (cond (is_this (contexts.Task task) (ended_by event)) None (active_since plant.system mode task earlier)))
    (sym (is_this_one (contexts.Task task) (started_by event) starts)) ∙ e)

pub since_before : (plant : PlantData) (task mode : ℕ) (event : Event) (earlier : List Event) (since : ℕ)
    → is_this (contexts.Task task) (started_by event) ≡ false → is_this (contexts.Task task) (ended_by event) ≡ false
    → active_since plant.system mode task (event ∷ earlier) ≡ Some since → active_since plant.system mode task earlier ≡ Some since
since_before plant task mode event earlier since goes_on stays e =
    sym (ap (λ b. cond b (Some (duration earlier)) (cond (is_this (contexts.Task task) (ended_by event)) None
    (active_since plant.system mode task earlier))) goes_on
    ∙ ap (λ b. cond b None (active_since plant.system mode task earlier)) stays) ∙ e

abbrev pub Lasts : PlantData → ℕ → ℕ → List Event → MachineState → Window → Type 0
Lasts plant task mode events state window =
    (since : ℕ) → active_since plant.system mode task events ≡ Some since → duration events ≤ since + sum_by (cost plant) window.uses

pub lasts : (plant : PlantData) (states : List AbsState) (task mode : ℕ) → Inducts plant states task mode (Lasts plant task mode)
lasts plant states task mode = record {
  starts = λ state case active since e. omega arith;
  begins = λ event earlier before after later starts since e.
      let begun = since_start plant task mode event earlier since starts e in
      let covers = start_covers plant states task mode event earlier before after (contexts.Task task) later starts in
      let more = opened_costs plant mode (start_by plant mode event earlier) (event ∷ earlier) in
      omega arith;
  goes_on = λ event earlier before after window later goes_on stays is_open held since e.
      let before_it = held since (since_before plant task mode event earlier since goes_on stays e) in
      let covers = step_covers plant states task mode event earlier before after window later is_open in
      let all = sum_by-append (cost plant) (option_to_list (used_by plant mode event earlier)) window.uses in
      let more = run_in_costs plant (running_after plant mode (event ∷ earlier))
      (record { uses = option_to_list (used_by plant mode event earlier) ++ window.uses; waiting = waiting_after plant event window.waiting }) in
      omega arith;
}

pub uses_cover_time : UsesCoverTime
uses_cover_time plant states task mode =
    of_used plant states task mode (λ events state uses since. duration events - since ≤ sum_by (cost plant) uses) (record {
      while_it_is_open = λ events state window since case is_open active.
          let within = of_open plant states task mode (Lasts plant task mode) (lasts plant states task mode) events state window case is_open since active in
          omega arith;
      closes = λ event earlier before after window since later ends is_open active.
          let within = of_open plant states task mode (Lasts plant task mode)
          (lasts plant states task mode) earlier before window later.case is_open since active in
          let covers = step_covers plant states task mode event earlier before after window later is_open in
          let all = sum_by-append (cost plant) (option_to_list (used_by plant mode event earlier)) window.uses in
          omega arith;
    })
