-- How often a window has taken a source. A source that waits counts as one more take.
use Rattle.std.proofs.Common.{◌≡◌, ℕ, ◌+◌, ◌≤◌, Bool, true, false, cond, List, [], ◌∷◌, ◌++◌, Option, Some, None, refl, sym, ◌∙◌, ap, arith}
use Rattle.std.specs.Prelude.{◌==◌, is_some, map, sum_by, option_and_then, option_map, option_to_list}
use Rattle.std.proofs.lemmas.Bool.{eqb-true}
use Rattle.std.proofs.lemmas.Option.{none-some}
use Rattle.osek_kernel.specs.declared.context.Context.{Context}
use Rattle.osek_kernel.specs.declared.context.Context.TheVariants as contexts
use Rattle.osek_machine.specs.State.{MachineState}
use Rattle.osek_machine.specs.Events.{ServiceCall, Event, Arrive, Take, Execute, Serve, Idle, started_by}
use Rattle.osek_machine.specs.Steps.{Takes}
use Rattle.wcet_atomic_blocks.specs.Plants.{PlantData}
use Rattle.abstract_sched.specs.declared.states.AbsState.{AbsState}
use Rattle.scheduler_moves.specs.declared.moves.MoveLabel.{MoveLabel}
use Rattle.scheduler_moves.specs.declared.moves.MoveLabel.TheVariants as labels
use Rattle.scheduler_moves.specs.Moves.{entry_block}
use Rattle.shadow_runs.specs.Shadow.{node_of}
use Rattle.row_build.specs.Columns.{Along, By, Column, Starts, Moves, Goes, Begins, Stands, takes_source}
use Rattle.row_build.specs.Families.{is_start_by, taken}
use Rattle.activation_windows.specs.Windows.{Window, along_of, behind, entered, going_by, gone_on, nodes_after, opened, running_after, start_by, used_by, waiting_after}
use Rattle.osek_machine.proofs.Calendar.{in_calendar, waits}
use Rattle.activation_windows.proofs.Induction.{IsLater}
use Rattle.activation_windows.proofs.Sums.{one, starts_count, moves_count, starts_counted, moves_counted, sum_counted, sum_option, sum_waiting, sum_with}
use Rattle.activation_windows.proofs.InBlocks.{newly, run_total, waiting_sum}
use Rattle.std.specs.Prelude.{pos}

-- ---- Columns that take it

abbrev pub takes : ℕ → Column → ℕ
takes source column = starts_count (is_start_by source) column + moves_count (λ going. takes_source source going.move.label) column

pub taken_counted : (source : ℕ) (column : Column) → taken source column ≡ pos (takes source column)
taken_counted source column =
    sum_counted _ _ (starts_count (is_start_by source) column) (moves_count (λ going. takes_source source going.move.label) column)
    (starts_counted (is_start_by source) column) (moves_counted (λ going. takes_source source going.move.label) column)

-- visits take nothing
visit_takes : (source : ℕ) (block : Option ℕ) → sum_option (takes source) (option_map Begins block) ≡ 0
visit_takes source None = refl
visit_takes source (Some block) = refl

entered_takes : (plant : PlantData) (source : ℕ) (who : Option Context) → sum_option (takes source) (option_and_then (entered plant) who) ≡ 0
entered_takes plant source None = refl
entered_takes plant source (Some context) = visit_takes source (entry_block plant context)

behind_takes : (plant : PlantData) (source : ℕ) (call : ServiceCall) (ended : Option Context)
    → sum_option (takes source) (cond (is_some ended) None (behind plant call)) ≡ 0
behind_takes plant source call None = visit_takes source _
behind_takes plant source call (Some context) = refl

newly_takes : (plant : PlantData) (source : ℕ) (event : Event) → newly plant (takes source) event ≡ 0
newly_takes plant source (Arrive arrival) = refl
newly_takes plant source (Take taking) = entered_takes plant source taking.started
newly_takes plant source (Execute execution) = refl
newly_takes plant source (Serve call) =
    let goes = behind_takes plant source call call.reply.ended in
    let begins = entered_takes plant source (option_map contexts.Task call.reply.activated) in
    omega arith
newly_takes plant source (Idle cycles) = refl

stands_take : (source : ℕ) (nodes : List (Option ℕ)) → sum_waiting (takes source) (map (λ node. option_map Stands node) nodes) ≡ 0
stands_take source [] = refl
stands_take source (None ∷ nodes) = let more = stands_take source nodes in omega arith
stands_take source (Some node ∷ nodes) = let more = stands_take source nodes in omega arith

-- ---- Windows

-- what is used and what waits
abbrev pub took : ℕ → Window → ℕ
took source window = sum_by (takes source) window.uses + sum_waiting (takes source) window.waiting

pub gone_on_took : (plant : PlantData) (mode source : ℕ) (event : Event) (earlier : List Event) (window : Window)
    → took source (gone_on plant mode event earlier window) ≤ took source window + sum_option (takes source) (used_by plant mode event earlier)
gone_on_took plant mode source event earlier window =
    let total = run_total plant (takes source) (running_after plant mode (event ∷ earlier))
    (record { uses = option_to_list (used_by plant mode event earlier) ++ window.uses; waiting = waiting_after plant event window.waiting }) in
    let used = sum_with (takes source) (used_by plant mode event earlier) window.uses in
    let waiting = waiting_sum plant (takes source) event window.waiting in
    let none = newly_takes plant source event in
    omega arith

pub one_use : (count : Column → ℕ) (column : Option Column) → sum_by count (option_to_list column) ≡ sum_option count column
one_use count None = refl
one_use count (Some column) = omega arith

pub opened_took : (plant : PlantData) (mode source : ℕ) (start : Option Column) (events : List Event)
    → took source (opened plant mode start events) ≡ sum_option (takes source) start
opened_took plant mode source start events =
    let total = run_total plant (takes source) (running_after plant mode events)
    (record { uses = option_to_list start; waiting = map (λ node. option_map Stands node) (nodes_after plant mode events) }) in
    let used = one_use (takes source) start in
    let none = stands_take source (nodes_after plant mode events) in
    omega arith

-- ---- Steps

-- whether the step is an arrival of the source
abbrev pub arrives_here : ℕ → Event → Bool
arrives_here source (Arrive arrival) = arrival.source == source
arrives_here source event = false

service_takes : (source : ℕ) (column : MoveLabel → Column) (found : Option ℕ) → ((node : ℕ) → takes source (column (labels.Service node)) ≡ 0)
    → sum_option (takes source) (option_map column (option_map labels.Service found)) ≡ 0
service_takes source column None none = refl
service_takes source column (Some node) none = none node

goes_take : (source : ℕ) (along : Option Along) → sum_option (takes source) (option_map Goes along) ≡ 0
goes_take source None = refl
goes_take source (Some along) = refl

take_counts : (here waiting : Bool) → (here ≡ true → waiting ≡ true) → one here + one (cond here false waiting) ≤ one waiting
take_counts true waiting arrived = rw (arrived refl) (omega arith)
take_counts false waiting arrived = omega arith

arrive_counts : (here waiting : Bool) → one (cond here true waiting) ≤ one waiting + one here
arrive_counts true waiting = omega arith
arrive_counts false waiting = omega arith

-- only an arrival makes it more
pub step_counts : (plant : PlantData) (states : List AbsState) (task mode source : ℕ) (event : Event) (earlier : List Event) (before after : MachineState)
    → IsLater plant states task mode event earlier before after
    → sum_option (takes source) (used_by plant mode event earlier) + one (waits source (event ∷ earlier))
    ≤ one (waits source earlier) + one (arrives_here source event)
step_counts plant states task mode source (Arrive arrival) earlier before after later = let counts = arrive_counts (arrival.source == source)
    (waits source earlier) in
    omega arith
step_counts plant states task mode source (Take taking) earlier before after later =
    let step : Takes plant.image plant.system taking before after = later.step in
    let arrived = (λ (same : (taking.source == source) ≡ true).
    ap (λ n. waits n earlier) (sym (eqb-true taking.source source same))
    ∙ (in_calendar plant.image plant.system mode earlier before later.case.of.run).pending taking.source step.pending) in
    let counts = take_counts (taking.source == source) (waits source earlier) arrived in
    omega arith
step_counts plant states task mode source (Execute execution) earlier before after later =
    let none = goes_take source (along_of plant execution) in omega arith
step_counts plant states task mode source (Serve call) earlier before after later =
    let none = service_takes source (λ label. Moves (going_by plant mode label (Serve call) earlier)) (node_of plant call.caller call.before) (λ node. refl) in
    omega arith
step_counts plant states task mode source (Idle cycles) earlier before after later = omega arith

one_at_most : (flag : Bool) → one flag ≤ 1
one_at_most true = omega arith
one_at_most false = omega arith

-- a step that starts a task takes it as well, where it takes it
pub start_counts : (plant : PlantData) (states : List AbsState) (task mode source : ℕ) (event : Event) (earlier : List Event) (before after : MachineState)
    (context : Context) → IsLater plant states task mode event earlier before after → started_by event ≡ Some context
    → sum_option (takes source) (start_by plant mode event earlier) + one (waits source (event ∷ earlier)) ≤ one (waits source earlier)
start_counts plant states task mode source (Arrive arrival) earlier before after context later starts = absurd (none-some context starts)
start_counts plant states task mode source (Take taking) earlier before after context later starts =
    let step : Takes plant.image plant.system taking before after = later.step in
    let arrived = (λ (same : (taking.source == source) ≡ true).
    ap (λ n. waits n earlier) (sym (eqb-true taking.source source same))
    ∙ (in_calendar plant.image plant.system mode earlier before later.case.of.run).pending taking.source step.pending) in
    let counts = take_counts (taking.source == source) (waits source earlier) arrived in
    omega arith
start_counts plant states task mode source (Execute execution) earlier before after context later starts = absurd (none-some context starts)
start_counts plant states task mode source (Serve call) earlier before after context later starts =
    let none = service_takes source (λ label. Starts (By (going_by plant mode label (Serve call) earlier))) (node_of plant call.caller call.before)
    (λ node. refl) in
    omega arith
start_counts plant states task mode source (Idle cycles) earlier before after context later starts = absurd (none-some context starts)

-- the same as counts of windows
pub gone_on_counts : (plant : PlantData) (states : List AbsState) (task mode source : ℕ) (event : Event) (earlier : List Event) (before after : MachineState)
    (window : Window) → IsLater plant states task mode event earlier before after
    → took source (gone_on plant mode event earlier window) + one (waits source (event ∷ earlier))
    ≤ (took source window + one (waits source earlier)) + one (arrives_here source event)
gone_on_counts plant states task mode source event earlier before after window later =
    let more = gone_on_took plant mode source event earlier window in
    let counts = step_counts plant states task mode source event earlier before after later in
    omega arith

pub opened_counts : (plant : PlantData) (states : List AbsState) (task mode source : ℕ) (event : Event) (earlier : List Event) (before after : MachineState)
    (context : Context) → IsLater plant states task mode event earlier before after → started_by event ≡ Some context
    → took source (opened plant mode (start_by plant mode event earlier) (event ∷ earlier)) + one (waits source (event ∷ earlier)) ≤ one (waits source earlier)
opened_counts plant states task mode source event earlier before after context later starts =
    let more = opened_took plant mode source (start_by plant mode event earlier) (event ∷ earlier) in
    let counts = start_counts plant states task mode source event earlier before after context later starts in
    omega arith

pub waits_once : (source : ℕ) (events : List Event) → one (waits source events) ≤ 1
waits_once source events = one_at_most (waits source events)
