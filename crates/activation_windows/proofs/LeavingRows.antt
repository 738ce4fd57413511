-- An activation has one start, and a state is left at most as often as it is come into.
use Rattle.std.proofs.Common.{◌≡◌, ℕ, ◌+◌, ◌≤◌, Bool, true, false, List, [], ◌∷◌, ◌++◌, All, map, Option, Some, None, refl, ◌∙◌, ap, arith}
use Rattle.std.specs.Prelude.{◌&&◌, not, option_map, option_to_list, filter, sum_by, pos, ◌-ℤ◌}
use Rattle.std.proofs.lemmas.List.Elements.{All-nil, All-cons}
use Rattle.std.proofs.lemmas.List.Sums.{sum_by-cons}
use Rattle.osek_kernel.specs.declared.context.Context.{Context}
use Rattle.osek_kernel.specs.declared.context.Context.TheVariants as contexts
use Rattle.osek_kernel.specs.Contexts.{IsContext}
use Rattle.osek_kernel.specs.Positions.{position_of}
use Rattle.osek_machine.specs.State.{MachineState}
use Rattle.osek_machine.specs.Events.{Event, Arrive, Take, Execute, Serve, Idle, ended_by}
use Rattle.osek_machine.specs.Loops.{is_this}
use Rattle.wcet_atomic_blocks.specs.Plants.{PlantData}
use Rattle.abstract_sched.specs.declared.states.AbsState.{AbsState}
use Rattle.abstract_sched.specs.States.{same_state}
use Rattle.scheduler_moves.specs.declared.moves.MoveLabel.{MoveLabel}
use Rattle.scheduler_moves.specs.declared.moves.MoveLabel.TheVariants as labels
use Rattle.row_build.specs.Columns.{Start, Along, Going, Column, Starts, Moves, Goes, Begins, Stands, state_after, ends_in, is_active_in}
use Rattle.row_build.specs.Families.{all_starts, one_start, moves_that, into, leaves}
use Rattle.activation_windows.specs.Counted.{IsDeclaredCase, Meets, MeetsFirst, MeetsLeaving}
use Rattle.activation_windows.specs.Windows.{Window, shadow_after, going_by, label_of, along_of, used_by, run_in, open_window}
use Rattle.activation_windows.proofs.Induction.{IsLater, OfUses, of_open, of_used}
use Rattle.activation_windows.proofs.Moving.{asks_of, ends_only}
use Rattle.activation_windows.proofs.Sums.{one, IsDifference, meets_by, starts_count, moves_count, into_count, moves_counted, into_counted, difference_counted, sum_option, sum_with}
use Rattle.activation_windows.proofs.Uses.{IsStart, AreListed, InductsByParts, by_parts, opened_first, stepped}
use Rattle.activation_windows.proofs.VisitNodes.{is_visit}

-- ---- Sums

pub all_made : {A B : Type 0} (P : B → Type 0) (f : A → B) (xs : List A) → ((x : A) → P (f x)) → All P (map f xs)
all_made P f [] each = All-nil P
all_made P f (x ∷ xs) each = All-cons P (f x) (map f xs) (each x) (all_made P f xs each)

-- where visits don't count, using one changes no sum
abbrev pub SparesVisits : (Column → ℕ) → Type 0
SparesVisits count = (column : Column) → is_visit column ≡ true → count column ≡ 0

spared : (count : Column → ℕ) → SparesVisits count → (waits : Option Column) → ((column : Column) → waits ≡ Some column → is_visit column ≡ true)
    → sum_option count waits ≡ 0
spared count spares None visits = refl
spared count spares (Some column) visits = spares column (visits column refl)

pub run_in_same : (plant : PlantData) (states : List AbsState) (task mode : ℕ) (events : List Event) (state : MachineState) (window : Window)
    (context : Context) (count : Column → ℕ) → SparesVisits count → IsContext plant.system context → AreListed plant states task mode events state window
    → sum_by count (run_in plant (Some context) window).uses ≡ sum_by count window.uses
run_in_same plant states task mode events state window context count spares exists are =
    sum_with count (position_of plant.system window.waiting context) window.uses
    ∙ ap (λ n. n + sum_by count window.uses)
    (spared count spares (position_of plant.system window.waiting context) (λ column e. (are.waiting context exists column e).visits))
    ∙ omega arith

pub start_sum : (count : Column → ℕ) (column : Option Column) (start : Start) → column ≡ Some (Starts start)
    → sum_by count (option_to_list column) ≡ count (Starts start)
start_sum count column start is =
    ap (λ (c : Option Column). sum_by count (option_to_list c)) is ∙ (sum_by-cons count (Starts start) [] ∙ omega arith)

-- the move of a step that has a label is used
pub move_used : (plant : PlantData) (mode : ℕ) (label : MoveLabel) (call : _) (earlier : List Event) → label_of plant (Serve call) ≡ Some label
    → used_by plant mode (Serve call) earlier ≡ Some (Moves (going_by plant mode label (Serve call) earlier))
move_used plant mode label call earlier e = ap (option_map (λ l. Moves (going_by plant mode l (Serve call) earlier))) e

-- ---- One start

no_start_along : (along : Option Along) → sum_option (starts_count (λ start. true)) (option_map Goes along) ≡ 0
no_start_along None = refl
no_start_along (Some along) = refl

no_start_move : (going : MoveLabel → Going) (label : Option MoveLabel) → sum_option (starts_count (λ start. true)) (option_map (λ l. Moves (going l)) label) ≡ 0
no_start_move going None = refl
no_start_move going (Some label) = refl

-- no step is a start
no_start : (plant : PlantData) (mode : ℕ) (event : Event) (earlier : List Event)
    → sum_option (starts_count (λ start. true)) (used_by plant mode event earlier) ≡ 0
no_start plant mode (Arrive arrival) earlier = refl
no_start plant mode (Take taking) earlier = refl
no_start plant mode (Execute execution) earlier = no_start_along (along_of plant execution)
no_start plant mode (Serve call) earlier = no_start_move (λ l. going_by plant mode l (Serve call) earlier) (label_of plant (Serve call))
no_start plant mode (Idle cycles) earlier = refl

no_start_visit : SparesVisits (starts_count (λ start. true))
no_start_visit (Starts start) is = absurd cc
no_start_visit (Moves going) is = refl
no_start_visit (Goes along) is = refl
no_start_visit (Begins block) is = refl
no_start_visit (Stands node) is = refl

abbrev StartsOnce : List Event → MachineState → Window → Type 0
StartsOnce events state window = sum_by (starts_count (λ start. true)) window.uses ≤ 1

starts_with : (plant : PlantData) (mode : ℕ) (event : Event) (earlier : List Event) (uses : List Column)
    → sum_by (starts_count (λ start. true)) (option_to_list (used_by plant mode event earlier) ++ uses) ≡ sum_by (starts_count (λ start. true)) uses
starts_with plant mode event earlier uses =
    sum_with (starts_count (λ start. true)) (used_by plant mode event earlier) uses
    ∙ (ap (λ n. n + sum_by (starts_count (λ start. true)) uses) (no_start plant mode event earlier) ∙ omega arith)

starts_once : (plant : PlantData) (states : List AbsState) (task mode : ℕ) → InductsByParts plant states task mode StartsOnce
starts_once plant states task mode = record {
  opens = λ events state column case start. (let sum : sum_by (starts_count (λ start. true)) (option_to_list column) ≡ 1 =
      start_sum (starts_count (λ start. true)) column start.start start.is in omega arith);
  steps = λ event earlier before after window later new on was are held. (let same = starts_with plant mode event earlier window.uses in omega arith);
  ran = λ events state window context case exists e count are held. (let same = run_in_same plant states task mode events state window context
      (starts_count (λ start. true)) no_start_visit exists are in omega arith);
}

one_of : (column : Column) → all_starts column ≡ (pos (starts_count (λ start. true) column) -ℤ pos 0)
one_of (Starts start) = refl
one_of (Moves going) = refl
one_of (Goes along) = refl
one_of (Begins block) = refl
one_of (Stands node) = refl

sum_none : (uses : List Column) → sum_by (λ (column : Column). 0) uses ≡ 0
sum_none [] = refl
sum_none (column ∷ columns) = sum_by-cons (λ (c : Column). 0) column columns ∙ (let more = sum_none columns in omega arith)

first_met : (uses : List Column) → sum_by (starts_count (λ start. true)) uses ≤ 1 → All (Meets uses) (one_start ∷ [])
first_met uses most = All-cons (Meets uses) one_start []
    (meets_by all_starts (starts_count (λ start. true)) (λ column. 0) 1 uses one_of (let none = sum_none uses in omega arith)) (All-nil (Meets uses))

first_uses : (plant : PlantData) (states : List AbsState) (task mode : ℕ)
    → OfUses plant states task mode (λ events state uses since. sum_by (starts_count (λ start. true)) uses ≤ 1)
first_uses plant states task mode = record {
  while_it_is_open = λ events state window since case is_open active.
      of_open plant states task mode StartsOnce (by_parts plant states task mode StartsOnce (starts_once plant states task mode))
      events state window case is_open;
  closes = λ event earlier before after window since later ends is_open active.
      (let once : sum_by (starts_count (λ start. true)) window.uses ≤ 1 = of_open plant states task mode StartsOnce
      (by_parts plant states task mode StartsOnce (starts_once plant states task mode)) earlier before window later.case is_open in
      let same = starts_with plant mode event earlier window.uses in omega arith);
}

pub meets_first : MeetsFirst
meets_first plant states task mode events state uses since case used =
    first_met uses (of_used plant states task mode (λ events state uses since. sum_by (starts_count (λ start. true)) uses ≤ 1)
    (first_uses plant states task mode) events state uses since case used)

-- ---- States that are left

abbrev left_count : AbsState → Column → ℕ
left_count from column = moves_count (λ going. same_state from going.from) column

abbrev come_count : PlantData → ℕ → AbsState → Column → ℕ
come_count plant task from column = into_count plant task (same_state from) column

-- left at most as often as come into, where it isn't the state now, and less often where it is
abbrev LeavesLess : PlantData → ℕ → ℕ → AbsState → List Event → MachineState → Window → Type 0
LeavesLess plant task mode from events state window =
    sum_by (left_count from) window.uses + one (same_state from (shadow_after plant mode events)) ≤ sum_by (come_count plant task from) window.uses

left_no_visit : (from : AbsState) → SparesVisits (left_count from)
left_no_visit from (Starts start) is = absurd cc
left_no_visit from (Moves going) is = absurd cc
left_no_visit from (Goes along) is = refl
left_no_visit from (Begins block) is = refl
left_no_visit from (Stands node) is = refl

come_no_visit : (plant : PlantData) (task : ℕ) (from : AbsState) → SparesVisits (come_count plant task from)
come_no_visit plant task from (Starts start) is = absurd cc
come_no_visit plant task from (Moves going) is = absurd cc
come_no_visit plant task from (Goes along) is = refl
come_no_visit plant task from (Begins block) is = refl
come_no_visit plant task from (Stands node) is = refl

left_no_edge : (from : AbsState) (along : Option Along) → sum_option (left_count from) (option_map Goes along) ≡ 0
left_no_edge from None = refl
left_no_edge from (Some along) = refl

come_no_edge : (plant : PlantData) (task : ℕ) (from : AbsState) (along : Option Along) → sum_option (come_count plant task from) (option_map Goes along) ≡ 0
come_no_edge plant task from None = refl
come_no_edge plant task from (Some along) = refl

opened_leaves : (plant : PlantData) (states : List AbsState) (task mode : ℕ) (from : AbsState) (events : List Event) (state : MachineState)
    (column : Option Column) → IsStart plant states task mode events column
    → LeavesLess plant task mode from events state (opened_first plant mode column events)
opened_leaves plant states task mode from events state column start =
    let left : sum_by (left_count from) (option_to_list column) ≡ 0 = start_sum (left_count from) column start.start start.is in
    let come : sum_by (come_count plant task from) (option_to_list column) ≡ one (same_state from (state_after plant start.start)) + 0 =
    start_sum (come_count plant task from) column start.start start.is in
    let same : one (same_state from (state_after plant start.start)) ≡ one (same_state from (shadow_after plant mode events)) =
    ap (λ (s : AbsState). one (same_state from s)) start.leads in
    omega arith

left_by : (m l u v here now more less : ℕ) → more ≡ u + m → less ≡ v + l → u ≡ here → v ≡ now → m + here ≤ l → more + now ≤ less
left_by m l u v here now more less e f g h most = omega arith

kept_by : (m l more less here : ℕ) → more ≡ m → less ≡ l → m + here ≤ l → more + here ≤ less
kept_by m l more less here e f most = omega arith

stays_in : (test ends : Bool) → ends ≡ false → 0 + one (test && not ends) ≡ one test
stays_in true ends e = ap (λ b. 0 + one (not b)) e
stays_in false ends e = refl

moved_leaves : (plant : PlantData) (states : List AbsState) (task mode : ℕ) (from : AbsState) (label : MoveLabel) (event : Event) (earlier : List Event)
    (before after : MachineState) (window : Window) → IsLater plant states task mode event earlier before after
    → label_of plant event ≡ Some label → used_by plant mode event earlier ≡ Some (Moves (going_by plant mode label event earlier))
    → is_this (contexts.Task task) (ended_by event) ≡ false
    → LeavesLess plant task mode from earlier before window → LeavesLess plant task mode from (event ∷ earlier) after (stepped plant mode event earlier window)
moved_leaves plant states task mode from label event earlier before after window later labelled used on held =
    let going = going_by plant mode label event earlier in
    left_by (sum_by (left_count from) window.uses) (sum_by (come_count plant task from) window.uses)
    (sum_option (left_count from) (used_by plant mode event earlier)) (sum_option (come_count plant task from) (used_by plant mode event earlier))
    (one (same_state from (shadow_after plant mode earlier))) (one (same_state from (shadow_after plant mode (event ∷ earlier))))
    (sum_by (left_count from) (option_to_list (used_by plant mode event earlier) ++ window.uses))
    (sum_by (come_count plant task from) (option_to_list (used_by plant mode event earlier) ++ window.uses))
    (sum_with (left_count from) (used_by plant mode event earlier) window.uses)
    (sum_with (come_count plant task from) (used_by plant mode event earlier) window.uses)
    (ap (sum_option (left_count from)) used)
    (ap (sum_option (come_count plant task from)) used
    ∙ stays_in (same_state from (shadow_after plant mode (event ∷ earlier))) (ends_in plant (contexts.Task task) going)
    (ends_only plant states task mode (contexts.Task task) label event earlier before after later labelled on)) held

stepped_leaves : (plant : PlantData) (states : List AbsState) (task mode : ℕ) (from : AbsState) (event : Event) (earlier : List Event)
    (before after : MachineState) (window : Window) → IsLater plant states task mode event earlier before after
    → is_this (contexts.Task task) (ended_by event) ≡ false
    → LeavesLess plant task mode from earlier before window → LeavesLess plant task mode from (event ∷ earlier) after (stepped plant mode event earlier window)
stepped_leaves plant states task mode from (Arrive arrival) earlier before after window later on held = held
stepped_leaves plant states task mode from (Take taking) earlier before after window later on held =
    moved_leaves plant states task mode from (labels.Take taking.source) (Take taking) earlier before after window later refl refl on held
stepped_leaves plant states task mode from (Execute execution) earlier before after window later on held =
    let left : sum_by (left_count from) (option_to_list (option_map Goes (along_of plant execution)) ++ window.uses) ≡ sum_by (left_count from) window.uses =
    sum_with (left_count from) (option_map Goes (along_of plant execution)) window.uses
    ∙ (ap (λ n. n + sum_by (left_count from) window.uses) (left_no_edge from (along_of plant execution)) ∙ omega arith) in
    let come : sum_by (come_count plant task from) (option_to_list (option_map Goes (along_of plant execution)) ++ window.uses)
    ≡ sum_by (come_count plant task from) window.uses =
    sum_with (come_count plant task from) (option_map Goes (along_of plant execution)) window.uses
    ∙ (ap (λ n. n + sum_by (come_count plant task from) window.uses) (come_no_edge plant task from (along_of plant execution)) ∙ omega arith) in
    kept_by (sum_by (left_count from) window.uses) (sum_by (come_count plant task from) window.uses)
    (sum_by (left_count from) (option_to_list (option_map Goes (along_of plant execution)) ++ window.uses))
    (sum_by (come_count plant task from) (option_to_list (option_map Goes (along_of plant execution)) ++ window.uses))
    (one (same_state from (shadow_after plant mode earlier))) left come held
stepped_leaves plant states task mode from (Serve call) earlier before after window later on held =
    let asks = asks_of plant states task mode call earlier before after later in
    let label : label_of plant (Serve call) ≡ Some (labels.Service asks.at.number) = ap (option_map labels.Service) asks.at.found in
    moved_leaves plant states task mode from (labels.Service asks.at.number) (Serve call) earlier before after window later label
    (move_used plant mode (labels.Service asks.at.number) call earlier label) on held
stepped_leaves plant states task mode from (Idle cycles) earlier before after window later on held = held

ran_leaves : (plant : PlantData) (states : List AbsState) (task mode : ℕ) (from : AbsState) (events : List Event) (state : MachineState)
    (window : Window) (context : Context) → IsContext plant.system context → AreListed plant states task mode events state window
    → LeavesLess plant task mode from events state window → LeavesLess plant task mode from events state (run_in plant (Some context) window)
ran_leaves plant states task mode from events state window context exists are held =
    kept_by (sum_by (left_count from) window.uses) (sum_by (come_count plant task from) window.uses)
    (sum_by (left_count from) (run_in plant (Some context) window).uses) (sum_by (come_count plant task from) (run_in plant (Some context) window).uses)
    (one (same_state from (shadow_after plant mode events)))
    (run_in_same plant states task mode events state window context (left_count from) (left_no_visit from) exists are)
    (run_in_same plant states task mode events state window context (come_count plant task from) (come_no_visit plant task from) exists are) held

leaves_less : (plant : PlantData) (states : List AbsState) (task mode : ℕ) (from : AbsState)
    → InductsByParts plant states task mode (LeavesLess plant task mode from)
leaves_less plant states task mode from = record {
  opens = λ events state column case start. opened_leaves plant states task mode from events state column start;
  steps = λ event earlier before after window later new on was are held.
      stepped_leaves plant states task mode from event earlier before after window later on held;
  ran = λ events state window context case exists e count are held.
      ran_leaves plant states task mode from events state window context exists are held;
}

while_leaving : (plant : PlantData) (states : List AbsState) (task mode : ℕ) (from : AbsState) (events : List Event) (state : MachineState) (window : Window)
    → IsDeclaredCase plant states task mode events state → open_window plant task mode events ≡ Some window
    → LeavesLess plant task mode from events state window
while_leaving plant states task mode from events state window case e =
    of_open plant states task mode (LeavesLess plant task mode from)
    (by_parts plant states task mode (LeavesLess plant task mode from) (leaves_less plant states task mode from)) events state window case e

-- what is left by the last step counts as left already
last_left : (m l u v here more less : ℕ) → more ≡ u + m → less ≡ v + l → u ≤ here → m + here ≤ l → more ≤ less + 0
last_left m l u v here more less e f most held = omega arith

used_left : (plant : PlantData) (mode : ℕ) (from : AbsState) (event : Event) (earlier : List Event)
    → sum_option (left_count from) (used_by plant mode event earlier) ≤ one (same_state from (shadow_after plant mode earlier))
used_left plant mode from (Arrive arrival) earlier = omega arith
used_left plant mode from (Take taking) earlier = omega arith
used_left plant mode from (Execute execution) earlier = (let none = left_no_edge from (along_of plant execution) in omega arith)
used_left plant mode from (Serve call) earlier = by (label_of plant (Serve call))
  where
    by : (label : Option MoveLabel) → sum_option (left_count from) (option_map (λ l. Moves (going_by plant mode l (Serve call) earlier)) label)
        ≤ one (same_state from (shadow_after plant mode earlier))
    by None = omega arith
    by (Some label) = omega arith
used_left plant mode from (Idle cycles) earlier = omega arith

leaving_uses : (plant : PlantData) (states : List AbsState) (task mode : ℕ) (from : AbsState)
    → OfUses plant states task mode (λ events state uses since. sum_by (left_count from) uses ≤ sum_by (come_count plant task from) uses + 0)
leaving_uses plant states task mode from = record {
  while_it_is_open = λ events state window since case is_open active.
      (let held : sum_by (left_count from) window.uses + one (same_state from (shadow_after plant mode events))
      ≤ sum_by (come_count plant task from) window.uses =
      while_leaving plant states task mode from events state window case is_open in omega arith);
  closes = λ event earlier before after window since later ends is_open active.
      last_left (sum_by (left_count from) window.uses) (sum_by (come_count plant task from) window.uses)
      (sum_option (left_count from) (used_by plant mode event earlier)) (sum_option (come_count plant task from) (used_by plant mode event earlier))
      (one (same_state from (shadow_after plant mode earlier)))
      (sum_by (left_count from) (option_to_list (used_by plant mode event earlier) ++ window.uses))
      (sum_by (come_count plant task from) (option_to_list (used_by plant mode event earlier) ++ window.uses))
      (sum_with (left_count from) (used_by plant mode event earlier) window.uses)
      (sum_with (come_count plant task from) (used_by plant mode event earlier) window.uses)
      (used_left plant mode from event earlier)
      (while_leaving plant states task mode from earlier before window later.case is_open);
}

leaves_is : (plant : PlantData) (task : ℕ) (from : AbsState) → IsDifference (leaves plant task from).factor (left_count from) (come_count plant task from)
leaves_is plant task from column =
    difference_counted (moves_that (λ going. same_state from going.from) column) (into plant task (same_state from) column)
    (left_count from column) (come_count plant task from column)
    (moves_counted (λ going. same_state from going.from) column) (into_counted plant task (same_state from) column)

pub meets_leaving : MeetsLeaving
meets_leaving plant states task mode events state uses since case used =
    all_made (Meets uses) (leaves plant task) (filter (λ from. is_active_in from (contexts.Task task)) states) (λ from.
    meets_by (leaves plant task from).factor (left_count from) (come_count plant task from) 0 uses (leaves_is plant task from)
    (of_used plant states task mode (λ events state uses since. sum_by (left_count from) uses ≤ sum_by (come_count plant task from) uses + 0)
    (leaving_uses plant states task mode from) events state uses since case used))
