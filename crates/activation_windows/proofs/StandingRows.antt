-- A context stands where the start leaves it, and runs there only in a state that is come into.
use Rattle.std.proofs.Common.{◌≡◌, ℕ, zero, suc, ◌-◌, ◌<◌, ◌≤◌, inl, inr, Bool, true, false, cond, List, [], ◌∷◌, length, map, get_or, All, Option, Some, None, refl, sym, ◌∙◌, ap, subst, arith, is_some}
use Rattle.std.specs.Prelude.{nat_eq, nat_lt, option_map, option_and_then, filter, ◌-ℤ◌}
use Rattle.std.specs.List.{flat_map, list_any, range_with_len}
use Rattle.std.specs.Option.{option_map_or}
use Rattle.std.proofs.Math.ListN.{get_or-eq_default}
use Rattle.std.proofs.lemmas.Bool.{eqb-true, ltb-true, ltb-false}
use Rattle.std.proofs.lemmas.List.Elements.{All-nil, All-append, All-map}
use Rattle.std.proofs.lemmas.Option.{none-some, same_Some}
use Rattle.oil_model.specs.declared.system.System.{System}
use Rattle.osek_kernel.specs.declared.context.Context.{Context}
use Rattle.osek_kernel.specs.declared.context.Context.TheVariants as contexts
use Rattle.osek_kernel.specs.Contexts.{IsContext, place_of, context_at, context_count}
use Rattle.osek_kernel.specs.Kernel.{IsActive}
use Rattle.osek_kernel.specs.Positions.{position_of}
use Rattle.osek_machine.specs.State.{MachineState}
use Rattle.osek_machine.specs.Events.{Event, Arrive, Take, Execute, Serve, Idle}
use Rattle.osek_machine.specs.Loops.{is_this}
use Rattle.wcet_atomic_blocks.specs.Plants.{PlantData}
use Rattle.abstract_sched.specs.declared.states.AbsState.{AbsState}
use Rattle.scheduler_moves.specs.Moves.{entry_block, block_behind, running_in}
use Rattle.shadow_runs.specs.Shadow.{begun, node_of}
use Rattle.row_build.specs.Columns.{Start, Column, Starts, Moves, Goes, Begins, Stands, In, By, state_after, holds_in, owner_of, positions}
use Rattle.row_build.specs.Families.{Row, starts_that, stands_that, all_starts, into, leaves_at, runs_at, is_owned, stands_once, standing_rows}
use Rattle.activation_windows.specs.Counted.{IsDeclaredCase, IsUsed, Meets, MeetsStanding}
use Rattle.activation_windows.specs.Windows.{shadow_after, running_after, going_by, start_by, entered}
use Rattle.activation_windows.proofs.BeginningRows.{one_if, both_true, all_two, all_flat_map}
use Rattle.activation_windows.proofs.Stepping.{told_of, runs_in, active_in, moves_or_stays}
use Rattle.activation_windows.proofs.Induction.{Inducts, is_this_one, this_is}
use Rattle.activation_windows.proofs.Rising.{CountsVisits, IsBegun, opened_begun, gone_on_begun, begun_at_most, entered_at_most, step_none}
use Rattle.activation_windows.proofs.Sums.{one, sum_option, sum_waiting, starts_count, stands_count, into_count, starts_counted, stands_counted, into_counted, difference_counted, meets_by}
use Rattle.activation_windows.proofs.InBlocks.{StandsThere, holds_at, IsVisit, Wait, newly}
use Rattle.activation_windows.proofs.Waiting.{standing_visits, opening_waits}

-- ---- Counts of nodes

stands_visits : (test : ℕ → Bool) → CountsVisits (stands_count test)
stands_visits test = record { starts = λ start. refl; moves = λ going. refl; goes = λ along. refl }

no_block : (test : ℕ → Bool) (block : Option ℕ) → sum_option (stands_count test) (option_map Begins block) ≡ 0
no_block test None = refl
no_block test (Some number) = refl

no_entry : (plant : PlantData) (test : ℕ → Bool) (who : Option Context) → sum_option (stands_count test) (option_and_then (entered plant) who) ≡ 0
no_entry plant test None = refl
no_entry plant test (Some c) = no_block test (entry_block plant c)

no_block_if : (test : ℕ → Bool) (ended : Option Context) (block : Option ℕ)
    → sum_option (stands_count test) (cond (is_some ended) None (option_map Begins block)) ≡ 0
no_block_if test None block = no_block test block
no_block_if test (Some c) block = refl

-- no step begins to stand at a node
newly_none : (plant : PlantData) (test : ℕ → Bool) (event : Event) → newly plant (stands_count test) event ≡ 0
newly_none plant test (Arrive arrival) = refl
newly_none plant test (Take taking) = no_entry plant test taking.started
newly_none plant test (Execute execution) = refl
newly_none plant test (Serve call) =
    let behinds = no_block_if test call.reply.ended (option_and_then (block_behind plant) (node_of plant call.caller call.before)) in
    let entries = no_entry plant test (option_map contexts.Task call.reply.activated) in
    omega arith
newly_none plant test (Idle cycles) = refl

-- ---- Visits by places

all_zero : (count : Column → ℕ) (waiting : List (Option Column)) → ((i : ℕ) → sum_option count (get_or waiting i None) ≡ 0) → sum_waiting count waiting ≡ 0
all_zero count [] zeros = refl
all_zero count (visit ∷ waiting) zeros =
    let first = zeros 0 in let more = all_zero count waiting (λ i. zeros (suc i)) in omega arith

only_at : (count : Column → ℕ) (waiting : List (Option Column)) (place : ℕ) → ((i : ℕ) → (i ≡ place → ⊥) → sum_option count (get_or waiting i None) ≡ 0)
    → sum_waiting count waiting ≤ sum_option count (get_or waiting place None)
only_at count [] place zeros = omega arith
only_at count (visit ∷ waiting) zero zeros =
    let more = all_zero count waiting (λ i. zeros (suc i) (λ e. omega arith)) in omega arith
only_at count (visit ∷ waiting) (suc place) zeros =
    let first = zeros 0 (λ e. omega arith) in
    let more = only_at count waiting place (λ i apart. zeros (suc i) (λ e. apart (omega arith))) in
    omega arith

context_in_place : (system : System) (i : ℕ) (b : Bool) → nat_lt i (length system.tasks) ≡ b → i < context_count system
    → IsContext system (cond b (contexts.Task i) (contexts.Isr (i - length system.tasks)))
    × (place_of system (cond b (contexts.Task i) (contexts.Isr (i - length system.tasks))) ≡ i)
context_in_place system i true e within = (ltb-true i (length system.tasks) e, refl)
context_in_place system i false e within =
    let past : length system.tasks ≤ i = ltb-false i (length system.tasks) e in (omega arith, omega arith)

inside_if : {A : Type 0} (xs : List (Option A)) (i : ℕ) (a : A) → get_or xs i None ≡ Some a → i < length xs
inside_if xs i a e = by (nat_lt i (length xs)) refl
  where
    by : (b : Bool) → nat_lt i (length xs) ≡ b → i < length xs
    by true h = ltb-true i (length xs) h
    by false h = absurd (none-some a (sym (get_or-eq_default xs None {n = i} (ltb-false i (length xs) h)) ∙ e))

-- who waits in a place
pub record WaitsAt (plant : PlantData) (blocks : List (Option ℕ)) (i : ℕ) (visit : Column) : Type 0 where
  pub context : Context
  pub place : place_of plant.system context ≡ i
  pub is : IsVisit plant (position_of plant.system blocks context) context visit

waits_at : (plant : PlantData) (blocks : List (Option ℕ)) (waiting : List (Option Column)) → Wait plant blocks waiting → (i : ℕ) (visit : Column)
    → get_or waiting i None ≡ Some visit → WaitsAt plant blocks i visit
waits_at plant blocks waiting waits i visit e =
    let within : i < context_count plant.system = (let w = inside_if waiting i visit e in let same = waits.count in omega arith) in
    let there = context_in_place plant.system i (nat_lt i (length plant.system.tasks)) refl within in
    record {
      context = context_at plant.system i;
      place = there.1;
      is = waits.visits (context_at plant.system i) visit there.0 (ap (λ (n : ℕ). get_or waiting n None) there.1 ∙ e);
    }

-- ---- At the opening a context stands at one node at most

-- the nodes that pass are the context's
abbrev AreOf : PlantData → Context → (ℕ → Bool) → Type 0
AreOf plant context test = (node : ℕ) → test node ≡ true → owner_of plant node ≡ Some context

one_false : (b : Bool) → (b ≡ true → ⊥) → one b ≡ 0
one_false true not_so = absurd (not_so refl)
one_false false not_so = refl

one_most : (b : Bool) (most : ℕ) → (b ≡ true → 1 ≤ most) → one b ≤ most
one_most true most holds = holds refl
one_most false most holds = omega arith

zero_elsewhere : (plant : PlantData) (blocks : List (Option ℕ)) (context : Context) (test : ℕ → Bool) → AreOf plant context test → (i : ℕ)
    → (i ≡ place_of plant.system context → ⊥) → (visit : Option Column) → ((v : Column) → visit ≡ Some v → WaitsAt plant blocks i v)
    → sum_option (stands_count test) visit ≡ 0
zero_elsewhere plant blocks context test own i apart None at = refl
zero_elsewhere plant blocks context test own i apart (Some (Starts start)) at = refl
zero_elsewhere plant blocks context test own i apart (Some (Moves going)) at = refl
zero_elsewhere plant blocks context test own i apart (Some (Goes along)) at = refl
zero_elsewhere plant blocks context test own i apart (Some (Begins number)) at = refl
zero_elsewhere plant blocks context test own i apart (Some (Stands node)) at =
    one_false (test node) (λ passes.
    let who = at (Stands node) refl in
    let stands : StandsThere plant (position_of plant.system blocks who.context) who.context node = who.is in
    let same : who.context ≡ context = same_Some who.context context (sym stands.owner ∙ own node passes) in
    apart (sym who.place ∙ ap (place_of plant.system) same))

most_here : (plant : PlantData) (blocks : List (Option ℕ)) (context : Context) (test : ℕ → Bool) (most : ℕ) → AreOf plant context test → (i : ℕ)
    → ((node : ℕ) → test node ≡ true → StandsThere plant (position_of plant.system blocks context) context node → 1 ≤ most)
    → (visit : Option Column) → ((v : Column) → visit ≡ Some v → WaitsAt plant blocks i v)
    → sum_option (stands_count test) visit ≤ most
most_here plant blocks context test most own i holds None at = omega arith
most_here plant blocks context test most own i holds (Some (Starts start)) at = omega arith
most_here plant blocks context test most own i holds (Some (Moves going)) at = omega arith
most_here plant blocks context test most own i holds (Some (Goes along)) at = omega arith
most_here plant blocks context test most own i holds (Some (Begins number)) at = omega arith
most_here plant blocks context test most own i holds (Some (Stands node)) at =
    one_most (test node) most (λ passes.
    let who = at (Stands node) refl in
    let stands : StandsThere plant (position_of plant.system blocks who.context) who.context node = who.is in
    let same : who.context ≡ context = same_Some who.context context (sym stands.owner ∙ own node passes) in
    holds node passes (subst (λ (c : Context). StandsThere plant (position_of plant.system blocks c) c node) same stands))

opening_most : (plant : PlantData) (states : List AbsState) (task mode : ℕ) (events : List Event) (state : MachineState)
    → IsDeclaredCase plant states task mode events state → (context : Context) (test : ℕ → Bool) (most : ℕ) → AreOf plant context test
    → ((node : ℕ) → test node ≡ true → StandsThere plant (position_of plant.system (begun plant mode events) context) context node → 1 ≤ most)
    → sum_waiting (stands_count test) (standing_visits plant mode events) ≤ most
opening_most plant states task mode events state case context test most own holds =
    let blocks : List (Option ℕ) = begun plant mode events in
    let waiting : List (Option Column) = standing_visits plant mode events in
    let waits = opening_waits plant states task mode events state case in
    let here = most_here plant blocks context test most own (place_of plant.system context) holds (get_or waiting (place_of plant.system context) None)
    (λ v e. waits_at plant blocks waiting waits (place_of plant.system context) v e) in
    let only = only_at (stands_count test) waiting (place_of plant.system context)
    (λ i apart. zero_elsewhere plant blocks context test own i apart (get_or waiting i None) (λ v e. waits_at plant blocks waiting waits i v e)) in
    omega arith

-- Where each start leaves the context, a bound on the one visit that it may make.
abbrev Leaves : PlantData → List AbsState → ℕ → ℕ → Context → (ℕ → Bool) → (Start → Bool) → Type 0
Leaves plant states task mode context test passes =
    (events : List Event) (state : MachineState) → IsDeclaredCase plant states task mode events state → (start : Start)
    → state_after plant start ≡ shadow_after plant mode events → (node : ℕ) → test node ≡ true
    → StandsThere plant (position_of plant.system (begun plant mode events) context) context node → passes start ≡ true

stands_inducts : (plant : PlantData) (states : List AbsState) (task mode : ℕ) (context : Context) (test : ℕ → Bool) (passes : Start → Bool)
    → AreOf plant context test → Leaves plant states task mode context test passes
    → Inducts plant states task mode (IsBegun (stands_count test) (starts_count passes))
stands_inducts plant states task mode context test passes own leaves = record {
  starts = λ state case is. opened_begun plant mode (stands_count test) (starts_count passes) (Some (Starts (In mode))) [] state
      (let most = opening_most plant states task mode [] state case context test (one (passes (In mode))) own
      (λ node in_test stands. let is_one = ap one (leaves [] state case (In mode) refl node in_test stands) in omega arith) in omega arith);
  begins = λ event earlier before after later is.
      opened_begun plant mode (stands_count test) (starts_count passes) (start_by plant mode event earlier) (event ∷ earlier) after
      (elim (moves_or_stays plant states task mode event earlier before after later) [
        | inl move ↦
            let start : Start = By (going_by plant mode move.label event earlier) in
            let first : start_by plant mode event earlier ≡ Some (Starts start) =
            ap (option_map (λ label. Starts (By (going_by plant mode label event earlier)))) move.labelled in
            let count : sum_option (stands_count test) (start_by plant mode event earlier) ≡ 0 = ap (sum_option (stands_count test)) first in
            let bound : sum_option (starts_count passes) (start_by plant mode event earlier) ≡ one (passes start) =
            ap (sum_option (starts_count passes)) first in
            let most = opening_most plant states task mode (event ∷ earlier) after later.whole context test (one (passes start)) own
            (λ node in_test stands. let is_one = ap one (leaves (event ∷ earlier) after later.whole start refl node in_test stands) in omega arith) in
            omega arith
        | inr still ↦ absurd (none-some (contexts.Task task) (sym still.nobody_starts ∙ is))
      ]);
  goes_on = λ event earlier before after window later new on is_open was.
      gone_on_begun plant mode (stands_count test) (starts_count passes) event earlier before after window
      (let step = step_none plant (stands_count test) (stands_visits test) mode event earlier in
      let new_ones = newly_none plant test event in omega arith) was;
}

-- ---- The rows of a node

at_node_of : (plant : PlantData) (context : Context) (node : ℕ) → owner_of plant node ≡ Some context → AreOf plant context (nat_eq node)
at_node_of plant context node own other e = ap (owner_of plant) (sym (eqb-true node other e)) ∙ own

leaves_if : (own held : Bool) → held ≡ true → cond own true held ≡ true
leaves_if true held e = refl
leaves_if false held e = e

holds_now : (plant : PlantData) (states : List AbsState) (task mode : ℕ) (events : List Event) (state : MachineState)
    → IsDeclaredCase plant states task mode events state → (context : Context) (node : ℕ)
    → StandsThere plant (position_of plant.system (begun plant mode events) context) context node
    → holds_in plant (shadow_after plant mode events) context node ≡ true
holds_now plant states task mode events state case context node stands =
    ap (λ (bs : List (Option ℕ)). holds_at plant (position_of plant.system bs context) node) (told_of plant states task mode events state case).blocks
    ∙ stands.inside

node_leaves : (plant : PlantData) (states : List AbsState) (task mode : ℕ) (context : Context) (node : ℕ)
    → Leaves plant states task mode context (nat_eq node) (leaves_at plant task context node)
node_leaves plant states task mode context node events state case start same other e stands =
    let is : node ≡ other = eqb-true node other e in
    leaves_if (is_this context (Some (contexts.Task task))) (holds_in plant (state_after plant start) context node)
    (ap (λ (s : AbsState). holds_in plant s context node) same
    ∙ (ap (holds_in plant (shadow_after plant mode events) context) is
    ∙ holds_now plant states task mode events state case context other stands))

node_passes : (plant : PlantData) (states : List AbsState) (task mode : ℕ) (context : Context) (node : ℕ) → owner_of plant node ≡ Some context
    → (events : List Event) (state : MachineState) → IsDeclaredCase plant states task mode events state
    → IsActive state.kernel (contexts.Task task) → (c : Context) (visit : Column) → running_after plant mode events ≡ Some c
    → IsVisit plant (position_of plant.system (begun plant mode events) c) c visit
    → stands_count (nat_eq node) visit ≤ one (runs_at plant task context node (shadow_after plant mode events))
node_passes plant states task mode context node own events state case active c (Starts start) runs_now is = omega arith
node_passes plant states task mode context node own events state case active c (Moves going) runs_now is = omega arith
node_passes plant states task mode context node own events state case active c (Goes along) runs_now is = omega arith
node_passes plant states task mode context node own events state case active c (Begins number) runs_now is = omega arith
node_passes plant states task mode context node own events state case active c (Stands other) runs_now is =
    one_if (nat_eq node other) _ (λ e.
    let told = told_of plant states task mode events state case in
    let stands : StandsThere plant (position_of plant.system (begun plant mode events) c) c other = is in
    let same : c ≡ context = same_Some c context (sym stands.owner ∙ at_node_of plant context node own other e) in
    let here : StandsThere plant (position_of plant.system (begun plant mode events) context) context other =
    subst (λ (d : Context). StandsThere plant (position_of plant.system (begun plant mode events) d) d other) same stands in
    both_true _ _ (active_in plant mode events state told (contexts.Task task) active)
    (both_true _ _ (is_this_one context (running_in plant (shadow_after plant mode events))
    (runs_in plant mode events state told ∙ (runs_now ∙ ap Some same)))
    (ap (holds_in plant (shadow_after plant mode events) context) (eqb-true node other e)
    ∙ holds_now plant states task mode events state case context other here)))

abbrev left_row : PlantData → ℕ → Context → ℕ → Row
left_row plant task context node =
    record { factor = λ column. stands_that (nat_eq node) column -ℤ starts_that (leaves_at plant task context node) column; right = 0 }

abbrev runs_row : PlantData → ℕ → Context → ℕ → Row
runs_row plant task context node =
    record { factor = λ column. stands_that (nat_eq node) column -ℤ into plant task (runs_at plant task context node) column; right = 0 }

left_row_meets : (plant : PlantData) (states : List AbsState) (task mode : ℕ) (events : List Event) (state : MachineState) (uses : List Column) (since : ℕ)
    → IsDeclaredCase plant states task mode events state → IsUsed plant task mode events uses since
    → (context : Context) (node : ℕ) → owner_of plant node ≡ Some context → Meets uses (left_row plant task context node)
left_row_meets plant states task mode events state uses since case used context node own =
    let passes : Start → Bool = leaves_at plant task context node in
    let most = begun_at_most plant states task mode (stands_count (nat_eq node)) (starts_count passes) (stands_visits (nat_eq node))
    (stands_inducts plant states task mode context (nat_eq node) passes (at_node_of plant context node own)
    (node_leaves plant states task mode context node)) events state uses since case used in
    meets_by (left_row plant task context node).factor (stands_count (nat_eq node)) (starts_count passes) 0 uses
    (λ column. difference_counted (stands_that (nat_eq node) column) (starts_that passes column) _ _
    (stands_counted (nat_eq node) column) (starts_counted passes column)) (omega arith)

runs_row_meets : (plant : PlantData) (states : List AbsState) (task mode : ℕ) (events : List Event) (state : MachineState) (uses : List Column) (since : ℕ)
    → IsDeclaredCase plant states task mode events state → IsUsed plant task mode events uses since
    → (context : Context) (node : ℕ) → owner_of plant node ≡ Some context → Meets uses (runs_row plant task context node)
runs_row_meets plant states task mode events state uses since case used context node own =
    let test : AbsState → Bool = runs_at plant task context node in
    let most = entered_at_most plant states task mode (stands_count (nat_eq node)) test (stands_visits (nat_eq node))
    (node_passes plant states task mode context node own) events state uses since case used in
    meets_by (runs_row plant task context node).factor (stands_count (nat_eq node)) (into_count plant task test) 0 uses
    (λ column. difference_counted (stands_that (nat_eq node) column) (into plant task test column) _ _
    (stands_counted (nat_eq node) column) (into_counted plant task test column)) (omega arith)

-- ---- The row of a context

owned_are : (plant : PlantData) (context : Context) → AreOf plant context (is_owned plant context)
owned_are plant context node e = this_is context (owner_of plant node) e

once_meets : (plant : PlantData) (states : List AbsState) (task mode : ℕ) (events : List Event) (state : MachineState) (uses : List Column) (since : ℕ)
    → IsDeclaredCase plant states task mode events state → IsUsed plant task mode events uses since
    → (context : Context) → Meets uses (stands_once plant context)
once_meets plant states task mode events state uses since case used context =
    let passes : Start → Bool = (λ start. true) in
    let most = begun_at_most plant states task mode (stands_count (is_owned plant context)) (starts_count passes) (stands_visits (is_owned plant context))
    (stands_inducts plant states task mode context (is_owned plant context) passes (owned_are plant context)
    (λ events state case start same node e stands. refl)) events state uses since case used in
    meets_by (stands_once plant context).factor (stands_count (is_owned plant context)) (starts_count passes) 0 uses
    (λ column. difference_counted (stands_that (is_owned plant context) column) (all_starts column) _ _
    (stands_counted (is_owned plant context) column) (starts_counted passes column)) (omega arith)

-- ---- All of them

pub meets_standing : MeetsStanding
meets_standing plant states task mode events state uses since case used =
    let nodes : List ℕ = positions plant states task in
    let those : List Context =
    filter (λ context. list_any (is_owned plant context) nodes) (map (context_at plant.system) (range_with_len 0 (context_count plant.system))) in
    All-append (Meets uses) (flat_map (λ node. option_map_or (λ context. standing_rows plant task context node) (owner_of plant node) []) nodes)
    (map (stands_once plant) those)
    (all_flat_map (Meets uses) (λ node. option_map_or (λ context. standing_rows plant task context node) (owner_of plant node) []) nodes
    (λ node. of node (owner_of plant node) refl))
    (All-map (Meets uses) (stands_once plant) those
    (λ k d within. once_meets plant states task mode events state uses since case used (get_or those k d)))
  where
    of : (node : ℕ) (owner : Option Context) → owner_of plant node ≡ owner
        → All (Meets uses) (option_map_or (λ context. standing_rows plant task context node) owner [])
    of node None e = All-nil (Meets uses)
    of node (Some context) e = all_two (Meets uses) (left_row plant task context node) (runs_row plant task context node)
        (left_row_meets plant states task mode events state uses since case used context node e)
        (runs_row_meets plant states task mode events state uses since case used context node e)
