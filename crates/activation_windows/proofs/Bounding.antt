-- Each activation of a run has a window in a prefix of the run: it is open there, or the newest step of the prefix
-- closes it. So multipliers that are good for the rows bound each activation, and so does the rows' greatest value.
use Rattle.std.proofs.Common.{◌≡◌, ℕ, zero, suc, ◌-◌, ◌<◌, ◌≤◌, Bool, true, false, cond, List, [], ◌∷◌, ◌++◌, Contains, length, reverse, inl, inr, ◌⊎◌, is_some, option_map, option_to_list, filter_map, Option, Some, None, refl, sym, ◌∙◌, ap, subst, arith}
use mathlib.Core.List.{reverse-cons}
use Rattle.std.specs.Prelude.{ℤ, pos, ◌+ℤ◌, ◌*ℤ◌, ◌≤ℤ◌}
use Rattle.std.specs.List.{range_with_len, cons_option}
use Rattle.std.proofs.lemmas.Int.{ints}
use Rattle.std.proofs.lemmas.List.Elements.{Contains-append_cases, Contains-push_cases}
use Rattle.std.proofs.lemmas.Option.{none-some, same_Some}
use Rattle.osek_kernel.specs.declared.context.Context.{Context}
use Rattle.osek_kernel.specs.declared.context.Context.TheVariants as contexts
use Rattle.osek_machine.specs.Activations.{Activation, activations, active_since, lasting, ended_now, ended_in, open_in}
use Rattle.osek_machine.specs.Declarations.{IsDeclared}
use Rattle.osek_machine.specs.Events.{Event, duration, started_by, ended_by}
use Rattle.osek_machine.specs.Loops.{is_this}
use Rattle.osek_machine.specs.Runs.{IsRun}
use Rattle.osek_machine.specs.State.{MachineState}
use Rattle.osek_machine.proofs.Times.{prefixes_are_declared}
use Rattle.wcet_atomic_blocks.specs.Plants.{PlantData}
use Rattle.abstract_sched.specs.declared.states.AbsState.{AbsState}
use Rattle.shadow_runs.proofs.Members.{member_cases}
use Rattle.whole_rows.specs.Rows.{cost_of}
use Rattle.whole_rows.proofs.Duality.{counts_stay_within, point_of_counts}
use Rattle.row_build.specs.Columns.{Column}
use Rattle.row_build.specs.Rows.{rows_of}
use Rattle.activation_windows.specs.Bounds.{AreFor, ArePoint, BoundsActivations, GoodMultipliersBound, GreatestValueBounds}
use Rattle.activation_windows.specs.Counted.{IsDeclaredCase, IsUsed, while_open, closed_now}
use Rattle.activation_windows.specs.Windows.{Window, open_window, closed_uses, used_by}
use Rattle.activation_windows.proofs.Induction.{is_this_one}
use Rattle.activation_windows.proofs.Points.{rows_are_shaped, counts_fit, uses_are_points}

-- ---- A window is open while its task is active

-- where there is the one, there is the other
abbrev With : {A B : Type 0} → Option A → Option B → Type 0
With (Some a) (Some b) = Unit {0}
With None None = Unit {0}
With a b = ⊥

opens_with : {A B C : Type 0} (active : Option C) (a : A) (b : B) → With (option_map (λ c. a) active) (cond (is_some active) (Some b) None)
opens_with None a b = tt
opens_with (Some c) a b = tt

goes_with : {A B : Type 0} (f : B → B) (starts ends : Bool) (a : A) (b : B) (x : Option A) (y : Option B) → With x y
    → With (cond starts (Some a) (cond ends None x)) (cond starts (Some b) (cond ends None (option_map f y)))
goes_with f true ends a b x y both = tt
goes_with f false true a b x y both = tt
goes_with f false false a b None None both = tt
goes_with f false false a b (Some x) (Some y) both = tt
goes_with f false false a b None (Some y) both = both
goes_with f false false a b (Some x) None both = both

active_with : (plant : PlantData) (task mode : ℕ) (events : List Event)
    → With (active_since plant.system mode task events) (open_window plant task mode events)
active_with plant task mode [] = opens_with _ _ _
active_with plant task mode (event ∷ earlier) =
    goes_with _ (is_this (contexts.Task task) (started_by event)) (is_this (contexts.Task task) (ended_by event)) _ _
    (active_since plant.system mode task earlier) (open_window plant task mode earlier) (active_with plant task mode earlier)

there_with : {A B : Type 0} (x : Option A) (y : Option B) (a : A) → With x y → x ≡ Some a → (b : B) × (y ≡ Some b)
there_with None y a both e = absurd (none-some a e)
there_with (Some x) None a both e = absurd both
there_with (Some x) (Some y) a both e = (y, refl)

pub window_opens : (plant : PlantData) (task mode : ℕ) (events : List Event) (since : ℕ) → active_since plant.system mode task events ≡ Some since
    → (window : Window) × (open_window plant task mode events ≡ Some window)
window_opens plant task mode events since e =
    there_with (active_since plant.system mode task events) (open_window plant task mode events) since (active_with plant task mode events) e

-- ---- The window of an activation

-- A declared run whose window used this, and which lasts as long from the opening on as the activation does.
pub record HasWindow (plant : PlantData) (states : List AbsState) (task mode : ℕ) (activation : Activation) : Type 0 where
  pub events : List Event
  pub state : MachineState
  pub uses : List Column
  pub since : ℕ
  pub case : IsDeclaredCase plant states task mode events state
  pub used : IsUsed plant task mode events uses since
  pub cycles : activation.cycles ≡ duration events - since

abbrev IsDeclaredRun : PlantData → ℕ → List Event → MachineState → Type 0
IsDeclaredRun plant mode events state =
    IsRun plant.image plant.system mode events state × IsDeclared plant.image plant.system plant.timing events

case_of : (plant : PlantData) (states : List AbsState) (task mode : ℕ) (events : List Event) (state : MachineState) → AreFor plant states task
    → IsDeclaredRun plant mode events state → IsDeclaredCase plant states task mode events state
case_of plant states task mode events state are run = record {
  of = record { belongs = are.belongs; closed = are.closed; run = run.0; pairs = run.1.returns };
  declared = run.1;
  once = are.once;
  exists = are.exists;
}

-- what lasts from a known moment
lasts_from : (task : ℕ) (ended : Bool) (events : List Event) (known : Option ℕ) (activation : Activation)
    → option_map (lasting task ended events) known ≡ Some activation
    → (since : ℕ) × (known ≡ Some since) × (task ≡ activation.task) × (activation.cycles ≡ duration events - since)
lasts_from task ended events None activation e = absurd (none-some activation e)
lasts_from task ended events (Some since) activation e =
    let same = same_Some (lasting task ended events since) activation e in
    (since, refl, ap (λ (a : Activation). a.task) same, ap (λ (a : Activation). a.cycles) (sym same))

-- ---- Activations that haven't ended

-- a chosen member comes from a member
chosen_from : {A B : Type 0} (h : A → Option B) (xs : List A) (z : B) → Contains (filter_map h xs) z → (x : A) × (h x ≡ Some z)
chosen_from h [] z has = absurd (let inside = has.1 in omega arith)
chosen_from {A} {B} h (y ∷ ys) z has = from (λ there. chosen_from h ys z there) (h y) refl has
  where
    from : (Contains (filter_map h ys) z → (x : A) × (h x ≡ Some z)) → (o : Option B) → h y ≡ o
        → Contains (cons_option o (filter_map h ys)) z → (x : A) × (h x ≡ Some z)
    from more None e there = more there
    from more (Some w) e there = member_cases z w (filter_map h ys) there (λ same. (y, e ∙ ap Some same)) more

open_one : (plant : PlantData) (states : List AbsState) (task mode : ℕ) (events : List Event) (state : MachineState) (activation : Activation)
    → AreFor plant states task → IsDeclaredRun plant mode events state → activation.task ≡ task
    → Contains (open_in plant.system mode events) activation → HasWindow plant states task mode activation
open_one plant states task mode events state activation are run of_task has =
    let chosen = chosen_from (λ t. option_map (lasting t false events) (active_since plant.system mode t events))
    (range_with_len 0 (length plant.system.tasks)) activation has in
    let lasts = lasts_from chosen.0 false events (active_since plant.system mode chosen.0 events) activation chosen.1 in
    let active : active_since plant.system mode task events ≡ Some lasts.0 =
    subst (λ (t : ℕ). active_since plant.system mode t events ≡ Some lasts.0) (lasts.2 ∙ of_task) lasts.1 in
    let window = window_opens plant task mode events lasts.0 active in
    record {
      events = events;
      state = state;
      uses = window.0.uses;
      since = lasts.0;
      case = case_of plant states task mode events state are run;
      used = while_open events window.0.uses lasts.0 (ap (option_map (λ (w : Window). w.uses)) window.1) active;
      cycles = lasts.3;
    }

-- ---- Activations that have ended

closes_now : (plant : PlantData) (task mode : ℕ) (event : Event) (earlier : List Event) (window : Window)
    → is_this (contexts.Task task) (ended_by event) ≡ true
    → open_window plant task mode earlier ≡ Some window
    → closed_uses plant task mode event earlier ≡ Some (option_to_list (used_by plant mode event earlier) ++ window.uses)
closes_now plant task mode event earlier window ends is_open = rw ends (rw is_open refl)

ended_one : (plant : PlantData) (states : List AbsState) (task mode : ℕ) (event : Event) (earlier : List Event) (state : MachineState)
    (activation : Activation) (who : Option Context)
    → AreFor plant states task → IsDeclaredRun plant mode (event ∷ earlier) state → activation.task ≡ task → ended_by event ≡ who
    → ended_now plant.system mode who event earlier ≡ Some activation → HasWindow plant states task mode activation
ended_one plant states task mode event earlier state activation None are run of_task ends e = absurd (none-some activation e)
ended_one plant states task mode event earlier state activation (Some (contexts.Isr i)) are run of_task ends e = absurd (none-some activation e)
ended_one plant states task mode event earlier state activation (Some (contexts.Task t)) are run of_task ends e =
    let lasts = lasts_from t true (event ∷ earlier) (active_since plant.system mode t earlier) activation e in
    let same : t ≡ task = lasts.2 ∙ of_task in
    let active : active_since plant.system mode task earlier ≡ Some lasts.0 =
    subst (λ (u : ℕ). active_since plant.system mode u earlier ≡ Some lasts.0) same lasts.1 in
    let window = window_opens plant task mode earlier lasts.0 active in
    record {
      events = event ∷ earlier;
      state = state;
      uses = option_to_list (used_by plant mode event earlier) ++ window.0.uses;
      since = lasts.0;
      case = case_of plant states task mode (event ∷ earlier) state are run;
      used = closed_now event earlier (option_to_list (used_by plant mode event earlier) ++ window.0.uses) lasts.0
          (closes_now plant task mode event earlier window.0
          (is_this_one (contexts.Task task) (ended_by event) (ends ∙ ap (λ (u : ℕ). Some (contexts.Task u)) same)) window.1)
          active;
      cycles = lasts.3;
    }

ended_before : (plant : PlantData) (states : List AbsState) (task mode : ℕ) (events : List Event) (state : MachineState) (activation : Activation)
    → AreFor plant states task → IsDeclaredRun plant mode events state → activation.task ≡ task
    → Contains (ended_in plant.system mode events) activation → HasWindow plant states task mode activation
ended_before plant states task mode [] state activation are run of_task has = absurd (let inside = has.1 in omega arith)
ended_before plant states task mode (event ∷ earlier) state activation are run of_task has =
    now_or_before
    (λ there. ended_before plant states task mode earlier run.0.0 activation are
    (run.0.1, prefixes_are_declared plant.image plant.system plant.timing event earlier run.1) of_task there)
    (ended_now plant.system mode (ended_by event) event earlier) refl has
  where
    now_or_before : (Contains (ended_in plant.system mode earlier) activation → HasWindow plant states task mode activation)
        → (now : Option Activation) → ended_now plant.system mode (ended_by event) event earlier ≡ now
        → Contains (option_to_list now ++ ended_in plant.system mode earlier) activation → HasWindow plant states task mode activation
    now_or_before before None e there = before there
    now_or_before before (Some one) e there = member_cases activation one (ended_in plant.system mode earlier) there
        (λ same. ended_one plant states task mode event earlier state activation (ended_by event) are run of_task refl (e ∙ ap Some same)) before

-- ---- Every activation

reversed_member : {A : Type 0} (xs : List A) (x : A) → Contains (reverse xs) x → Contains xs x
reversed_member [] x has = has
reversed_member (y ∷ ys) x has =
    elim (Contains-push_cases (reverse ys) y x (subst (λ l. Contains l x) (reverse-cons y ys) has)) [
      | inl there ↦ later (reversed_member ys x there)
      | inr same ↦ (0, omega arith, same)
    ]
  where
    later : Contains ys x → Contains (y ∷ ys) x
    later there = (suc there.0, (let inside = there.1 in omega arith), there.2)

pub has_window : (plant : PlantData) (states : List AbsState) (task mode : ℕ) (events : List Event) (state : MachineState) (activation : Activation)
    → AreFor plant states task → IsDeclaredRun plant mode events state → activation.task ≡ task
    → Contains (activations plant.system mode events) activation → HasWindow plant states task mode activation
has_window plant states task mode events state activation are run of_task has =
    elim (Contains-append_cases (reverse (ended_in plant.system mode events)) (open_in plant.system mode events) activation has) [
      | inl ended ↦ ended_before plant states task mode events state activation are run of_task
          (reversed_member (ended_in plant.system mode events) activation ended)
      | inr is_open ↦ open_one plant states task mode events state activation are run of_task is_open
    ]

-- ---- The bounds

-- what bounds the cost of each point that counts uses bounds each activation
abbrev BoundsPoints : PlantData → List AbsState → ℕ → ℕ → Type 0
BoundsPoints plant states task bound = (uses : List Column) (cycles : ℕ) → ArePoint plant states task uses cycles → cycles ≤ bound

bounds_activations : (plant : PlantData) (states : List AbsState) (task bound : ℕ) → AreFor plant states task
    → BoundsPoints plant states task bound → BoundsActivations plant task bound
bounds_activations plant states task bound are bounds mode events state activation run declared has of_task =
    let window = has_window plant states task mode events state activation are (run, declared) of_task has in
    subst (λ (n : ℕ). n ≤ bound) (sym window.cycles)
    (bounds window.uses (duration window.events - window.since)
    (uses_are_points plant states task mode window.events window.state window.uses window.since window.case window.used))

at_most_of : (m n : ℕ) (cost : ℤ) → pos m ≤ℤ cost → cost ≤ℤ pos n → m ≤ n
at_most_of m n cost below above = omega (arith, ints)

pub good_multipliers_bound_activations : GoodMultipliersBound
good_multipliers_bound_activations plant states task multipliers denominator bound are good =
    bounds_activations plant states task bound are
    (λ uses cycles point. at_most_of cycles bound (cost_of (rows_of plant states task) point.counts) point.covers
    (counts_stay_within (rows_of plant states task) multipliers denominator bound (rows_are_shaped plant states task) good point.counts
    (counts_fit plant states task uses point.counts point.are) point.meets))

more_than : (cycles bound : ℕ) (cost : ℤ) → pos cycles ≤ℤ cost → bound < cycles → (pos 1 *ℤ (pos bound +ℤ pos 1)) ≤ℤ cost
more_than cycles bound cost covers more = omega (arith, ints)

not_more : (m n : ℕ) → (n < m → ⊥) → m ≤ n
not_more m n less = elim (either m n) [ inl within ↦ within | inr more ↦ absurd (less more) ]
  where
    either : (a b : ℕ) → (a ≤ b) ⊎ (b < a)
    either zero b = inl (omega arith)
    either (suc a) zero = inr (omega arith)
    either (suc a) (suc b) = elim (either a b) [ inl within ↦ inl (omega arith) | inr more ↦ inr (omega arith) ]

pub greatest_value_bounds_activations : GreatestValueBounds
greatest_value_bounds_activations plant states task bound are greatest =
    bounds_activations plant states task bound are
    (λ uses cycles point. not_more cycles bound
    (λ more. greatest.unreached point.counts 1
    (point_of_counts (rows_of plant states task) point.counts (counts_fit plant states task uses point.counts point.are) point.meets)
    (more_than cycles bound (cost_of (rows_of plant states task) point.counts) point.covers more)))
