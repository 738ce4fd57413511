-- How often visits count in a window: by the step that begins them while they wait, and by the state in which their
-- context runs when they are used.
use Rattle.std.proofs.Common.{◌≡◌, ℕ, ◌+◌, ◌≤◌, ◌⊎◌, inl, inr, Bool, false, List, [], ◌∷◌, ◌++◌, Option, Some, None, refl, sym, ◌∙◌, ap, subst, arith}
use Rattle.std.specs.Prelude.{not, ◌&&◌, option_map, option_to_list, sum_by}
use Rattle.std.proofs.lemmas.List.Sums.{sum_by-cons}
use Rattle.std.proofs.lemmas.Option.{none-some}
use Rattle.osek_kernel.specs.declared.context.Context.{Context}
use Rattle.osek_kernel.specs.declared.context.Context.TheVariants as contexts
use Rattle.osek_kernel.specs.declared.kernel.Kernel.{Kernel}
use Rattle.osek_kernel.specs.Contexts.{IsContext}
use Rattle.osek_kernel.specs.Kernel.{IsActive}
use Rattle.osek_kernel.specs.Positions.{position_of}
use Rattle.osek_kernel.specs.Running.{runs}
use Rattle.osek_machine.specs.State.{MachineState}
use Rattle.osek_machine.specs.Events.{Event, Arrive, Take, Execute, Serve, Idle, started_by, ended_by}
use Rattle.osek_machine.specs.Loops.{is_this}
use Rattle.wcet_atomic_blocks.specs.Plants.{PlantData}
use Rattle.abstract_sched.specs.declared.states.AbsState.{AbsState}
use Rattle.shadow_runs.specs.Shadow.{begun}
use Rattle.row_build.specs.Columns.{Along, Going, Start, Column, Starts, Moves, Goes, In, By, state_after}
use Rattle.activation_windows.specs.Counted.{IsDeclaredCase, IsUsed}
use Rattle.activation_windows.specs.Windows.{Window, shadow_after, running_after, going_by, label_of, along_of, used_by, start_by, waiting_after, opened, gone_on, open_window}
use Rattle.activation_windows.proofs.Induction.{IsLater, Inducts, kernel_is, of_open, of_used}
use Rattle.activation_windows.proofs.Stepping.{told_of, IsMove, IsStill, moves_or_stays, and_true, contexts_exist}
use Rattle.activation_windows.proofs.Sums.{one, sum_option, sum_waiting, sum_with, into_count}
use Rattle.activation_windows.proofs.InBlocks.{IsVisit, Wait, newly, run_uses, run_total, visit_of, waiting_sum, after_waits}
use Rattle.activation_windows.proofs.Waiting.{standing_visits, opening_waits, open_waits}
use Rattle.activation_windows.proofs.Windows.{IsWhole, is_whole, stays_active, goes_unended, started_active}

-- ---- Only visits count

pub record CountsVisits (count : Column → ℕ) : Type 0 where
  pub starts : (start : Start) → count (Starts start) ≡ 0
  pub moves : (going : Going) → count (Moves going) ≡ 0
  pub goes : (along : Along) → count (Goes along) ≡ 0

none_of : {A : Type 0} (count : Column → ℕ) (column : A → Column) (o : Option A) → ((a : A) → count (column a) ≡ 0)
    → sum_option count (option_map column o) ≡ 0
none_of count column None zeros = refl
none_of count column (Some a) zeros = zeros a

pub step_none : (plant : PlantData) (count : Column → ℕ) → CountsVisits count → (mode : ℕ) (event : Event) (earlier : List Event)
    → sum_option count (used_by plant mode event earlier) ≡ 0
step_none plant count visits mode (Arrive arrival) earlier = refl
step_none plant count visits mode (Take taking) earlier = visits.moves _
step_none plant count visits mode (Execute execution) earlier = none_of count Goes (along_of plant execution) visits.goes
step_none plant count visits mode (Serve call) earlier =
    none_of count (λ label. Moves (going_by plant mode label (Serve call) earlier)) (label_of plant (Serve call)) (λ label. visits.moves _)
step_none plant count visits mode (Idle cycles) earlier = refl

pub start_none : (plant : PlantData) (count : Column → ℕ) → CountsVisits count → (mode : ℕ) (event : Event) (earlier : List Event)
    → sum_option count (start_by plant mode event earlier) ≡ 0
start_none plant count visits mode event earlier =
    none_of count (λ label. Starts (By (going_by plant mode label event earlier))) (label_of plant event) (λ label. visits.starts _)

sum_alone : (count : Column → ℕ) (new : Option Column) → sum_by count (option_to_list new) ≡ sum_option count new
sum_alone count None = refl
sum_alone count (Some column) = rw (sum_by-cons count column []) (omega arith)

-- ---- What is bounded while windows are open stays so at the close

pub used_at_most : (plant : PlantData) (states : List AbsState) (task mode : ℕ) (count bound : Column → ℕ) → CountsVisits count
    → ((events : List Event) (state : MachineState) (window : Window) → IsDeclaredCase plant states task mode events state
    → open_window plant task mode events ≡ Some window → sum_by count window.uses ≤ sum_by bound window.uses)
    → (events : List Event) (state : MachineState) (uses : List Column) (since : ℕ) → IsDeclaredCase plant states task mode events state
    → IsUsed plant task mode events uses since → sum_by count uses ≤ sum_by bound uses
used_at_most plant states task mode count bound visits most events state uses since case used =
    of_used plant states task mode (λ events state uses since. sum_by count uses ≤ sum_by bound uses) (record {
      while_it_is_open = λ events state window since case is_open active. most events state window case is_open;
      closes = λ event earlier before after window since later ends is_open active.
          let last = used_by plant mode event earlier in
          let held = most earlier before window later.case is_open in
          let none = step_none plant count visits mode event earlier in
          let more = sum_with count last window.uses in
          let others = sum_with bound last window.uses in
          omega arith;
    }) events state uses since case used

-- ---- While visits wait

-- what is used and what waits, of the one count, is at most what is used of the other
abbrev pub IsBegun : (Column → ℕ) → (Column → ℕ) → List Event → MachineState → Window → Type 0
IsBegun count bound events state window = sum_by count window.uses + sum_waiting count window.waiting ≤ sum_by bound window.uses

pub opened_begun : (plant : PlantData) (mode : ℕ) (count bound : Column → ℕ) (start : Option Column) (events : List Event) (state : MachineState)
    → sum_option count start + sum_waiting count (standing_visits plant mode events) ≤ sum_option bound start
    → IsBegun count bound events state (opened plant mode start events)
opened_begun plant mode count bound start events state most =
    let first : Window = record { uses = option_to_list start; waiting = standing_visits plant mode events } in
    let total = run_total plant count (running_after plant mode events) first in
    let used = run_uses plant bound (running_after plant mode events) first in
    let counts = sum_alone count start in
    let bounds = sum_alone bound start in
    omega arith

pub gone_on_begun : (plant : PlantData) (mode : ℕ) (count bound : Column → ℕ) (event : Event) (earlier : List Event) (before after : MachineState)
    (window : Window)
    → sum_option count (used_by plant mode event earlier) + newly plant count event ≤ sum_option bound (used_by plant mode event earlier)
    → IsBegun count bound earlier before window → IsBegun count bound (event ∷ earlier) after (gone_on plant mode event earlier window)
gone_on_begun plant mode count bound event earlier before after window most was =
    let step = used_by plant mode event earlier in
    let who = running_after plant mode (event ∷ earlier) in
    let next : Window = record { uses = option_to_list step ++ window.uses; waiting = waiting_after plant event window.waiting } in
    let total = run_total plant count who next in
    let used = run_uses plant bound who next in
    let counts = sum_with count step window.uses in
    let bounds = sum_with bound step window.uses in
    let waits = waiting_sum plant count event window.waiting in
    omega arith

pub begun_at_most : (plant : PlantData) (states : List AbsState) (task mode : ℕ) (count bound : Column → ℕ) → CountsVisits count
    → Inducts plant states task mode (IsBegun count bound) → (events : List Event) (state : MachineState) (uses : List Column) (since : ℕ)
    → IsDeclaredCase plant states task mode events state → IsUsed plant task mode events uses since → sum_by count uses ≤ sum_by bound uses
begun_at_most plant states task mode count bound visits inducts events state uses since case used =
    used_at_most plant states task mode count bound visits
    (λ events state window case is_open.
    let most = of_open plant states task mode (IsBegun count bound) inducts events state window case is_open in omega arith)
    events state uses since case used

-- ---- When visits are used

-- a visit counts only where the state in which its context runs passes the test
abbrev pub Passes : PlantData → List AbsState → ℕ → ℕ → (Column → ℕ) → (AbsState → Bool) → Type 0
Passes plant states task mode count test = (events : List Event) (state : MachineState) → IsDeclaredCase plant states task mode events state
    → IsActive state.kernel (contexts.Task task) → (c : Context) (visit : Column) → running_after plant mode events ≡ Some c
    → IsVisit plant (position_of plant.system (begun plant mode events) c) c visit → count visit ≤ one (test (shadow_after plant mode events))

visit_if : (plant : PlantData) (count : Column → ℕ) (most : ℕ) (c : Context) (block : Option ℕ) (visit : Option Column)
    → ((v : Column) → visit ≡ Some v → IsVisit plant block c v) → ((v : Column) → IsVisit plant block c v → count v ≤ most)
    → sum_option count visit ≤ most
visit_if plant count most c block None is each = omega arith
visit_if plant count most c block (Some v) is each = each v (is v refl)

visit_most : (plant : PlantData) (states : List AbsState) (task mode : ℕ) (count : Column → ℕ) (test : AbsState → Bool)
    → Passes plant states task mode count test → (events : List Event) (state : MachineState) → IsDeclaredCase plant states task mode events state
    → IsActive state.kernel (contexts.Task task) → (waiting : List (Option Column)) → Wait plant (begun plant mode events) waiting
    → (who : Option Context) → running_after plant mode events ≡ who
    → sum_option count (visit_of plant who waiting) ≤ one (test (shadow_after plant mode events))
visit_most plant states task mode count test passes events state case active waiting waits None runs_now = omega arith
visit_most plant states task mode count test passes events state case active waiting waits (Some c) runs_now =
    let exists : IsContext plant.system c = (told_of plant states task mode events state case).running c runs_now in
    visit_if plant count (one (test (shadow_after plant mode events))) c (position_of plant.system (begun plant mode events) c)
    (position_of plant.system waiting c) (λ v at. waits.visits c v exists at) (λ v is. passes events state case active c v runs_now is)

-- what is used of visits is at most how often states are come into
abbrev pub IsEntered : PlantData → ℕ → (Column → ℕ) → (AbsState → Bool) → List Event → MachineState → Window → Type 0
IsEntered plant task count test events state window = sum_by count window.uses ≤ sum_by (into_count plant task test) window.uses

opened_entered : (plant : PlantData) (states : List AbsState) (task mode : ℕ) (count : Column → ℕ) (test : AbsState → Bool)
    → CountsVisits count → Passes plant states task mode count test → (start : Start) (first : Option Column) → first ≡ Some (Starts start)
    → (events : List Event) (state : MachineState) → IsDeclaredCase plant states task mode events state → IsActive state.kernel (contexts.Task task)
    → state_after plant start ≡ shadow_after plant mode events → IsEntered plant task count test events state (opened plant mode first events)
opened_entered plant states task mode count test visits passes start first is events state case active same =
    let who = running_after plant mode events in
    let bound : Column → ℕ = into_count plant task test in
    let window : Window = record { uses = option_to_list first; waiting = standing_visits plant mode events } in
    let uses = run_uses plant count who window in
    let bounds = run_uses plant bound who window in
    let counts = sum_alone count first ∙ (ap (sum_option count) is ∙ visits.starts start) in
    let more : sum_by bound (option_to_list first) ≡ one (test (shadow_after plant mode events)) + 0 =
    sum_alone bound first ∙ (ap (sum_option bound) is ∙ ap (λ (s : AbsState). one (test s) + 0) same) in
    let most = visit_most plant states task mode count test passes events state case active (standing_visits plant mode events)
    (opening_waits plant states task mode events state case) who refl in
    omega arith

step_most : (plant : PlantData) (states : List AbsState) (task mode : ℕ) (count : Column → ℕ) (test : AbsState → Bool)
    → Passes plant states task mode count test → (event : Event) (earlier : List Event) (before after : MachineState) (window : Window)
    → IsLater plant states task mode event earlier before after → is_this (contexts.Task task) (ended_by event) ≡ false
    → IsWhole plant task mode earlier before window → IsActive after.kernel (contexts.Task task)
    → Wait plant (begun plant mode (event ∷ earlier)) (waiting_after plant event window.waiting)
    → IsMove plant mode event earlier ⊎ IsStill plant mode event earlier
    → sum_option count (visit_of plant (running_after plant mode (event ∷ earlier)) (waiting_after plant event window.waiting))
    ≤ sum_option (into_count plant task test) (used_by plant mode event earlier)
step_most plant states task mode count test passes event earlier before after window later on whole active waits (inl move) =
    let going : Going = going_by plant mode move.label event earlier in
    let most = visit_most plant states task mode count test passes (event ∷ earlier) after later.whole active (waiting_after plant event window.waiting) waits
    (running_after plant mode (event ∷ earlier)) refl in
    let counts : sum_option (into_count plant task test) (used_by plant mode event earlier) ≡ 0 + one (test (shadow_after plant mode (event ∷ earlier))) =
    ap (sum_option (into_count plant task test)) move.used
    ∙ ap (λ (n : ℕ). 0 + n) (ap one (ap (λ b. test (shadow_after plant mode (event ∷ earlier)) && not b) (move.ends (contexts.Task task) ∙ on)
    ∙ and_true (test (shadow_after plant mode (event ∷ earlier))))) in
    omega arith
step_most plant states task mode count test passes event earlier before after window later on whole active waits (inr still) =
    let who = running_after plant mode (event ∷ earlier) in
    let same : visit_of plant who (waiting_after plant event window.waiting) ≡ None =
    ap (visit_of plant who) (still.waiting window.waiting)
    ∙ (ap (λ k. visit_of plant (runs plant.system k) window.waiting) still.kernel
    ∙ nobody (running_after plant mode earlier) refl) in
    let none : sum_option count (visit_of plant who (waiting_after plant event window.waiting)) ≡ 0 = ap (sum_option count) same in
    omega arith
  where
    nobody : (who : Option Context) → running_after plant mode earlier ≡ who → visit_of plant who window.waiting ≡ None
    nobody None e = refl
    nobody (Some c) e = whole.ran c e

gone_on_entered : (plant : PlantData) (states : List AbsState) (task mode : ℕ) (count : Column → ℕ) (test : AbsState → Bool)
    → CountsVisits count → Passes plant states task mode count test → (event : Event) (earlier : List Event) (before after : MachineState) (window : Window)
    → IsLater plant states task mode event earlier before after → is_this (contexts.Task task) (started_by event) ≡ false
    → is_this (contexts.Task task) (ended_by event) ≡ false → open_window plant task mode earlier ≡ Some window
    → IsEntered plant task count test earlier before window → IsEntered plant task count test (event ∷ earlier) after (gone_on plant mode event earlier window)
gone_on_entered plant states task mode count test visits passes event earlier before after window later new on is_open was =
    let step = used_by plant mode event earlier in
    let who = running_after plant mode (event ∷ earlier) in
    let bound : Column → ℕ = into_count plant task test in
    let next : Window = record { uses = option_to_list step ++ window.uses; waiting = waiting_after plant event window.waiting } in
    let whole = is_whole plant states task mode earlier before window later.case is_open in
    let active = stays_active plant event before after (contexts.Task task) later.step (goes_unended task event on) whole.active in
    let waits = after_waits plant mode event earlier window.waiting (contexts_exist plant states task mode event earlier before after later)
    (told_of plant states task mode earlier before later.case).positions.count
    (open_waits plant states task mode earlier before window later.case is_open) in
    let most = step_most plant states task mode count test passes event earlier before after window later on whole active waits
    (moves_or_stays plant states task mode event earlier before after later) in
    let none = step_none plant count visits mode event earlier in
    let uses = run_uses plant count who next in
    let bounds = run_uses plant bound who next in
    let counts = sum_with count step window.uses in
    let others = sum_with bound step window.uses in
    omega arith

pub inducts_entered : (plant : PlantData) (states : List AbsState) (task mode : ℕ) (count : Column → ℕ) (test : AbsState → Bool)
    → CountsVisits count → Passes plant states task mode count test → Inducts plant states task mode (IsEntered plant task count test)
inducts_entered plant states task mode count test visits passes = record {
  starts = λ state case is. opened_entered plant states task mode count test visits passes (In mode) (Some (Starts (In mode))) refl [] state case
      (subst (λ (k : Kernel). IsActive k (contexts.Task task)) (kernel_is plant mode [] state case.of.run) is) refl;
  begins = λ event earlier before after later is.
      elim (moves_or_stays plant states task mode event earlier before after later) [
        | inl move ↦ opened_entered plant states task mode count test visits passes (By (going_by plant mode move.label event earlier))
            (start_by plant mode event earlier)
            (ap (option_map (λ label. Starts (By (going_by plant mode label event earlier)))) move.labelled) (event ∷ earlier) after later.whole
            (started_active plant states task mode event earlier before after later is) refl
        | inr still ↦ absurd (none-some (contexts.Task task) (sym still.nobody_starts ∙ is))
      ];
  goes_on = λ event earlier before after window later new on is_open was.
      gone_on_entered plant states task mode count test visits passes event earlier before after window later new on is_open was;
}

pub entered_at_most : (plant : PlantData) (states : List AbsState) (task mode : ℕ) (count : Column → ℕ) (test : AbsState → Bool)
    → CountsVisits count → Passes plant states task mode count test → (events : List Event) (state : MachineState) (uses : List Column) (since : ℕ)
    → IsDeclaredCase plant states task mode events state → IsUsed plant task mode events uses since
    → sum_by count uses ≤ sum_by (into_count plant task test) uses
entered_at_most plant states task mode count test visits passes events state uses since case used =
    used_at_most plant states task mode count (into_count plant task test) visits
    (λ events state window case is_open. of_open plant states task mode (IsEntered plant task count test)
    (inducts_entered plant states task mode count test visits passes) events state window case is_open)
    events state uses since case used
