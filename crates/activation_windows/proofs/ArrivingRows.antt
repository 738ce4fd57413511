-- A source is taken no more often than it arrives.
use Rattle.std.proofs.Common.{◌≡◌, ℕ, zero, suc, ◌+◌, ◌*◌, ◌≤◌, Bool, true, false, cond, List, [], ◌∷◌, length, Contains, Some, None, refl, sym, ◌∙◌, ap, subst, arith, mul-suc, mul-add, ◌++◌, Option, All, filter}
use Rattle.std.specs.Prelude.{◌==◌, sum_by, option_map, option_to_list, ℤ, pos, ◌-ℤ◌, ◌*ℤ◌, if◌then◌else◌}
use Rattle.std.specs.List.{AllByRecursion, range_with_len}
use Rattle.std.proofs.lemmas.Bool.{eqb-true}
use Rattle.std.proofs.lemmas.List.Elements.{All-contains, All-from_recursion, All-filter, All-map}
use Rattle.std.proofs.lemmas.List.Sums.{sum_by-cons}
use Rattle.std.proofs.lemmas.Int.{ints}
use Rattle.std.proofs.lemmas.Option.{none-some, same_Some}
use Rattle.std.proofs.Math.IntN.{pos-*ℤ-pos}
use Rattle.osek_kernel.specs.declared.context.Context.{Context}
use Rattle.osek_kernel.specs.declared.context.Context.TheVariants as contexts
use Rattle.osek_kernel.specs.declared.kernel.Active.{Active}
use Rattle.osek_kernel.specs.Kernel.{task_state}
use Rattle.osek_kernel.specs.Taken.{initial}
use Rattle.osek_kernel.specs.Sources.{source_at, source_count, is_one_shot}
use Rattle.osek_machine.specs.State.{MachineState}
use Rattle.osek_machine.specs.Events.{Arrival, Event, Arrive, Take, Execute, Serve, Idle, duration, started_by, ended_by}
use Rattle.osek_machine.specs.Activations.{active_since}
use Rattle.osek_machine.specs.Declarations.{IsInTime, ArrivesInTime, KeepsArrivals, arrivals_of, distance_of, gap}
use Rattle.osek_machine.specs.Steps.{Arrives}
use Rattle.wcet_atomic_blocks.specs.Plants.{PlantData}
use Rattle.abstract_sched.specs.declared.states.AbsState.{AbsState}
use Rattle.shadow_runs.proofs.Members.{first_member, later_member}
use Rattle.row_build.specs.Columns.{Column, Starts, In, cost}
use Rattle.row_build.specs.Families.{Row, arrives_apart, arrives_once, arriving, is_ever_live}
use Rattle.activation_windows.specs.Counted.{IsDeclaredCase, Meets, MeetsArriving}
use Rattle.activation_windows.specs.Windows.{Window, gone_on, open_window, used_by}
use Rattle.osek_machine.proofs.Calendar.{begun_at, begun_before, in_calendar, waits, waits_arrived}
use Rattle.activation_windows.proofs.Induction.{IsLater, Inducts, of_open, of_used}
use Rattle.activation_windows.proofs.Lasting.{Lasts, lasts, since_before, since_start}
use Rattle.activation_windows.proofs.Sums.{one, meets_by, difference_counted, sum_with}
use Rattle.activation_windows.proofs.Taking.{arrives_here, gone_on_counts, gone_on_took, step_counts, taken_counted, takes, opened_counts, opened_took, took, waits_once}

-- ---- Arrivals of a step

arrives_now : (source : ℕ) (arrival : Arrival) (earlier : List Event) → (arrival.source == source) ≡ true
    → arrivals_of source (Arrive arrival ∷ earlier) ≡ arrival.moment ∷ arrivals_of source earlier
arrives_now source arrival earlier is = rw is refl

arrives_not : (source : ℕ) (event : Event) (earlier : List Event) → arrives_here source event ≡ false
    → arrivals_of source (event ∷ earlier) ≡ arrivals_of source earlier
arrives_not source (Arrive arrival) earlier is = rw is refl
arrives_not source (Take taking) earlier is = refl
arrives_not source (Execute execution) earlier is = refl
arrives_not source (Serve call) earlier is = refl
arrives_not source (Idle cycles) earlier is = refl

-- ---- One that arrives again and again

-- It has arrived so many distances after the window began, and not later than now; where it doesn't wait, not later than
-- the last step that takes time began.
pub record HasArrived (distance source : ℕ) (events : List Event) (since later : ℕ) : Type 0 where
  pub moment : ℕ
  pub arrived : Contains (arrivals_of source events) moment
  pub apart : since + distance * later ≤ moment
  pub past : moment ≤ duration events
  pub before_last : waits source events ≡ false → moment ≤ begun_at events

pub record ArriveApart (distance source count : ℕ) (events : List Event) (since : ℕ) : Type 0 where
  pub begun : since ≤ begun_at events
  pub last : (later : ℕ) → later + 2 ≤ count + one (waits source events) → HasArrived distance source events since later

-- a step that takes time and isn't an arrival
timed_apart : (distance source count after : ℕ) (event : Event) (earlier : List Event) (since : ℕ)
    → begun_at (event ∷ earlier) ≡ duration earlier → arrives_here source event ≡ false
    → after + one (waits source (event ∷ earlier)) ≤ count + one (waits source earlier)
    → ArriveApart distance source count earlier since → ArriveApart distance source after (event ∷ earlier) since
timed_apart distance source count after event earlier since timed other counts apart = record {
  begun = (let begun = apart.begun in let before = begun_before earlier in omega arith);
  last = λ later many.
      let has = apart.last later (omega arith) in
      record {
        moment = has.moment;
        arrived = subst (λ (ms : List ℕ). Contains ms has.moment) (sym (arrives_not source event earlier other)) has.arrived;
        apart = has.apart;
        past = (let past = has.past in omega arith);
        before_last = λ none. (let past = has.past in omega arith);
      };
}

-- another source arrives
other_apart : (distance source count after : ℕ) (arrival : Arrival) (earlier : List Event) (since : ℕ) → (arrival.source == source) ≡ false
    → after + one (waits source (Arrive arrival ∷ earlier)) ≤ count + one (waits source earlier)
    → ArriveApart distance source count earlier since → ArriveApart distance source after (Arrive arrival ∷ earlier) since
other_apart distance source count after arrival earlier since other counts apart = record {
  begun = apart.begun;
  last = λ later many.
      let has = apart.last later (omega arith) in
      record {
        moment = has.moment;
        arrived = subst (λ (ms : List ℕ). Contains ms has.moment) (sym (arrives_not source (Arrive arrival) earlier other)) has.arrived;
        apart = has.apart;
        past = (let past = has.past in omega arith);
        before_last = λ none. has.before_last (ap (λ b. cond b true (waits source earlier)) (sym other) ∙ none);
      };
}

-- The source arrives: where it waits already nothing counts anew; else it arrives a distance after the last time.
waiting_arrives : (distance source count after : ℕ) (arrival : Arrival) (earlier : List Event) (since : ℕ) → (arrival.source == source) ≡ true
    → waits source earlier ≡ true → after ≤ count
    → ArriveApart distance source count earlier since → ArriveApart distance source after (Arrive arrival ∷ earlier) since
waiting_arrives distance source count after arrival earlier since here waiting counts apart =
    let waits_now : waits source (Arrive arrival ∷ earlier) ≡ true = rw here refl in
    record {
      begun = apart.begun;
      last = λ later many.
          let now = ap one waits_now in
          let was = ap one waiting in
          let has = apart.last later (omega arith) in
          record {
            moment = has.moment;
            arrived = subst (λ (ms : List ℕ). Contains ms has.moment) (sym (arrives_now source arrival earlier here))
                (later_member has.moment arrival.moment (arrivals_of source earlier) has.arrived);
            apart = has.apart;
            past = (let past = has.past in omega arith);
            before_last = λ none. absurd (let wrong : true ≡ false = sym waits_now ∙ none in cc);
          };
    }

distances_more : (distance later : ℕ) → distance * suc later ≡ distance * later + distance
distances_more distance later = mul-suc distance later

new_arrival : (distance source count : ℕ) (arrival : Arrival) (earlier : List Event) (since : ℕ) → begun_at earlier ≤ arrival.moment
    → AllByRecursion (λ other. distance ≤ gap arrival.moment other) (arrivals_of source earlier)
    → waits source earlier ≡ false → ArriveApart distance source count earlier since
    → (later : ℕ) → later + 2 ≤ count + 1 → since + distance * later ≤ arrival.moment
new_arrival distance source count arrival earlier since after apart_all fresh apart zero many = let begun = apart.begun in omega arith
new_arrival distance source count arrival earlier since after apart_all fresh apart (suc later) many =
    let has = apart.last later (omega arith) in
    let before = has.before_last fresh in
    let far : distance ≤ gap arrival.moment has.moment =
    All-contains (λ other. distance ≤ gap arrival.moment other) (arrivals_of source earlier) has.moment
    (All-from_recursion (λ other. distance ≤ gap arrival.moment other) (arrivals_of source earlier) apart_all) has.arrived in
    let more = distances_more distance later in
    let enough = has.apart in
    omega arith

fresh_arrives : (distance source count after : ℕ) (arrival : Arrival) (earlier : List Event) (since : ℕ) → (arrival.source == source) ≡ true
    → waits source earlier ≡ false → after ≤ count → begun_at earlier ≤ arrival.moment → arrival.moment ≤ duration earlier
    → AllByRecursion (λ other. distance ≤ gap arrival.moment other) (arrivals_of source earlier)
    → ArriveApart distance source count earlier since → ArriveApart distance source after (Arrive arrival ∷ earlier) since
fresh_arrives distance source count after arrival earlier since here fresh counts begins past apart_all apart =
    let waits_now : waits source (Arrive arrival ∷ earlier) ≡ true = rw here refl in
    record {
      begun = apart.begun;
      last = λ later many.
          let now = ap one waits_now in
          record {
            moment = arrival.moment;
            arrived = subst (λ (ms : List ℕ). Contains ms arrival.moment) (sym (arrives_now source arrival earlier here))
                (first_member arrival.moment (arrivals_of source earlier));
            apart = new_arrival distance source count arrival earlier since begins apart_all fresh apart later (omega arith);
            past = omega arith;
            before_last = λ none. absurd (let wrong : true ≡ false = sym waits_now ∙ none in cc);
          };
    }

here_apart : (distance source count after : ℕ) (arrival : Arrival) (earlier : List Event) (since : ℕ) (waiting : Bool) → waits source earlier ≡ waiting
    → (arrival.source == source) ≡ true
    → after ≤ count → begun_at earlier ≤ arrival.moment → arrival.moment ≤ duration earlier
    → AllByRecursion (λ other. distance ≤ gap arrival.moment other) (arrivals_of source earlier)
    → ArriveApart distance source count earlier since → ArriveApart distance source after (Arrive arrival ∷ earlier) since
here_apart distance source count after arrival earlier since true is here counts begins past apart_all apart =
    waiting_arrives distance source count after arrival earlier since here is counts apart
here_apart distance source count after arrival earlier since false is here counts begins past apart_all apart =
    fresh_arrives distance source count after arrival earlier since here is counts begins past apart_all apart

-- ---- A window

abbrev pub Apart : PlantData → ℕ → ℕ → ℕ → List Event → MachineState → Window → Type 0
Apart plant task mode source events state window = (since : ℕ) → active_since plant.system mode task events ≡ Some since
    → ArriveApart (distance_of plant.system plant.timing (source_at plant.system source)) source (took source window) events since

arrive_apart : (plant : PlantData) (states : List AbsState) (task mode source : ℕ) (arrival : Arrival) (earlier : List Event) (before after : MachineState)
    (window : Window) (since : ℕ) → IsLater plant states task mode (Arrive arrival) earlier before after
    → (here : Bool) → (arrival.source == source) ≡ here
    → ArriveApart (distance_of plant.system plant.timing (source_at plant.system source)) source (took source window) earlier since
    → ArriveApart (distance_of plant.system plant.timing (source_at plant.system source)) source
    (took source (gone_on plant mode (Arrive arrival) earlier window)) (Arrive arrival ∷ earlier) since
arrive_apart plant states task mode source arrival earlier before after window since later true is apart =
    let step : Arrives plant.system arrival before after = later.step in
    let calendar = in_calendar plant.image plant.system mode earlier before later.case.of.run in
    let in_time : IsInTime plant.system plant.timing arrival.source arrival.moment (arrivals_of arrival.source earlier) = later.declared.arrivals.0 in
    let far = subst (λ (n : ℕ). AllByRecursion (λ other. distance_of plant.system plant.timing (source_at plant.system n) ≤ gap arrival.moment other)
    (arrivals_of n earlier)) (eqb-true arrival.source source is) in_time.apart in
    let counts = gone_on_took plant mode source (Arrive arrival) earlier window in
    here_apart (distance_of plant.system plant.timing (source_at plant.system source)) source (took source window)
    (took source (gone_on plant mode (Arrive arrival) earlier window)) arrival earlier since (waits source earlier) refl is
    (omega arith) (let last = calendar.last in let begins = step.begun in omega arith) (let now = calendar.now in let past = step.past in omega arith)
    far apart
arrive_apart plant states task mode source arrival earlier before after window since later false is apart =
    let counts = gone_on_counts plant states task mode source (Arrive arrival) earlier before after window later in
    let other = ap one is in
    other_apart (distance_of plant.system plant.timing (source_at plant.system source)) source (took source window)
    (took source (gone_on plant mode (Arrive arrival) earlier window)) arrival earlier since is (omega arith) apart

step_apart : (plant : PlantData) (states : List AbsState) (task mode source : ℕ) (event : Event) (earlier : List Event) (before after : MachineState)
    (window : Window) (since : ℕ) → IsLater plant states task mode event earlier before after
    → ArriveApart (distance_of plant.system plant.timing (source_at plant.system source)) source (took source window) earlier since
    → ArriveApart (distance_of plant.system plant.timing (source_at plant.system source)) source
    (took source (gone_on plant mode event earlier window)) (event ∷ earlier) since
step_apart plant states task mode source (Arrive arrival) earlier before after window since later apart =
    arrive_apart plant states task mode source arrival earlier before after window since later (arrival.source == source) refl apart
step_apart plant states task mode source (Take taking) earlier before after window since later apart =
    let counts = gone_on_counts plant states task mode source (Take taking) earlier before after window later in
    timed_apart _ source (took source window) (took source (gone_on plant mode (Take taking) earlier window)) (Take taking) earlier since refl refl
    (omega arith) apart
step_apart plant states task mode source (Execute execution) earlier before after window since later apart =
    let counts = gone_on_counts plant states task mode source (Execute execution) earlier before after window later in
    timed_apart _ source (took source window) (took source (gone_on plant mode (Execute execution) earlier window)) (Execute execution) earlier since refl refl
    (omega arith) apart
step_apart plant states task mode source (Serve call) earlier before after window since later apart =
    let counts = gone_on_counts plant states task mode source (Serve call) earlier before after window later in
    timed_apart _ source (took source window) (took source (gone_on plant mode (Serve call) earlier window)) (Serve call) earlier since refl refl
    (omega arith) apart
step_apart plant states task mode source (Idle cycles) earlier before after window since later apart =
    let counts = gone_on_counts plant states task mode source (Idle cycles) earlier before after window later in
    timed_apart _ source (took source window) (took source (gone_on plant mode (Idle cycles) earlier window)) (Idle cycles) earlier since refl refl
    (omega arith) apart

zero_since : (state : Option Active) (since : ℕ) → option_map (λ active. 0) state ≡ Some since → since ≡ 0
zero_since None since e = absurd (none-some since e)
zero_since (Some active) since e = sym (same_Some 0 since e)

starts_timed : (event : Event) (earlier : List Event) (context : Context) → started_by event ≡ Some context → begun_at (event ∷ earlier) ≡ duration earlier
starts_timed (Arrive arrival) earlier context starts = absurd (none-some context starts)
starts_timed (Take taking) earlier context starts = refl
starts_timed (Execute execution) earlier context starts = refl
starts_timed (Serve call) earlier context starts = refl
starts_timed (Idle cycles) earlier context starts = refl

apart_in : (plant : PlantData) (states : List AbsState) (task mode source : ℕ) → Inducts plant states task mode (Apart plant task mode source)
apart_in plant states task mode source = record {
  starts = λ state case active since e. record {
    begun = (let zero_one = zero_since (task_state (initial plant.system mode) task) since e in omega arith);
    last = λ later many. absurd (let none = opened_took plant mode source (Some (Starts (In mode))) [] in omega arith);
  };
  begins = λ event earlier before after later starts since e. record {
    begun = (let begun = since_start plant task mode event earlier since starts e in
        let timed = starts_timed event earlier (contexts.Task task) starts in omega arith);
    last = λ further many. absurd (let counts = opened_counts plant states task mode source event earlier before after (contexts.Task task) later starts in
        let once = waits_once source earlier in omega arith);
  };
  goes_on = λ event earlier before after window later others stays is_open held since e.
      step_apart plant states task mode source event earlier before after window since later
      (held since (since_before plant task mode event earlier since others stays e));
}

-- ---- One that arrives once

arrivals_count : (source : ℕ) (event : Event) (earlier : List Event)
    → length (arrivals_of source (event ∷ earlier)) ≡ length (arrivals_of source earlier) + one (arrives_here source event)
arrivals_count source (Arrive arrival) earlier = arriving (arrival.source == source) refl
  where
    arriving : (here : Bool) → (arrival.source == source) ≡ here
        → length (arrivals_of source (Arrive arrival ∷ earlier)) ≡ length (arrivals_of source earlier) + one (arrival.source == source)
    arriving true is = rw is (omega arith)
    arriving false is = rw is (omega arith)
arrivals_count source (Take taking) earlier = omega arith
arrivals_count source (Execute execution) earlier = omega arith
arrivals_count source (Serve call) earlier = omega arith
arrivals_count source (Idle cycles) earlier = omega arith

arrives_once_if : (plant : PlantData) (source : ℕ) (event : Event) (earlier : List Event) → is_one_shot plant.system (source_at plant.system source) ≡ true
    → ArrivesInTime plant.system plant.timing event earlier → arrives_here source event ≡ true → length (arrivals_of source earlier) ≡ 0
arrives_once_if plant source (Arrive arrival) earlier one_shot in_time here =
    let at : arrival.source ≡ source = eqb-true arrival.source source here in
    let none : arrivals_of arrival.source earlier ≡ [] = in_time.once (ap (λ n. is_one_shot plant.system (source_at plant.system n)) at ∙ one_shot) in
    ap length (ap (λ n. arrivals_of n earlier) (sym at) ∙ none)
arrives_once_if plant source (Take taking) earlier one_shot in_time here = absurd cc
arrives_once_if plant source (Execute execution) earlier one_shot in_time here = absurd cc
arrives_once_if plant source (Serve call) earlier one_shot in_time here = absurd cc
arrives_once_if plant source (Idle cycles) earlier one_shot in_time here = absurd cc

one_more : (here : Bool) (before after : ℕ) → after ≡ before + one here → before ≤ 1 → (here ≡ true → before ≡ 0) → after ≤ 1
one_more true before after e most none = let no_one = none refl in omega arith
one_more false before after e most none = omega arith

pub arrives_at_most_once : (plant : PlantData) (source : ℕ) (events : List Event) → is_one_shot plant.system (source_at plant.system source) ≡ true
    → KeepsArrivals plant.system plant.timing events → length (arrivals_of source events) ≤ 1
arrives_at_most_once plant source [] one_shot keeps = omega arith
arrives_at_most_once plant source (event ∷ earlier) one_shot keeps =
    one_more (arrives_here source event) (length (arrivals_of source earlier)) (length (arrivals_of source (event ∷ earlier)))
    (arrivals_count source event earlier) (arrives_at_most_once plant source earlier one_shot keeps.1)
    (arrives_once_if plant source event earlier one_shot keeps.0)

abbrev pub TakenOnce : ℕ → List Event → MachineState → Window → Type 0
TakenOnce source events state window = took source window + one (waits source events) ≤ length (arrivals_of source events)

waits_count : (source : ℕ) (events : List Event) → one (waits source events) ≤ length (arrivals_of source events)
waits_count source events = waiting (waits source events) refl
  where
    waiting : (flag : Bool) → waits source events ≡ flag → one flag ≤ length (arrivals_of source events)
    waiting true is = waits_arrived source events is
    waiting false is = omega arith

once_in : (plant : PlantData) (states : List AbsState) (task mode source : ℕ) → Inducts plant states task mode (TakenOnce source)
once_in plant states task mode source = record {
  starts = λ state case active. (let none = opened_took plant mode source (Some (Starts (In mode))) [] in omega arith);
  begins = λ event earlier before after later starts.
      let counts = opened_counts plant states task mode source event earlier before after (contexts.Task task) later starts in
      let waiting = waits_count source earlier in
      let more = arrivals_count source event earlier in
      omega arith;
  goes_on = λ event earlier before after window later others stays is_open held.
      let counts = gone_on_counts plant states task mode source event earlier before after window later in
      let more = arrivals_count source event earlier in
      omega arith;
}

-- ---- The rows

-- what was taken, where the window is open, or closes by a step that takes nothing
ends_elsewhere : (source : ℕ) (event : Event) (context : Context) → ended_by event ≡ Some context → arrives_here source event ≡ false
ends_elsewhere source (Arrive arrival) context ends = absurd (none-some context ends)
ends_elsewhere source (Take taking) context ends = refl
ends_elsewhere source (Execute execution) context ends = refl
ends_elsewhere source (Serve call) context ends = refl
ends_elsewhere source (Idle cycles) context ends = refl

closing_took : (plant : PlantData) (states : List AbsState) (task mode source : ℕ) (event : Event) (earlier : List Event) (before after : MachineState)
    (window : Window) → IsLater plant states task mode event earlier before after → ended_by event ≡ Some (contexts.Task task)
    → sum_by (takes source) (option_to_list (used_by plant mode event earlier) ++ window.uses) ≤ took source window + one (waits source earlier)
closing_took plant states task mode source event earlier before after window later ends =
    let used = sum_with (takes source) (used_by plant mode event earlier) window.uses in
    let counts = step_counts plant states task mode source event earlier before after later in
    let elsewhere = ap one (ends_elsewhere source event (contexts.Task task) ends) in
    omega arith

apart_sum : (distance source count : ℕ) (events : List Event) (since took cycles : ℕ) → ArriveApart distance source count events since
    → took ≤ count + one (waits source events) → duration events ≤ since + cycles → distance * took ≤ cycles + 2 * distance
apart_sum distance source count events since zero cycles apart most lasts = omega arith
apart_sum distance source count events since (suc zero) cycles apart most lasts = let once = mul-suc distance 0 in omega arith
apart_sum distance source count events since (suc (suc later)) cycles apart most lasts =
    let has = apart.last later (omega arith) in
    let enough = has.apart in
    let past = has.past in
    let twice = mul-suc distance (suc later) in
    let once = mul-suc distance later in
    omega arith

pub scaled_sum : (distance : ℕ) (count : Column → ℕ) (uses : List Column) → sum_by (λ column. distance * count column) uses ≡ distance * sum_by count uses
scaled_sum distance count [] = omega arith
scaled_sum distance count (column ∷ uses) =
    sum_by-cons (λ c. distance * count c) column uses
    ∙ (ap (λ n. distance * count column + n) (scaled_sum distance count uses)
    ∙ (sym (mul-add distance (count column) (sum_by count uses)) ∙ ap (λ n. distance * n) (sym (sum_by-cons count column uses))))

meets_apart : (plant : PlantData) (source : ℕ) (uses : List Column)
    → distance_of plant.system plant.timing (source_at plant.system source) * sum_by (takes source) uses
    ≤ sum_by (cost plant) uses + 2 * distance_of plant.system plant.timing (source_at plant.system source)
    → Meets uses (arrives_apart plant source)
meets_apart plant source uses most =
    let distance = distance_of plant.system plant.timing (source_at plant.system source) in
    let scaled = scaled_sum distance (takes source) uses in
    meets_by _ (λ column. distance * takes source column) (cost plant) (2 * distance) uses
    (λ column. difference_counted _ _ (distance * takes source column) (cost plant column)
    (ap (λ z. pos distance *ℤ z) (taken_counted source column) ∙ pos-*ℤ-pos distance (takes source column)) refl)
    (omega arith)

less_nothing : (a : ℤ) (n : ℕ) → a ≡ pos n → a ≡ pos n -ℤ pos 0
less_nothing a n e = omega (arith, ints, e)

meets_once : (source : ℕ) (uses : List Column) → sum_by (takes source) uses ≤ 1 → Meets uses (arrives_once source)
meets_once source uses most =
    meets_by _ (takes source) (λ column. 0) 1 uses (λ column. less_nothing _ (takes source column) (taken_counted source column)) (omega arith)

abbrev row_of : PlantData → ℕ → Row
row_of plant source = if is_one_shot plant.system (source_at plant.system source) then arrives_once source else arrives_apart plant source

meets_row : (plant : PlantData) (source : ℕ) (uses : List Column)
    → (is_one_shot plant.system (source_at plant.system source) ≡ true → Meets uses (arrives_once source)) → Meets uses (arrives_apart plant source)
    → Meets uses (row_of plant source)
meets_row plant source uses once apart = choose (is_one_shot plant.system (source_at plant.system source)) refl
  where
    choose : (one_shot : Bool) → is_one_shot plant.system (source_at plant.system source) ≡ one_shot
        → Meets uses (cond one_shot (arrives_once source) (arrives_apart plant source))
    choose true is = once is
    choose false is = apart

all_meet : (plant : PlantData) (uses : List Column) → ((source : ℕ) → Meets uses (row_of plant source)) → All (Meets uses) (arriving plant)
all_meet plant uses each =
    All-map (Meets uses) (row_of plant) (filter (is_ever_live plant) (range_with_len 0 (source_count plant.system)))
    (All-filter (is_ever_live plant) (λ source. Meets uses (row_of plant source)) (range_with_len 0 (source_count plant.system)) (λ k d inside. each _))

open_meets : (plant : PlantData) (states : List AbsState) (task mode : ℕ) (events : List Event) (state : MachineState) (window : Window) (since : ℕ)
    (uses : List Column) → IsDeclaredCase plant states task mode events state → open_window plant task mode events ≡ Some window
    → active_since plant.system mode task events ≡ Some since → sum_by (cost plant) window.uses ≤ sum_by (cost plant) uses
    → ((source : ℕ) → sum_by (takes source) uses ≤ took source window + one (waits source events)) → (source : ℕ) → Meets uses (row_of plant source)
open_meets plant states task mode events state window since uses case is_open active costs most source =
    meets_row plant source uses
    (λ one_shot. meets_once source uses
    (let bound = most source in
    let once = of_open plant states task mode (TakenOnce source) (once_in plant states task mode source) events state window case is_open in
    let all = arrives_at_most_once plant source events one_shot case.declared.arrivals in
    omega arith))
    (meets_apart plant source uses
    (let lasting = of_open plant states task mode (Lasts plant task mode) (lasts plant states task mode) events state window case is_open since active in
    apart_sum (distance_of plant.system plant.timing (source_at plant.system source)) source (took source window) events since
    (sum_by (takes source) uses) (sum_by (cost plant) uses)
    (of_open plant states task mode (Apart plant task mode source) (apart_in plant states task mode source) events state window case is_open since active)
    (most source) (omega arith)))

pub meets_arriving : MeetsArriving
meets_arriving plant states task mode =
    of_used plant states task mode (λ events state uses since. All (Meets uses) (arriving plant)) (record {
      while_it_is_open = λ events state window since case is_open active.
          all_meet plant window.uses
          (open_meets plant states task mode events state window since window.uses case is_open active (omega arith) (λ source. omega arith));
      closes = λ event earlier before after window since later ends is_open active.
          let used = option_to_list (used_by plant mode event earlier) ++ window.uses in
          let costs = sum_with (cost plant) (used_by plant mode event earlier) window.uses in
          all_meet plant used
          (open_meets plant states task mode earlier before window since used later.case is_open active (omega arith)
          (λ source. closing_took plant states task mode source event earlier before after window later ends));
    })
