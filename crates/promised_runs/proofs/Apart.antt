-- Takings of a source lie apart, since its arrivals do and wait no longer than is promised.
use Rattle.std.proofs.Common.{◌≡◌, ℕ, zero, suc, ◌+◌, ◌*◌, ◌≤◌, Bool, true, false, cond, List, [], ◌∷◌, ◌++◌, Contains, Option, Some, None, refl}
use Rattle.std.proofs.Common.{sym, ◌∙◌, ap, subst, arith, mul-suc, append-nil, append_assoc}
use Rattle.std.specs.Prelude.{◌==◌, nat_lt, unwrap_or}
use Rattle.std.specs.List.{AllByRecursion}
use Rattle.std.proofs.lemmas.Bool.{eq-eqb, eqb-true}
use Rattle.std.proofs.lemmas.List.Elements.{All-contains, All-from_recursion}
use Rattle.elf_image.specs.Image.{ImageData}
use Rattle.oil_model.specs.declared.system.System.{System}
use Rattle.osek_kernel.specs.Sources.{source_at}
use Rattle.timing_file.specs.declared.timing.Timing.{Timing}
use Rattle.promises_file.specs.declared.promises.Promises.{Promises}
use Rattle.promises_file.specs.Latencies.{latency_of}
use Rattle.osek_machine.specs.State.{MachineState, is_pending}
use Rattle.osek_machine.specs.Events.{Arrival, Taking, Event, Arrive, Take, Execute, Serve, Idle, duration}
use Rattle.osek_machine.specs.Declarations.{IsInTime, arrivals_of, distance_of, gap}
use Rattle.osek_machine.specs.Runs.{IsRun}
use Rattle.osek_machine.specs.Steps.{Arrives, Takes}
use Rattle.promised_runs.specs.Promised.{WaitsWithin, IsPromised, pending_since}
use Rattle.promised_runs.specs.Apart.{KeepsPromises, TakingsLieApart, TakingsFollow, FirstTakingsLieApart, lesser, takings}
use Rattle.osek_machine.proofs.Calendar.{begun_at, in_calendar, waits}

-- ---- Beginnings of a run

before_it : (image : ImageData) (system : System) (timing : Timing) (promises : Promises) (mode : ℕ) (event : Event) (earlier : List Event)
    (state : MachineState) (keeps : KeepsPromises image system timing promises mode (event ∷ earlier) state)
    → KeepsPromises image system timing promises mode earlier keeps.run.0
before_it image system timing promises mode event earlier state keeps =
    record { run = keeps.run.1; arrivals = keeps.arrivals.1; promised = keeps.promised.1 }

-- ---- Arrivals of a step

arrives_now : (source : ℕ) (arrival : Arrival) (earlier : List Event) → (arrival.source == source) ≡ true
    → arrivals_of source (Arrive arrival ∷ earlier) ≡ arrival.moment ∷ arrivals_of source earlier
arrives_now source arrival earlier is = rw is refl

arrives_not : (source : ℕ) (arrival : Arrival) (earlier : List Event) → (arrival.source == source) ≡ false
    → arrivals_of source (Arrive arrival ∷ earlier) ≡ arrivals_of source earlier
arrives_not source arrival earlier is = rw is refl

now_member : (source moment : ℕ) (arrival : Arrival) (earlier : List Event) → (arrival.source == source) ≡ true
    → Contains (arrivals_of source earlier) moment → Contains (arrivals_of source (Arrive arrival ∷ earlier)) moment
now_member source moment arrival earlier is has =
    subst (λ (ms : List ℕ). Contains ms moment) (sym (arrives_now source arrival earlier is)) (suc has.0, (let inside = has.1 in omega arith), has.2)

newest_member : (source : ℕ) (arrival : Arrival) (earlier : List Event) → (arrival.source == source) ≡ true
    → Contains (arrivals_of source (Arrive arrival ∷ earlier)) arrival.moment
newest_member source arrival earlier is =
    subst (λ (ms : List ℕ). Contains ms arrival.moment) (sym (arrives_now source arrival earlier is)) (0, omega arith, refl)

other_member : (source moment : ℕ) (arrival : Arrival) (earlier : List Event) → (arrival.source == source) ≡ false
    → Contains (arrivals_of source earlier) moment → Contains (arrivals_of source (Arrive arrival ∷ earlier)) moment
other_member source moment arrival earlier is has =
    subst (λ (ms : List ℕ). Contains ms moment) (sym (arrives_not source arrival earlier is)) has

-- ---- What waits

abbrev one : Bool → ℕ
one flag = cond flag 1 0

-- nothing waits of what isn't pending
none_pending : (source : ℕ) (events : List Event) → waits source events ≡ false → pending_since source events ≡ None
none_pending source [] none = refl
none_pending source (Arrive arrival ∷ earlier) none = arriving (arrival.source == source) none (none_pending source earlier)
  where
    arriving : (here : Bool) → cond here true (waits source earlier) ≡ false → (waits source earlier ≡ false → pending_since source earlier ≡ None)
        → cond here (Some (unwrap_or (pending_since source earlier) arrival.moment)) (pending_since source earlier) ≡ None
    arriving true wrong before = absurd cc
    arriving false none before = before none
none_pending source (Take taking ∷ earlier) none = taken (taking.source == source) none (none_pending source earlier)
  where
    taken : (here : Bool) → cond here false (waits source earlier) ≡ false → (waits source earlier ≡ false → pending_since source earlier ≡ None)
        → cond here None (pending_since source earlier) ≡ None
    taken true none before = refl
    taken false none before = before none
none_pending source (Execute execution ∷ earlier) none = none_pending source earlier none
none_pending source (Serve call ∷ earlier) none = none_pending source earlier none
none_pending source (Idle cycles ∷ earlier) none = none_pending source earlier none

-- what waits is pending since the moment of an arrival
record IsPendingSince (source : ℕ) (events : List Event) : Type 0 where
  moment : ℕ
  since : pending_since source events ≡ Some moment
  arrived : Contains (arrivals_of source events) moment
  past : moment ≤ duration events

longer : (source : ℕ) (event : Event) (earlier : List Event) → pending_since source (event ∷ earlier) ≡ pending_since source earlier
    → ((moment : ℕ) → Contains (arrivals_of source earlier) moment → Contains (arrivals_of source (event ∷ earlier)) moment)
    → IsPendingSince source earlier → IsPendingSince source (event ∷ earlier)
longer source event earlier same more is = record {
  moment = is.moment;
  since = same ∙ is.since;
  arrived = more is.moment is.arrived;
  past = (let past = is.past in omega arith);
}

arrival_since : (source : ℕ) (arrival : Arrival) (earlier : List Event) (here waited : Bool) → (arrival.source == source) ≡ here
    → waits source earlier ≡ waited → arrival.moment ≤ duration earlier → (waits source earlier ≡ true → IsPendingSince source earlier)
    → waits source (Arrive arrival ∷ earlier) ≡ true → IsPendingSince source (Arrive arrival ∷ earlier)
arrival_since source arrival earlier true true here waited past before waiting =
    let is = before waited in
    record {
      moment = is.moment;
      since = rw (here, is.since) refl;
      arrived = now_member source is.moment arrival earlier here is.arrived;
      past = (let was = is.past in omega arith);
    }
arrival_since source arrival earlier true false here waited past before waiting = record {
  moment = arrival.moment;
  since = rw (here, none_pending source earlier waited) refl;
  arrived = newest_member source arrival earlier here;
  past = omega arith;
}
arrival_since source arrival earlier false waited here waits_so past before waiting =
    longer source (Arrive arrival) earlier (rw here refl) (λ moment has. other_member source moment arrival earlier here has)
    (before (sym (ap (λ b. cond b true (waits source earlier)) here) ∙ waiting))

taking_since : (source : ℕ) (taking : Taking) (earlier : List Event) (here : Bool) → (taking.source == source) ≡ here
    → (waits source earlier ≡ true → IsPendingSince source earlier) → waits source (Take taking ∷ earlier) ≡ true
    → IsPendingSince source (Take taking ∷ earlier)
taking_since source taking earlier true here before waiting =
    absurd (let wrong : false ≡ true = sym (ap (λ b. cond b false (waits source earlier)) here) ∙ waiting in cc)
taking_since source taking earlier false here before waiting =
    longer source (Take taking) earlier (rw here refl) (λ moment has. has)
    (before (sym (ap (λ b. cond b false (waits source earlier)) here) ∙ waiting))

since_arrival : (image : ImageData) (system : System) (timing : Timing) (promises : Promises) (mode source : ℕ) (events : List Event) (state : MachineState)
    → KeepsPromises image system timing promises mode events state → waits source events ≡ true → IsPendingSince source events
since_arrival image system timing promises mode source [] state keeps waiting = absurd cc
since_arrival image system timing promises mode source (Arrive arrival ∷ earlier) state keeps waiting =
    let before = before_it image system timing promises mode (Arrive arrival) earlier state keeps in
    let step : Arrives system arrival keeps.run.0 state = keeps.run.2 in
    let now = (in_calendar image system mode earlier keeps.run.0 keeps.run.1).now in
    let past = step.past in
    arrival_since source arrival earlier (arrival.source == source) (waits source earlier) refl refl (omega arith)
    (since_arrival image system timing promises mode source earlier keeps.run.0 before) waiting
since_arrival image system timing promises mode source (Take taking ∷ earlier) state keeps waiting =
    taking_since source taking earlier (taking.source == source) refl
    (since_arrival image system timing promises mode source earlier keeps.run.0
    (before_it image system timing promises mode (Take taking) earlier state keeps)) waiting
since_arrival image system timing promises mode source (Execute execution ∷ earlier) state keeps waiting =
    longer source (Execute execution) earlier refl (λ moment has. has)
    (since_arrival image system timing promises mode source earlier keeps.run.0
    (before_it image system timing promises mode (Execute execution) earlier state keeps) waiting)
since_arrival image system timing promises mode source (Serve call ∷ earlier) state keeps waiting =
    longer source (Serve call) earlier refl (λ moment has. has)
    (since_arrival image system timing promises mode source earlier keeps.run.0
    (before_it image system timing promises mode (Serve call) earlier state keeps) waiting)
since_arrival image system timing promises mode source (Idle cycles ∷ earlier) state keeps waiting =
    longer source (Idle cycles) earlier refl (λ moment has. has)
    (since_arrival image system timing promises mode source earlier keeps.run.0
    (before_it image system timing promises mode (Idle cycles) earlier state keeps) waiting)

-- ---- By how much the first arrival that counts may lie back

-- so many takings don't count, and so much may what counts lie before the moment
data IsSlack (system : System) (promises : Promises) (source since : ℕ) : ℕ → ℕ → Type 0 where
  promised : (latency : ℕ) → latency_of system promises (source_at system source) ≡ Some latency → IsSlack system promises source since 1 latency
  unpromised : IsSlack system promises source since 2 0
  at_start : since ≡ 0 → IsSlack system promises source since 1 0

-- an arrival that makes the source pending
reaches : (system : System) (promises : Promises) (source since spare wait count : ℕ) (arrival : Arrival) (events : List Event)
    → IsSlack system promises source since spare wait → since ≤ duration events → (1 ≤ count → since ≤ begun_at events)
    → (arrival.source == source) ≡ true → waits source events ≡ false → begun_at events ≤ arrival.moment
    → WaitsWithin system promises (Arrive arrival ∷ events) → spare ≤ count + 1 → since ≤ arrival.moment + wait
reaches system promises source since spare wait count arrival events (promised latency is) after begun here fresh begins waits_within many =
    let within = waits_within source latency arrival.moment is (rw (here, none_pending source events fresh) refl) in
    omega arith
reaches system promises source since spare wait count arrival events unpromised after begun here fresh begins waits_within many =
    let began = begun (omega arith) in omega arith
reaches system promises source since spare wait count arrival events (at_start is) after begun here fresh begins waits_within many = omega arith

-- ---- Arrivals back to a moment

-- It has arrived so many distances after the moment, but for the wait, and not later than now; where it doesn't wait, not
-- later than the last step that takes time began.
record HasArrived (distance wait source : ℕ) (events : List Event) (since later : ℕ) : Type 0 where
  moment : ℕ
  arrived : Contains (arrivals_of source events) moment
  apart : since + distance * later ≤ moment + wait
  past : moment ≤ duration events
  before_last : waits source events ≡ false → moment ≤ begun_at events

record AreApart (distance wait spare source count : ℕ) (events : List Event) (since : ℕ) : Type 0 where
  after : since ≤ duration events
  begun : 1 ≤ count → since ≤ begun_at events
  last : (later : ℕ) → later + spare ≤ count + one (waits source events) → HasArrived distance wait source events since later

-- a step that takes time
timed : (distance wait spare source count new : ℕ) (event : Event) (earlier : List Event) (since : ℕ)
    → begun_at (event ∷ earlier) ≡ duration earlier → arrivals_of source (event ∷ earlier) ≡ arrivals_of source earlier
    → new + one (waits source (event ∷ earlier)) ≤ count + one (waits source earlier)
    → AreApart distance wait spare source count earlier since → AreApart distance wait spare source new (event ∷ earlier) since
timed distance wait spare source count new event earlier since began same counts are = record {
  after = (let after = are.after in omega arith);
  begun = λ some. (let after = are.after in omega arith);
  last = λ later many.
      let has = are.last later (omega arith) in
      record {
        moment = has.moment;
        arrived = subst (λ (ms : List ℕ). Contains ms has.moment) (sym same) has.arrived;
        apart = has.apart;
        past = (let past = has.past in omega arith);
        before_last = λ none. (let past = has.past in omega arith);
      };
}

-- another source arrives
other_arrives : (distance wait spare source count : ℕ) (arrival : Arrival) (earlier : List Event) (since : ℕ) → (arrival.source == source) ≡ false
    → AreApart distance wait spare source count earlier since → AreApart distance wait spare source count (Arrive arrival ∷ earlier) since
other_arrives distance wait spare source count arrival earlier since other are = record {
  after = (let after = are.after in omega arith);
  begun = are.begun;
  last = λ later many.
      let waiting : waits source (Arrive arrival ∷ earlier) ≡ waits source earlier = rw other refl in
      let same = ap one waiting in
      let has = are.last later (omega arith) in
      record {
        moment = has.moment;
        arrived = other_member source has.moment arrival earlier other has.arrived;
        apart = has.apart;
        past = (let past = has.past in omega arith);
        before_last = λ none. has.before_last (sym waiting ∙ none);
      };
}

-- it arrives and waits already: nothing counts anew
waiting_arrives : (distance wait spare source count : ℕ) (arrival : Arrival) (earlier : List Event) (since : ℕ) → (arrival.source == source) ≡ true
    → waits source earlier ≡ true → AreApart distance wait spare source count earlier since
    → AreApart distance wait spare source count (Arrive arrival ∷ earlier) since
waiting_arrives distance wait spare source count arrival earlier since here waited are =
    let waits_now : waits source (Arrive arrival ∷ earlier) ≡ true = rw here refl in
    record {
      after = (let after = are.after in omega arith);
      begun = are.begun;
      last = λ later many.
          let now = ap one waits_now in
          let was = ap one waited in
          let has = are.last later (omega arith) in
          record {
            moment = has.moment;
            arrived = now_member source has.moment arrival earlier here has.arrived;
            apart = has.apart;
            past = (let past = has.past in omega arith);
            before_last = λ none. absurd (let wrong : true ≡ false = sym waits_now ∙ none in cc);
          };
    }

-- it arrives a distance after the last time
new_arrival : (distance wait spare source count : ℕ) (arrival : Arrival) (earlier : List Event) (since : ℕ) → begun_at earlier ≤ arrival.moment
    → AllByRecursion (λ other. distance ≤ gap arrival.moment other) (arrivals_of source earlier)
    → waits source earlier ≡ false → (spare ≤ count + 1 → since ≤ arrival.moment + wait)
    → AreApart distance wait spare source count earlier since
    → (later : ℕ) → later + spare ≤ count + 1 → since + distance * later ≤ arrival.moment + wait
new_arrival distance wait spare source count arrival earlier since begins apart_all fresh reach are zero many = let first = reach (omega arith) in omega arith
new_arrival distance wait spare source count arrival earlier since begins apart_all fresh reach are (suc later) many =
    let none = ap one fresh in
    let has = are.last later (omega arith) in
    let before = has.before_last fresh in
    let far : distance ≤ gap arrival.moment has.moment =
    All-contains (λ other. distance ≤ gap arrival.moment other) (arrivals_of source earlier) has.moment
    (All-from_recursion (λ other. distance ≤ gap arrival.moment other) (arrivals_of source earlier) apart_all) has.arrived in
    let more = mul-suc distance later in
    let enough = has.apart in
    omega arith

fresh_arrives : (distance wait spare source count : ℕ) (arrival : Arrival) (earlier : List Event) (since : ℕ) → (arrival.source == source) ≡ true
    → waits source earlier ≡ false → begun_at earlier ≤ arrival.moment → arrival.moment ≤ duration earlier
    → AllByRecursion (λ other. distance ≤ gap arrival.moment other) (arrivals_of source earlier)
    → (spare ≤ count + 1 → since ≤ arrival.moment + wait)
    → AreApart distance wait spare source count earlier since → AreApart distance wait spare source count (Arrive arrival ∷ earlier) since
fresh_arrives distance wait spare source count arrival earlier since here fresh begins past apart_all reach are =
    let waits_now : waits source (Arrive arrival ∷ earlier) ≡ true = rw here refl in
    record {
      after = (let after = are.after in omega arith);
      begun = are.begun;
      last = λ later many.
          let now = ap one waits_now in
          record {
            moment = arrival.moment;
            arrived = newest_member source arrival earlier here;
            apart = new_arrival distance wait spare source count arrival earlier since begins apart_all fresh reach are later (omega arith);
            past = omega arith;
            before_last = λ none. absurd (let wrong : true ≡ false = sym waits_now ∙ none in cc);
          };
    }

-- ---- Back from each state of a run

taking_counts : (here waiting : Bool) → (here ≡ true → waiting ≡ true) → one here + one (cond here false waiting) ≤ one waiting
taking_counts true waiting waited = rw (waited refl) (omega arith)
taking_counts false waiting waited = omega arith

-- what is taken waited
taken_waits : (image : ImageData) (system : System) (mode source : ℕ) (taking : Taking) (earlier : List Event) (before after : MachineState)
    → IsRun image system mode earlier before → Takes image system taking before after → (taking.source == source) ≡ true → waits source earlier ≡ true
taken_waits image system mode source taking earlier before after run step here =
    (in_calendar image system mode earlier before run).pending source
    (subst (λ (n : ℕ). is_pending before n ≡ true) (eqb-true taking.source source here) step.pending)

positive : (system : System) (promises : Promises) (source since spare wait : ℕ) → IsSlack system promises source since spare wait → 1 ≤ spare
positive system promises source since spare wait (promised latency is) = omega arith
positive system promises source since spare wait unpromised = omega arith
positive system promises source since spare wait (at_start is) = omega arith

-- latencies are kept in the state after the steps, where something waits there
within : (system : System) (promises : Promises) (source : ℕ) (events : List Event) → IsPromised system promises events → waits source events ≡ true
    → WaitsWithin system promises events
within system promises source [] keeps waiting = absurd cc
within system promises source (event ∷ earlier) keeps waiting = keeps.0

opened : (system : System) (promises : Promises) (source distance since spare wait later moment : ℕ) (events : List Event)
    → IsSlack system promises source since spare wait → later + spare ≤ 1 → since ≡ duration events → WaitsWithin system promises events
    → pending_since source events ≡ Some moment → since + distance * later ≤ moment + wait
opened system promises source distance since spare wait zero moment events (promised latency is) few now waits_within pending =
    let waited = waits_within source latency moment is pending in omega arith
opened system promises source distance since spare wait zero moment events unpromised few now waits_within pending = absurd (omega arith)
opened system promises source distance since spare wait zero moment events (at_start is) few now waits_within pending = omega arith
opened system promises source distance since spare wait (suc later) moment events slack few now waits_within pending =
    absurd (let one_at_least = positive system promises source since spare wait slack in omega arith)

-- at the moment itself
here_apart : (image : ImageData) (system : System) (timing : Timing) (promises : Promises) (mode source spare wait : ℕ) (events : List Event)
    (state : MachineState) → IsSlack system promises source (duration events) spare wait
    → KeepsPromises image system timing promises mode events state → (waiting : Bool) → waits source events ≡ waiting
    → (later : ℕ) → later + spare ≤ one (waits source events)
    → HasArrived (distance_of system timing (source_at system source)) wait source events (duration events) later
here_apart image system timing promises mode source spare wait events state slack keeps true waiting later many =
    let since = since_arrival image system timing promises mode source events state keeps waiting in
    let now = ap one waiting in
    record {
      moment = since.moment;
      arrived = since.arrived;
      apart = opened system promises source (distance_of system timing (source_at system source)) (duration events) spare wait later since.moment events slack
          (omega arith) refl (within system promises source events keeps.promised waiting) since.since;
      past = since.past;
      before_last = λ none. absurd (let wrong : true ≡ false = sym waiting ∙ none in cc);
    }
here_apart image system timing promises mode source spare wait events state slack keeps false waiting later many =
    absurd (let none = ap one waiting in let some = positive system promises source (duration events) spare wait slack in omega arith)

arrives_back : (image : ImageData) (system : System) (timing : Timing) (promises : Promises) (mode source spare wait count since : ℕ) (arrival : Arrival)
    (earlier : List Event) (state : MachineState) → IsSlack system promises source since spare wait
    → (keeps : KeepsPromises image system timing promises mode (Arrive arrival ∷ earlier) state)
    → AreApart (distance_of system timing (source_at system source)) wait spare source count earlier since
    → (here waiting : Bool) → (arrival.source == source) ≡ here → waits source earlier ≡ waiting
    → AreApart (distance_of system timing (source_at system source)) wait spare source count (Arrive arrival ∷ earlier) since
arrives_back image system timing promises mode source spare wait count since arrival earlier state slack keeps are false waiting here waits_so =
    other_arrives _ wait spare source count arrival earlier since here are
arrives_back image system timing promises mode source spare wait count since arrival earlier state slack keeps are true true here waits_so =
    waiting_arrives _ wait spare source count arrival earlier since here waits_so are
arrives_back image system timing promises mode source spare wait count since arrival earlier state slack keeps are true false here waits_so =
    let step : Arrives system arrival keeps.run.0 state = keeps.run.2 in
    let calendar = in_calendar image system mode earlier keeps.run.0 keeps.run.1 in
    let in_time : IsInTime system timing arrival.source arrival.moment (arrivals_of arrival.source earlier) = keeps.arrivals.0 in
    let far = subst (λ (n : ℕ). AllByRecursion (λ other. distance_of system timing (source_at system n) ≤ gap arrival.moment other)
    (arrivals_of n earlier)) (eqb-true arrival.source source here) in_time.apart in
    let begins : begun_at earlier ≤ arrival.moment = let last = calendar.last in let begun = step.begun in omega arith in
    let past : arrival.moment ≤ duration earlier = let now = calendar.now in let before = step.past in omega arith in
    fresh_arrives (distance_of system timing (source_at system source)) wait spare source count arrival earlier since here waits_so begins past far
    (reaches system promises source since spare wait count arrival earlier slack are.after are.begun here waits_so begins keeps.promised.0) are

back : (image : ImageData) (system : System) (timing : Timing) (promises : Promises) (mode source spare wait : ℕ) (recent earlier : List Event)
    (state : MachineState) → IsSlack system promises source (duration earlier) spare wait
    → KeepsPromises image system timing promises mode (recent ++ earlier) state
    → AreApart (distance_of system timing (source_at system source)) wait spare source (takings source recent) (recent ++ earlier) (duration earlier)
back image system timing promises mode source spare wait [] earlier state slack keeps = record {
  after = omega arith;
  begun = λ some. absurd (omega arith);
  last = λ later many.
      here_apart image system timing promises mode source spare wait earlier state slack keeps (waits source earlier) refl later (omega arith);
}
back image system timing promises mode source spare wait (Arrive arrival ∷ recent) earlier state slack keeps =
    arrives_back image system timing promises mode source spare wait (takings source recent) (duration earlier) arrival (recent ++ earlier) state slack keeps
    (back image system timing promises mode source spare wait recent earlier keeps.run.0 slack
    (before_it image system timing promises mode (Arrive arrival) (recent ++ earlier) state keeps))
    (arrival.source == source) (waits source (recent ++ earlier)) refl refl
back image system timing promises mode source spare wait (Take taking ∷ recent) earlier state slack keeps =
    let counts = taking_counts (taking.source == source) (waits source (recent ++ earlier))
    (taken_waits image system mode source taking (recent ++ earlier) keeps.run.0 state keeps.run.1 keeps.run.2) in
    timed (distance_of system timing (source_at system source)) wait spare source (takings source recent) (takings source (Take taking ∷ recent))
    (Take taking) (recent ++ earlier) (duration earlier) refl refl (omega arith)
    (back image system timing promises mode source spare wait recent earlier keeps.run.0 slack
    (before_it image system timing promises mode (Take taking) (recent ++ earlier) state keeps))
back image system timing promises mode source spare wait (Execute execution ∷ recent) earlier state slack keeps =
    timed (distance_of system timing (source_at system source)) wait spare source (takings source recent) (takings source recent)
    (Execute execution) (recent ++ earlier) (duration earlier) refl refl (omega arith)
    (back image system timing promises mode source spare wait recent earlier keeps.run.0 slack
    (before_it image system timing promises mode (Execute execution) (recent ++ earlier) state keeps))
back image system timing promises mode source spare wait (Serve call ∷ recent) earlier state slack keeps =
    timed (distance_of system timing (source_at system source)) wait spare source (takings source recent) (takings source recent)
    (Serve call) (recent ++ earlier) (duration earlier) refl refl (omega arith)
    (back image system timing promises mode source spare wait recent earlier keeps.run.0 slack
    (before_it image system timing promises mode (Serve call) (recent ++ earlier) state keeps))
back image system timing promises mode source spare wait (Idle cycles ∷ recent) earlier state slack keeps =
    timed (distance_of system timing (source_at system source)) wait spare source (takings source recent) (takings source recent)
    (Idle cycles) (recent ++ earlier) (duration earlier) refl refl (omega arith)
    (back image system timing promises mode source spare wait recent earlier keeps.run.0 slack
    (before_it image system timing promises mode (Idle cycles) (recent ++ earlier) state keeps))

-- ---- The laws

-- the source that is taken now, as often as it was taken before
now_apart : (image : ImageData) (system : System) (timing : Timing) (promises : Promises) (mode : ℕ) (taking : Taking) (recent earlier : List Event)
    (state : MachineState) (spare wait later : ℕ) → IsSlack system promises taking.source (duration earlier) spare wait
    → KeepsPromises image system timing promises mode (Take taking ∷ recent ++ earlier) state → later + spare ≤ takings taking.source recent + 1
    → duration earlier + distance_of system timing (source_at system taking.source) * later ≤ duration (recent ++ earlier) + wait
now_apart image system timing promises mode taking recent earlier state spare wait later slack keeps many =
    let before = before_it image system timing promises mode (Take taking) (recent ++ earlier) state keeps in
    let are = back image system timing promises mode taking.source spare wait recent earlier keeps.run.0 slack before in
    let step : Takes image system taking keeps.run.0 state = keeps.run.2 in
    let waiting = ap one ((in_calendar image system mode (recent ++ earlier) keeps.run.0 keeps.run.1).pending taking.source step.pending) in
    let has = are.last later (omega arith) in
    let enough = has.apart in
    let past = has.past in
    omega arith

unpromised_apart : (image : ImageData) (system : System) (timing : Timing) (promises : Promises) (mode : ℕ) (taking : Taking) (recent earlier : List Event)
    (state : MachineState) → KeepsPromises image system timing promises mode (Take taking ∷ recent ++ earlier) state
    → duration earlier + distance_of system timing (source_at system taking.source) * takings taking.source recent
    ≤ duration (recent ++ earlier) + distance_of system timing (source_at system taking.source)
unpromised_apart image system timing promises mode taking recent earlier state keeps = counted (takings taking.source recent) refl
  where
    counted : (count : ℕ) → takings taking.source recent ≡ count
        → duration earlier + distance_of system timing (source_at system taking.source) * count
        ≤ duration (recent ++ earlier) + distance_of system timing (source_at system taking.source)
    counted zero is =
        let after = (back image system timing promises mode taking.source 2 0 recent earlier keeps.run.0 unpromised
        (before_it image system timing promises mode (Take taking) (recent ++ earlier) state keeps)).after in
        omega arith
    counted (suc count) is =
        let apart = now_apart image system timing promises mode taking recent earlier state 2 0 count unpromised keeps (omega arith) in
        let more = mul-suc (distance_of system timing (source_at system taking.source)) count in
        omega arith

pub takings_lie_apart : TakingsLieApart
takings_lie_apart image system timing promises mode taking recent earlier state keeps =
    choose (latency_of system promises (source_at system taking.source)) refl
  where
    chosen : (latency : ℕ) → latency_of system promises (source_at system taking.source) ≡ Some latency → (less : Bool)
        → duration earlier + distance_of system timing (source_at system taking.source) * takings taking.source recent
        ≤ duration (recent ++ earlier) + cond less latency (distance_of system timing (source_at system taking.source))
    chosen latency is true = now_apart image system timing promises mode taking recent earlier state 1 latency (takings taking.source recent)
        (promised latency is) keeps (omega arith)
    chosen latency is false = unpromised_apart image system timing promises mode taking recent earlier state keeps

    choose : (latency : Option ℕ) → latency_of system promises (source_at system taking.source) ≡ latency
        → duration earlier + distance_of system timing (source_at system taking.source) * takings taking.source recent
        ≤ duration (recent ++ earlier) + lesser (distance_of system timing (source_at system taking.source)) latency
    choose None is = unpromised_apart image system timing promises mode taking recent earlier state keeps
    choose (Some latency) is = chosen latency is (nat_lt latency (distance_of system timing (source_at system taking.source)))

pub first_takings_lie_apart : FirstTakingsLieApart
first_takings_lie_apart image system timing promises mode taking recent state keeps =
    let whole : recent ++ [] ≡ recent = append-nil recent in
    let apart = now_apart image system timing promises mode taking recent [] state 1 0 (takings taking.source recent) (at_start refl)
    (subst (λ (events : List Event). KeepsPromises image system timing promises mode (Take taking ∷ events) state) (sym whole) keeps) (omega arith) in
    let same = ap duration whole in
    omega arith

-- one taking more at the end of the steps
takes_last : (source : ℕ) (before : Taking) (recent : List Event) → before.source ≡ source
    → takings source (recent ++ Take before ∷ []) ≡ takings source recent + 1
takes_last source before [] is = let here = ap one (eq-eqb before.source source is) in omega arith
takes_last source before (Take taking ∷ recent) is = let more = takes_last source before recent is in omega arith
takes_last source before (Arrive arrival ∷ recent) is = takes_last source before recent is
takes_last source before (Execute execution ∷ recent) is = takes_last source before recent is
takes_last source before (Serve call ∷ recent) is = takes_last source before recent is
takes_last source before (Idle cycles ∷ recent) is = takes_last source before recent is

pub takings_follow : TakingsFollow
takings_follow image system timing promises mode taking before recent earlier state keeps is =
    let whole : (recent ++ Take before ∷ []) ++ earlier ≡ recent ++ Take before ∷ earlier = append_assoc recent (Take before ∷ []) earlier in
    let apart = takings_lie_apart image system timing promises mode taking (recent ++ Take before ∷ []) earlier state
    (subst (λ (events : List Event). KeepsPromises image system timing promises mode (Take taking ∷ events) state) (sym whole) keeps) in
    let same = ap duration whole in
    let more = ap (λ n. distance_of system timing (source_at system taking.source) * n) (takes_last taking.source before recent is) in
    omega arith
