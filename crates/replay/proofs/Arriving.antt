-- Arrivals that are made in their order: the newest one of a source stands for all.
use Rattle.std.proofs.Common.{◌≡◌, inl, inr, ℕ, zero, suc, ◌+◌, ◌<◌, ◌≤◌, Bool, true, false, List, [], ◌∷◌, length, Option, Some, None, refl, sym, ◌∙◌, ap, subst, arith}
use Rattle.std.specs.Prelude.{nat_le, not, slice_get, slice_index_or, slice_set}
use Rattle.std.specs.List.{AllByRecursion}
use Rattle.std.proofs.lemmas.Bool.{and_parts, leb-true, le-leb, eq-eqb, ne_eqb, cases_eq, not-true, true≢false}
use Rattle.std.proofs.lemmas.List.{length-set, get_or-set_same, get_or-set_other}
use Rattle.std.proofs.lemmas.Option.{same_Some, none-some, slice_get_within}
use Rattle.oil_model.specs.declared.system.System.{System}
use Rattle.timing_file.specs.declared.timing.Timing.{Timing}
use Rattle.osek_kernel.specs.Sources.{source_at, source_count, is_one_shot}
use Rattle.osek_machine.specs.Events as events
use Rattle.osek_machine.specs.Events.{Event, Arrive}
use Rattle.osek_machine.specs.Declarations.{arrivals_of, distance_of, gap, IsInTime}
use Rattle.replay.specs.declared.schedule.Arrival.{Arrival}
use Rattle.replay.specs.declared.schedule.Schedule.{Schedule}
use Rattle.replay.specs.Lawful.{AreFrom}
use Rattle.replay.specs.Playing.{arrivals_made}
use Rattle.replay.specs.Working.Arrivals.{in_time}
use Rattle.replay.specs.Working.Follows.{Descend, KnowsArrivals}

-- ---- Moments that descend

raised : (low high : ℕ) (ms : List ℕ) → low ≤ high → Descend low ms → Descend high ms
raised low high [] le d = tt
raised low high (m ∷ ms) le d = let h = d.0 in (omega arith, d.1)

gap_more : (moment high low : ℕ) → high ≤ moment → low ≤ high → gap moment high ≤ gap moment low
gap_more moment high low a b = omega arith

all_apart : (distance moment high : ℕ) (ms : List ℕ) → high ≤ moment → Descend high ms → distance ≤ gap moment high
    → AllByRecursion (λ other. distance ≤ gap moment other) ms
all_apart distance moment high [] le d far = tt
all_apart distance moment high (m ∷ ms) le d far =
    let h = d.0 in let more = gap_more moment high m le h in let here : distance ≤ gap moment m = omega arith in
    (here, all_apart distance moment m ms (omega arith) d.1 here)

-- ---- Whether an arrival is in time

pub in_time-true : (system : System) (timing : Timing) (source moment : ℕ) (others : List ℕ) → Descend moment others
    → in_time (is_one_shot system (source_at system source)) (distance_of system timing (source_at system source)) moment (slice_get others 0) ≡ true
    → IsInTime system timing source moment others
in_time-true system timing source moment [] d is = record { apart = tt; once = λ shot. refl }
in_time-true system timing source moment (m ∷ ms) d is =
    let tests = and_parts (not (is_one_shot system (source_at system source))) (nat_le (distance_of system timing (source_at system source)) (gap moment m)) is in
    let le = d.0 in
    let far : distance_of system timing (source_at system source) ≤ gap moment m = leb-true (distance_of system timing (source_at system source)) (gap moment m) tests.1 in
    record {
      apart = (far, all_apart (distance_of system timing (source_at system source)) moment m ms le d.1 far);
      once = λ shot. absurd (true≢false (sym shot ∙ not-true (is_one_shot system (source_at system source)) tests.0));
    }

in_time-here : (system : System) (timing : Timing) (source moment m : ℕ) (ms : List ℕ) (shot : Bool) → is_one_shot system (source_at system source) ≡ shot
    → in_time shot (distance_of system timing (source_at system source)) moment (Some m) ≡ false → IsInTime system timing source moment (m ∷ ms) → ⊥
in_time-here system timing source moment m ms true one is time = let none = time.once one in cc
in_time-here system timing source moment m ms false one is time =
    let far = time.apart.0 in
    true≢false (sym (le-leb (distance_of system timing (source_at system source)) (gap moment m) far) ∙ is)

pub in_time-false : (system : System) (timing : Timing) (source moment : ℕ) (others : List ℕ)
    → in_time (is_one_shot system (source_at system source)) (distance_of system timing (source_at system source)) moment (slice_get others 0) ≡ false
    → IsInTime system timing source moment others → ⊥
in_time-false system timing source moment [] is time = cc
in_time-false system timing source moment (m ∷ ms) is time =
    in_time-here system timing source moment m ms (is_one_shot system (source_at system source)) refl is time

-- ---- Listed arrivals are in order

listed_order : (low : ℕ) (listed : List Arrival) (i : ℕ) (a b : Arrival) → AreFrom low listed → slice_get listed i ≡ Some a → slice_get listed (suc i) ≡ Some b → a.at ≤ b.at
listed_order low [] i a b from one two = absurd (none-some a one)
listed_order low (x ∷ []) zero a b from one two = absurd (none-some b two)
listed_order low (x ∷ y ∷ listed) zero a b from one two =
    let first : x ≡ a = same_Some x a one in let second : y ≡ b = same_Some y b two in
    let le = from.1.0 in subst (λ (c : Arrival). c.at ≤ b.at) first (subst (λ (c : Arrival). x.at ≤ c.at) second le)
listed_order low (x ∷ listed) (suc i) a b from one two = listed_order x.at listed i a b from.1 one two

-- ---- One more arrival

abbrev with : events.Arrival → List Event → List Event
with a made = Arrive a ∷ made

arrivals_same : (a : events.Arrival) (source : ℕ) (made : List Event) → a.source ≡ source → arrivals_of source (with a made) ≡ a.moment ∷ arrivals_of source made
arrivals_same a source made is = rw (eq-eqb a.source source is) refl

arrivals_other : (a : events.Arrival) (source : ℕ) (made : List Event) → (a.source ≡ source → ⊥) → arrivals_of source (with a made) ≡ arrivals_of source made
arrivals_other a source made other = rw (ne_eqb a.source source other) refl

descends : (a : events.Arrival) (high source : ℕ) (made : List Event) → a.moment ≤ high → Descend a.moment (arrivals_of source made)
    → Descend high (arrivals_of source (with a made))
descends a high source made le d = elim (cases_eq a.source source) [
  | inl is ↦ subst (Descend high) (sym (arrivals_same a source made is)) (le, d)
  | inr other ↦ subst (Descend high) (sym (arrivals_other a source made other)) (raised a.moment high (arrivals_of source made) le d)
]

newest_then : (a : events.Arrival) (source : ℕ) (made : List Event) (newest : List (Option ℕ)) → source < length newest
    → slice_index_or newest source None ≡ slice_get (arrivals_of source made) 0
    → slice_index_or (slice_set newest a.source (Some a.moment)) source None ≡ slice_get (arrivals_of source (with a made)) 0
newest_then a source made newest within was = elim (cases_eq a.source source) [
  | inl is ↦ ap (λ (i : ℕ). slice_index_or (slice_set newest i (Some a.moment)) source None) is
      ∙ (get_or-set_same newest source (Some a.moment) None within ∙ sym (ap (λ (ms : List ℕ). slice_get ms 0) (arrivals_same a source made is)))
  | inr other ↦ get_or-set_other newest a.source source (Some a.moment) None (λ e. other (sym e))
      ∙ (was ∙ sym (ap (λ (ms : List ℕ). slice_get ms 0) (arrivals_other a source made other)))
]

pub knows_arrival : (system : System) (schedule : Schedule) (made : List Event) (last_start arrivals : ℕ) (newest newest' : List (Option ℕ))
    (a : events.Arrival) (listed : Arrival) → AreFrom 0 schedule.arrivals → slice_get schedule.arrivals arrivals ≡ Some listed → a.moment ≡ listed.at
    → newest' ≡ slice_set newest a.source (Some a.moment) → KnowsArrivals system schedule made last_start arrivals newest
    → KnowsArrivals system schedule (Arrive a ∷ made) last_start (arrivals + 1) newest'
knows_arrival system schedule made last_start arrivals newest newest' a listed from here same is knows =
    let now = knows.later listed here in
    let count : length newest ≡ source_count system = knows.count in
    record {
      made = ap (λ n. n + 1) knows.made;
      few = (let within = slice_get_within schedule.arrivals arrivals listed here in omega arith);
      later = λ b there. (
          let next : slice_get schedule.arrivals (suc arrivals) ≡ Some b = rw add_one at there in
          let le : listed.at ≤ b.at = listed_order 0 schedule.arrivals arrivals listed b from here next in
          let low : a.moment ≤ b.at = omega arith in
          record {
            begun = (let begun = now.begun in omega arith);
            descend = λ source. descends a b.at source made low (subst (λ m. Descend m (arrivals_of source made)) (sym same) (now.descend source));
          });
      count = ap length is ∙ (length-set newest a.source (Some a.moment) ∙ count);
      each = λ source within. ap (λ (xs : List (Option ℕ)). slice_index_or xs source None) is
          ∙ newest_then a source made newest (omega arith) (knows.each source within);
    }
  where
    add_one : (n : ℕ) → n + 1 ≡ suc n
    add_one n = omega arith

-- ---- A step that is no arrival

pub knows_step : (system : System) (schedule : Schedule) (event : Event) (made : List Event) (last_start last_start' arrivals arrivals' : ℕ) (newest newest' : List (Option ℕ))
    → arrivals_made (event ∷ made) ≡ arrivals_made made → ((source : ℕ) → arrivals_of source (event ∷ made) ≡ arrivals_of source made)
    → ((a : Arrival) → slice_get schedule.arrivals arrivals ≡ Some a → last_start' ≤ a.at) → arrivals' ≡ arrivals → newest' ≡ newest
    → KnowsArrivals system schedule made last_start arrivals newest → KnowsArrivals system schedule (event ∷ made) last_start' arrivals' newest'
knows_step system schedule event made last_start last_start' arrivals arrivals' newest newest' none same begun stay stays knows =
    subst (λ n. KnowsArrivals system schedule (event ∷ made) last_start' n newest') (sym stay)
    (subst (λ (xs : List (Option ℕ)). KnowsArrivals system schedule (event ∷ made) last_start' arrivals xs) (sym stays) (record {
      made = knows.made ∙ sym none;
      few = knows.few;
      later = λ a here. record {
        begun = begun a here;
        descend = λ source. subst (Descend a.at) (sym (same source)) ((knows.later a here).descend source);
      };
      count = knows.count;
      each = λ source within. knows.each source within ∙ ap (λ (ms : List ℕ). slice_get ms 0) (sym (same source));
    }))

-- ---- The start

pub knows_none : (system : System) (schedule : Schedule) (newest : List (Option ℕ)) → length newest ≡ source_count system
    → ((source : ℕ) → slice_index_or newest source None ≡ None) → KnowsArrivals system schedule [] 0 0 newest
knows_none system schedule newest count none = record {
  made = refl;
  few = omega arith;
  later = λ a here. record { begun = omega arith; descend = λ source. tt };
  count = count;
  each = λ source within. none source;
}
