-- A schedule that is read is lawful.
use Rattle.std.proofs.Common.{◌≡◌, ℕ, ◌<◌, ◌≤◌, Bool, true, false, cond, List, [], ◌∷◌, length, Option, Some, None, Ok, Err, refl, sym, ap, ◌∙◌, subst, arith}
use Rattle.std.specs.Prelude.{◌&&◌, suc, IfOk, bytes_eq, codes, nat_le, ok_or, option_and_then}
use Rattle.std.specs.List.{AllByRecursion}
use Rattle.std.specs.Option.{option_map_or}
use Rattle.std.proofs.lemmas.Bool.{leb-true, le-leb, and_parts}
use Rattle.std.proofs.lemmas.List.Quantifiers.{position-Some}
use Rattle.std.proofs.lemmas.Option.{cond_some, same_Some}
use Rattle.serde_json.specs.Data.{Data}
use Rattle.serde_json.specs.Find.{as_number, as_u64, get}
use Rattle.listed.specs.Lists.{all_of, each_from}
use Rattle.listed.specs.Steps.Options as options
use Rattle.listed.proofs.Answered.{IfOk-step}
use Rattle.json_fields.specs.Numbers.{within, whole_in}
use Rattle.json_fields.specs.Objects.{text_at}
use Rattle.json_fields.proofs.Laws.{IfOk-ok_or, bind_some, passed, whole_in-range}
use Rattle.oil_model.specs.declared.system.System.{System}
use Rattle.osek_kernel.specs.declared.source.Source.{Source}
use Rattle.osek_kernel.specs.Sources.{is_live}
use Rattle.replay.specs.declared.fault.ScheduleKind.TheVariants as kinds
use Rattle.replay.specs.declared.schedule.Arrival.{Arrival}
use Rattle.replay.specs.Form.{schedule_parts}
use Rattle.replay.specs.Lawful.{AreFrom, ArrivesIn, IsLawful}
use Rattle.replay.specs.Schedule.{last_moment, moment_from, have_moments_from, are_in_range, mode_in, source_named, live_source, arrival_in, schedule_in}

-- ---- Moments

-- a number in a range is one in a wider range
widened : (low high : ℕ) (o : Option ℕ) (n : ℕ) → option_and_then (within low high) o ≡ Some n → option_and_then (within 0 high) o ≡ Some n
widened low high None n is = absurd cc
widened low high (Some m) n is =
    let tests = cond_some (nat_le low m && nat_le m high) m n is in
    rw (le-leb 0 m (omega arith), (and_parts (nat_le low m) (nat_le m high) tests.0).1) (ap Some tests.1)

pub record IsMoment (low : ℕ) (d : Data) (moment : ℕ) : Type 0 where
  pub from : low ≤ moment
  pub to : moment ≤ last_moment
  pub is : moment_from 0 d ≡ Some moment

is_moment : (low : ℕ) (d : Data) (moment : ℕ) → moment_from low d ≡ Some moment → IsMoment low d moment
is_moment low d moment is =
    let found = bind_some (get (codes "at") d) (whole_in low last_moment) moment is in
    let range = whole_in-range low last_moment found.0 moment found.2 in
    record {
      from = range.0;
      to = range.1;
      is = rw (found.1) (widened low last_moment (option_and_then as_u64 (as_number found.0)) moment found.2);
    }

-- the moment that the first of these arrivals has
first_moment : (o : Option ℕ) (others : ℕ → Bool) → option_map_or others o false ≡ true → (moment : ℕ) × (o ≡ Some moment) × (others moment ≡ true)
first_moment None others is = absurd cc
first_moment (Some moment) others is = (moment, refl, is)

-- ---- Sources

live_source-live : (system : System) (mode : ℕ) (d : Data) (source : Source)
    → options.◌>>=◌ (text_at (codes "source") d) (live_source system mode) ≡ Some source → is_live system mode source ≡ true
live_source-live system mode d source is =
    let name = bind_some (text_at (codes "source") d) (live_source system mode) source is in
    let named = bind_some (source_named system name.0) (λ s. cond (is_live system mode s) (Some s) None) source name.2 in
    let test = passed (is_live system mode named.0) (Some named.0) source named.2 in
    subst (λ (s : Source). is_live system mode s ≡ true) (same_Some named.0 source test.1) test.0

-- ---- Arrivals

pub record Read (system : System) (mode low count : ℕ) (arrivals : List Arrival) : Type 0 where
  pub order : AreFrom low arrivals
  pub each : AllByRecursion (ArrivesIn system mode) arrivals
  pub count_is : length arrivals ≡ count

arrivals-read : (system : System) (mode low place : ℕ) (ds : List Data) → have_moments_from low ds ≡ true
    → IfOk (each_from (λ n. arrival_in system mode) place ds) (Read system mode low (length ds))
unfolding arrival_in
arrivals-read system mode low place [] is = record { order = tt; each = tt; count_is = refl }
arrivals-read system mode low place (d ∷ ds) is =
    let first = first_moment (moment_from low d) (λ moment. have_moments_from moment ds) is in
    let moment = is_moment low d first.0 first.1 in
    IfOk-step (λ (a : Arrival). (a.at ≡ first.0) × ArrivesIn system mode a) (Read system mode low (suc (length ds))) (arrival_in system mode d) _
    (IfOk-step (λ at. (at ≡ first.0) × (at ≤ last_moment)) (λ (a : Arrival). (a.at ≡ first.0) × ArrivesIn system mode a) (ok_or (moment_from 0 d) kinds.Range) _
    (IfOk-ok_or _ _ _ (λ at found. let same = same_Some at first.0 (sym found ∙ moment.is) in (same, omega (arith, same, moment.to)))) (λ at at_is.
    IfOk-step (λ source. is_live system mode source ≡ true) (λ (a : Arrival). (a.at ≡ first.0) × ArrivesIn system mode a) (ok_or (options.◌>>=◌ (text_at (codes "source") d) (live_source system mode)) kinds.Name) _
    (IfOk-ok_or _ _ _ (live_source-live system mode d)) (λ source live. (at_is.0, (at_is.1, live))))) (λ a a_is.
    IfOk-step (Read system mode first.0 (length ds)) (Read system mode low (suc (length ds))) (each_from (λ n. arrival_in system mode) (suc place) ds) _
    (arrivals-read system mode first.0 (suc place) ds first.2) (λ rest read. record {
      order = (omega (arith, a_is.0, moment.from), rw (a_is.0) read.order);
      each = (a_is.1, read.each);
      count_is = ap suc read.count_is;
    }))

-- ---- Schedules

mode_in-lt : (modes : List (List ℕ)) (name : List ℕ) (mode : ℕ) → mode_in modes name ≡ Some mode → mode < length modes
mode_in-lt modes name mode is = (position-Some (λ m. bytes_eq m name) modes mode [] is).0

tested : {A K : Type 0} (test : Bool) (x : A) (kind : K) → IfOk (cond test (Ok x) (Err kind)) (λ y. (test ≡ true) × (y ≡ x))
tested true x kind = (refl, refl)
tested false x kind = tt

pub schedule_in-lawful : (system : System) (d : Data) → IfOk (schedule_in system d) (IsLawful system)
unfolding schedule_in
schedule_in-lawful system d =
    IfOk-step (λ _. Unit {0}) _ (ok_or (schedule_parts d) kinds.Shape) _ (IfOk-ok_or _ _ _ (λ _ _. tt)) (λ parts _.
    IfOk-step (λ end. end ≤ last_moment) _ (ok_or (whole_in 1 last_moment parts.end) kinds.Range) _ (IfOk-ok_or _ _ _ (λ end is. (whole_in-range 1 last_moment parts.end end is).1)) (λ end in_time.
    IfOk-step (λ ds. (are_in_range parts.arrivals ≡ true) × (ds ≡ parts.arrivals)) _ (cond (are_in_range parts.arrivals) (Ok parts.arrivals) (Err kinds.Range)) _ (tested _ _ _) (λ ds range.
    IfOk-step (λ mode. mode < length system.modes) _ (ok_or (mode_in system.modes parts.mode) kinds.Name) _ (IfOk-ok_or _ _ _ (mode_in-lt system.modes parts.mode)) (λ mode exists.
    let tests = and_parts (nat_le (length parts.arrivals) 65536) (have_moments_from 0 parts.arrivals) range.0 in
    IfOk-step (Read system mode 0 (length ds)) _ (all_of (arrival_in system mode) ds) _
    (arrivals-read system mode 0 0 ds (rw (range.1) tests.1)) (λ arrivals read. record {
      mode = exists;
      end = in_time;
      few = omega (arith, read.count_is, ap length range.1, leb-true (length parts.arrivals) 65536 tests.0);
      arrivals = read.each;
      order = read.order;
    })))))
