-- A trace that is read is lawful.
use Rattle.std.proofs.Common.{◌≡◌, ℕ, ◌+◌, ◌-◌, ◌^◌, ◌<◌, ◌≤◌, Bool, true, false, cond, List, [], ◌∷◌, length, map, suc, Option, Some, None, Result, Ok, Err, refl, ap, arith}
use Rattle.std.specs.Prelude.{◌&&◌, IfOk, bytes_eq, nat_le, ok_or}
use Rattle.std.specs.List.{AllByRecursion, list_all}
use Rattle.std.specs.Option.{option_map_or}
use Rattle.std.proofs.lemmas.Bool.{le-leb, leb-true, and_parts}
use Rattle.std.proofs.lemmas.List.{length-map, length-append}
use Rattle.std.proofs.lemmas.List.Folds.{list_all-map}
use Rattle.std.proofs.lemmas.List.Quantifiers.{position-Some}
use Rattle.serde_json.specs.Data.{Data}
use Rattle.serde_json.specs.View.{view}
use Rattle.serde_json.specs.declared.value.Value.{Value}
use Rattle.listed.specs.Lists.{all_of, each_from}
use Rattle.listed.specs.Steps.{◌>>=◌}
use Rattle.listed.proofs.Answered.{IfOk-step, IfOk-all_of, IfOk-each_from_length}
use Rattle.json_fields.proofs.Laws.{IfOk-ok_or, whole_in-range}
use Rattle.oil_model.specs.declared.system.System.{System}
use Rattle.trace_check.specs.declared.fault.TraceKind.{TraceKind}
use Rattle.trace_check.specs.declared.fault.TraceKind.TheVariants as kinds
use Rattle.trace_check.specs.declared.trace.Event.{Event}
use Rattle.trace_check.specs.Form.{EventParts, Arrive, Take, Service, event_parts, trace_parts}
use Rattle.trace_check.specs.Text as words
use Rattle.trace_check.specs.Text.{source_names, context_names, place_named, moment_in, address_in, site_in, event_of, event_in, trace_in}
use Rattle.trace_check.specs.Trace.{NamesWhatExists, IsMoment, IsAddress, IsInLimits, IsLawful}

-- ---- lists of values that the code tests one by one

pub counted_view : (test : Data → Bool) (most : ℕ) (vs : List Value) → length vs ≤ most
    → list_all (λ v. test (view v)) vs ≡ (nat_le (length (map view vs)) most && list_all test (map view vs))
counted_view test most vs few = rw (list_all-map test view vs, length-map, le-leb (length vs) most few) refl

-- ---- numbers and names

moment_in-moment : (d : Data) (n : ℕ) → moment_in d ≡ Some n → IsMoment n
moment_in-moment d n is = omega (arith, whole_in-range 0 (2 ^ 63 - 1) d n is)

address_in-address : (d : Data) (n : ℕ) → address_in d ≡ Some n → IsAddress n
address_in-address d n is = omega (arith, whole_in-range 0 (2 ^ 32 - 1) d n is)

place_named-lt : (name : List ℕ) (names : List (List ℕ)) (place : ℕ) → place_named name names ≡ Some place → place < length names
place_named-lt name names place is = (position-Some (λ known. bytes_eq known name) names place [] is).0

source-exists : (system : System) (name : List ℕ) (place : ℕ) → place_named name (source_names system) ≡ Some place
    → place < length system.alarms + length system.isrs
source-exists system name place is =
    let both : length (source_names system) ≡ length system.alarms + length system.isrs = rw (length-append, length-map, length-map) refl in
    omega (arith, place_named-lt name (source_names system) place is, both)

context-exists : (system : System) (name : List ℕ) (place : ℕ) → place_named name (context_names system) ≡ Some place
    → place < length system.tasks + length system.isrs
context-exists system name place is =
    let both : length (context_names system) ≡ length system.tasks + length system.isrs = rw (length-append, length-map, length-map) refl in
    omega (arith, place_named-lt name (context_names system) place is, both)

-- ---- events

abbrev IsSound : System → Event → Type 0
IsSound system event = NamesWhatExists system event × IsInLimits event

-- at most 16 open calls
abbrev has_few_sites : EventParts → Bool
has_few_sites (Service start end context sites address) = nat_le (length sites) 16
has_few_sites parts = true

few_sites : (parts : EventParts) → words.are_in_range parts ≡ true → has_few_sites parts ≡ true
few_sites (Arrive at source) is = refl
few_sites (Take start end source) is = refl
few_sites (Service start end context sites address) is =
    let times = and_parts (words.is_moment start) _ is in
    let behind = and_parts (words.is_moment end) _ times.1 in
    let places = and_parts (words.are_sites sites) _ behind.1 in
    (and_parts (nat_le (length sites) 16) _ places.0).0

both_hold : {A K : Type 0} (P Q : A → Type 0) (r : Result A K) → IfOk r P → IfOk r Q → IfOk r (λ x. P x × Q x)
both_hold P Q (Ok x) p q = (p, q)
both_hold P Q (Err e) p q = tt

abbrev AreSites : List ℕ → Type 0
AreSites sites = (length sites ≤ 16) × AllByRecursion IsAddress sites

sites-read : (sites : List Data) → nat_le (length sites) 16 ≡ true → IfOk (all_of site_in sites) AreSites
sites-read sites few =
    both_hold (λ read. length read ≤ 16) (AllByRecursion IsAddress) (all_of site_in sites)
    (few_of (all_of site_in sites) (IfOk-each_from_length (λ n. site_in) 0 sites))
    (IfOk-all_of site_in IsAddress (λ d. IfOk-ok_or IsAddress (address_in d) kinds.Range (address_in-address d)) 0 sites)
  where
    few_of : (r : Result (List ℕ) TraceKind) → IfOk r (λ read. length read ≡ length sites) → IfOk r (λ read. length read ≤ 16)
    few_of (Ok read) is = omega (arith, is, leb-true (length sites) 16 few)
    few_of (Err kind) is = tt

moments-read : (P : ℕ → Type 0) (d : Data) → ((n : ℕ) → IsMoment n → P n) → IfOk (ok_or (moment_in d) kinds.Range) P
moments-read P d each = IfOk-ok_or P (moment_in d) kinds.Range (λ n is. each n (moment_in-moment d n is))

event_of-sound : (system : System) (parts : EventParts) → has_few_sites parts ≡ true → IfOk (event_of system parts) (IsSound system)
unfolding event_of
event_of-sound system (Arrive at source) few =
    IfOk-step IsMoment (IsSound system) (ok_or (moment_in at) kinds.Range) _ (moments-read IsMoment at (λ n m. m)) (λ moment at_is.
    IfOk-step (λ place. place < length system.alarms + length system.isrs) (IsSound system) (ok_or (place_named source (source_names system)) kinds.Name) _
    (IfOk-ok_or _ _ _ (source-exists system source)) (λ place exists. (exists, at_is)))
event_of-sound system (Take start end source) few =
    IfOk-step IsMoment (IsSound system) (ok_or (moment_in start) kinds.Range) _ (moments-read IsMoment start (λ n m. m)) (λ begin start_is.
    IfOk-step IsMoment (IsSound system) (ok_or (moment_in end) kinds.Range) _ (moments-read IsMoment end (λ n m. m)) (λ last end_is.
    IfOk-step (λ place. place < length system.alarms + length system.isrs) (IsSound system) (ok_or (place_named source (source_names system)) kinds.Name) _
    (IfOk-ok_or _ _ _ (source-exists system source)) (λ place exists. (exists, (start_is, end_is)))))
event_of-sound system (Service start end context sites address) few =
    IfOk-step IsMoment (IsSound system) (ok_or (moment_in start) kinds.Range) _ (moments-read IsMoment start (λ n m. m)) (λ begin start_is.
    IfOk-step IsMoment (IsSound system) (ok_or (moment_in end) kinds.Range) _ (moments-read IsMoment end (λ n m. m)) (λ last end_is.
    IfOk-step AreSites (IsSound system) (all_of site_in sites) _ (sites-read sites few) (λ calls calls_are.
    IfOk-step IsAddress (IsSound system) (ok_or (address_in address) kinds.Range) _ (IfOk-ok_or _ _ _ (address_in-address address)) (λ place place_is.
    IfOk-step (λ owner. owner < length system.tasks + length system.isrs) (IsSound system) (ok_or (place_named context (context_names system)) kinds.Name) _
    (IfOk-ok_or _ _ _ (context-exists system context)) (λ owner exists.
    (exists, (start_is, end_is, record { few = calls_are.0; calls = calls_are.1; place = place_is })))))))

event_in-sound : (system : System) (d : Data) → words.is_in_range d ≡ true → IfOk (event_in system d) (IsSound system)
event_in-sound system d is = by (event_parts d) is
  where
    by : (parts : Option EventParts) → option_map_or words.are_in_range parts false ≡ true
        → IfOk (◌>>=◌ (ok_or parts kinds.Shape) (event_of system)) (IsSound system)
    by (Some parts) is = event_of-sound system parts (few_sites parts is)
    by None is = tt

events-read : (system : System) (place : ℕ) (ds : List Data) → list_all words.is_in_range ds ≡ true
    → IfOk (each_from (λ n. event_in system) place ds) (AllByRecursion (IsSound system))
events-read system place [] is = tt
events-read system place (d ∷ ds) is =
    let tests = and_parts (words.is_in_range d) (list_all words.is_in_range ds) is in
    IfOk-step (IsSound system) (AllByRecursion (IsSound system)) (event_in system d) _ (event_in-sound system d tests.0) (λ event sound.
    IfOk-step (AllByRecursion (IsSound system)) (AllByRecursion (IsSound system)) (each_from (λ n. event_in system) (suc place) ds) _
    (events-read system (suc place) ds tests.1) (λ rest all. (sound, all)))

-- ---- traces

firsts : (system : System) (events : List Event) → AllByRecursion (IsSound system) events → AllByRecursion (NamesWhatExists system) events
firsts system [] all = tt
firsts system (event ∷ events) all = (all.0.0, firsts system events all.1)

seconds : (system : System) (events : List Event) → AllByRecursion (IsSound system) events → AllByRecursion IsInLimits events
seconds system [] all = tt
seconds system (event ∷ events) all = (all.0.1, seconds system events all.1)

tested : {A K : Type 0} (test : Bool) (x : A) (kind : K) → IfOk (cond test (Ok x) (Err kind)) (λ y. (test ≡ true) × (y ≡ x))
tested true x kind = (refl, refl)
tested false x kind = tt

pub trace_in-lawful : (system : System) (d : Data) → IfOk (trace_in system d) (IsLawful system)
unfolding trace_in
trace_in-lawful system d =
    IfOk-step (λ _. Unit {0}) (IsLawful system) (ok_or (trace_parts d) kinds.Shape) _ (IfOk-ok_or _ _ _ (λ _ _. tt)) (λ parts _.
    IfOk-step IsMoment (IsLawful system) (ok_or (moment_in parts.end) kinds.Range) _ (moments-read IsMoment parts.end (λ n m. m)) (λ end end_is.
    IfOk-step (λ ds. (words.events_are_in_range parts.events ≡ true) × (ds ≡ parts.events)) (IsLawful system)
    (cond (words.events_are_in_range parts.events) (Ok parts.events) (Err kinds.Range)) _ (tested _ _ _) (λ ds range.
    IfOk-step (λ mode. mode < length system.modes) (IsLawful system) (ok_or (place_named parts.mode system.modes) kinds.Name) _
    (IfOk-ok_or _ _ _ (place_named-lt parts.mode system.modes)) (λ mode exists.
    let tests = and_parts (nat_le (length parts.events) 65536) (list_all words.is_in_range parts.events) range.0 in
    IfOk-step (λ events. AllByRecursion (IsSound system) events × (length events ≡ length ds)) (IsLawful system) (all_of (event_in system) ds) _
    (both_hold (AllByRecursion (IsSound system)) (λ events. length events ≡ length ds) (all_of (event_in system) ds)
    (events-read system 0 ds (rw (range.1) tests.1)) (IfOk-each_from_length (λ n. event_in system) 0 ds)) (λ events read. record {
      names = record { mode = exists; events = firsts system events read.0 };
      end = end_is;
      few = omega (arith, read.1, ap length range.1, leb-true (length parts.events) 65536 tests.0);
      limits = seconds system events read.0;
    })))))
