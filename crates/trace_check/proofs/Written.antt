-- A trace that is written is read again as the same trace.
use Rattle.std.proofs.Common.{◌≡◌, ℕ, suc, ◌+◌, ◌-◌, ◌^◌, ◌<◌, ◌≤◌, Bool, true, false, List, [], ◌∷◌, ◌++◌, length, map, Some, Ok, refl, ap, ◌∙◌, arith, inl}
use Rattle.std.proofs.lemmas.Bool.{le-leb}
use Rattle.std.proofs.lemmas.List.{length-map, length-append}
use Rattle.std.proofs.lemmas.Str.{IsUtf8-append}
use Rattle.std.specs.Prelude.{IsUtf8, is_some}
use Rattle.std.specs.List.{AllByRecursion, list_all}
use Rattle.json.proofs.Printed.Utf8.{IsUtf8-are_ascii}
use Rattle.serde_json.specs.Data.{Data, depth, items_depth}
use Rattle.serde_json.specs.Read.{read, max_depth}
use Rattle.serde_json.specs.View.{items_of}
use Rattle.serde_json.specs.Written.{has_float, items_have_float, compact_text}
use Rattle.listed.specs.Lists.{each_from}
use Rattle.json_fields.specs.Files.{IsGiven}
use Rattle.json_fields.specs.Forms.{is_number}
use Rattle.json_fields.proofs.Words.{members_of-items_of}
use Rattle.oil_model.specs.declared.system.System.{System}
use Rattle.oil_model.specs.System.{IsLawful as IsLawfulSystem}
use Rattle.certificate.proofs.Newlines.{read-newline}
use Rattle.certificate.specs.Writing.{number_data}
use Rattle.trace_check.specs.declared.fault.TraceKind.TheVariants as kinds
use Rattle.trace_check.specs.declared.trace.Event.{Event}
use Rattle.trace_check.specs.declared.trace.Event.TheVariants as events
use Rattle.trace_check.specs.declared.trace.Trace.{Trace}
use Rattle.trace_check.specs.Form.{EventParts, Arrive, Take, Service, arrive_parts, take_parts, service_parts, parts_of, event_parts, is_event, TraceParts, trace_parts}
use Rattle.trace_check.specs.Text.{source_names, context_names, name_at, place_named, moment_in, address_in, are_in_range, is_in_range, is_address, site_in, event_of, event_in, trace_in, event_members, event_data, trace_data, trace_text}
use Rattle.trace_check.specs.Trace.{NamesWhatExists, IsMoment, IsAddress, IsInLimits, IsLawful}
use Rattle.trace_check.proofs.NamesBack.{name_back, sources_differ, contexts_differ}

-- ---- numbers

moment_back : (n : ℕ) → IsMoment n → moment_in (number_data n) ≡ Some n
moment_back n small =
    let least : 0 ≤ n = omega arith in
    let most : n ≤ 2 ^ 63 - 1 = omega (arith, small) in
    rw (le-leb 0 n least, le-leb n (2 ^ 63 - 1) most) refl

address_back : (n : ℕ) → IsAddress n → address_in (number_data n) ≡ Some n
address_back n small =
    let least : 0 ≤ n = omega arith in
    let most : n ≤ 2 ^ 32 - 1 = omega (arith, small) in
    rw (le-leb 0 n least, le-leb n (2 ^ 32 - 1) most) refl

sites_back : (place : ℕ) (sites : List ℕ) → AllByRecursion IsAddress sites → each_from (λ n. site_in) place (map number_data sites) ≡ Ok sites
sites_back place [] all = refl
sites_back place (site ∷ sites) all = rw (address_back site all.0, sites_back (suc place) sites all.1) refl

all_pass : {A : Type 0} (test : Data → Bool) (data_of : A → Data) (P : A → Type 0) → ((x : A) → P x → test (data_of x) ≡ true)
    → (xs : List A) → AllByRecursion P xs → list_all test (map data_of xs) ≡ true
all_pass test data_of P passes [] all = refl
all_pass test data_of P passes (x ∷ xs) all = rw (passes x all.0, all_pass test data_of P passes xs all.1) refl

numbers_form : (ns : List ℕ) → list_all is_number (map number_data ns) ≡ true
numbers_form [] = refl
numbers_form (n ∷ ns) = numbers_form ns

-- ---- names

source_back : (system : System) → IsLawfulSystem system → (source : ℕ) → source < length system.alarms + length system.isrs
    → place_named (name_at (source_names system) source) (source_names system) ≡ Some source
source_back system lawful source exists =
    let both : length (source_names system) ≡ length system.alarms + length system.isrs = rw (length-append, length-map, length-map) refl in
    name_back (source_names system) source (sources_differ system lawful) (omega (arith, both, exists))

context_back : (system : System) → IsLawfulSystem system → (context : ℕ) → context < length system.tasks + length system.isrs
    → place_named (name_at (context_names system) context) (context_names system) ≡ Some context
context_back system lawful context exists =
    let both : length (context_names system) ≡ length system.tasks + length system.isrs = rw (length-append, length-map, length-map) refl in
    name_back (context_names system) context (contexts_differ system lawful) (omega (arith, both, exists))

-- ---- events

abbrev members_told : System → Event → EventParts
members_told system (events.Arrive at source) = Arrive (number_data at) (name_at (source_names system) source)
members_told system (events.Take start end source) = Take (number_data start) (number_data end) (name_at (source_names system) source)
members_told system (events.Service start end context sites address) =
    Service (number_data start) (number_data end) (name_at (context_names system) context) (map number_data sites) (number_data address)

members_back : (system : System) (event : Event) → parts_of (event_members system event) ≡ Some (members_told system event)
unfolding parts_of arrive_parts take_parts service_parts
members_back system (events.Arrive at source) = refl
members_back system (events.Take start end source) = refl
members_back system (events.Service start end context sites address) = rw (members_of-items_of (map number_data sites), numbers_form sites) refl

parts_back : (system : System) (event : Event) → event_parts (event_data system event) ≡ Some (members_told system event)
parts_back system event = rw (members_of-items_of (event_members system event)) (members_back system event)

form_back : (system : System) (event : Event) → is_event (event_data system event) ≡ true
form_back system event = ap is_some (parts_back system event)

range_back : (system : System) (event : Event) → IsInLimits event → is_in_range (event_data system event) ≡ true
range_back system event limits = rw (parts_back system event) (by event limits)
  where
    by : (event : Event) → IsInLimits event → are_in_range (members_told system event) ≡ true
    by (events.Arrive at source) limits = rw (moment_back at limits) refl
    by (events.Take start end source) limits = rw (moment_back start limits.0, moment_back end limits.1) refl
    by (events.Service start end context sites address) limits =
        rw (
          moment_back start limits.0,
          moment_back end limits.1,
          length-map,
          le-leb (length sites) 16 limits.2.few,
          all_pass is_address number_data IsAddress (λ n small. ap is_some (address_back n small)) sites limits.2.calls,
          address_back address limits.2.place,
        ) refl

event_back : (system : System) → IsLawfulSystem system → (event : Event) → NamesWhatExists system event → IsInLimits event
    → event_in system (event_data system event) ≡ Ok event
unfolding event_of
event_back system lawful event exists limits = rw (parts_back system event) (by event exists limits)
  where
    by : (event : Event) → NamesWhatExists system event → IsInLimits event → event_of system (members_told system event) ≡ Ok event
    by (events.Arrive at source) exists limits = rw (moment_back at limits, source_back system lawful source exists) refl
    by (events.Take start end source) exists limits =
        rw (moment_back start limits.0, moment_back end limits.1, source_back system lawful source exists) refl
    by (events.Service start end context sites address) exists limits =
        rw (
          moment_back start limits.0,
          moment_back end limits.1,
          sites_back 0 sites limits.2.calls,
          address_back address limits.2.place,
          context_back system lawful context exists,
        ) refl

events_back : (system : System) → IsLawfulSystem system → (place : ℕ) (es : List Event) → AllByRecursion (NamesWhatExists system) es
    → AllByRecursion IsInLimits es → each_from (λ n. event_in system) place (map (event_data system) es) ≡ Ok es
events_back system lawful place [] exist limits = refl
events_back system lawful place (event ∷ es) exist limits =
    rw (event_back system lawful event exist.0 limits.0, events_back system lawful (suc place) es exist.1 limits.1) refl

-- ---- a trace

abbrev told : System → Trace → TraceParts
told system trace = record {
  end = number_data trace.end;
  events = map (event_data system) trace.events;
  mode = name_at system.modes trace.mode;
}

any_event : (system : System) (es : List Event) → list_all is_event (map (event_data system) es) ≡ true
any_event system [] = refl
any_event system (event ∷ es) = rw (form_back system event, any_event system es) refl

trace_parts_back : (system : System) (trace : Trace) → trace_parts (trace_data system trace) ≡ Some (told system trace)
unfolding trace_parts trace_data
trace_parts_back system trace = rw (members_of-items_of (map (event_data system) trace.events), any_event system trace.events) refl

trace_back : (system : System) → IsLawfulSystem system → (trace : Trace) → IsLawful system trace → trace_in system (trace_data system trace) ≡ Ok trace
unfolding trace_in
trace_back system lawful trace sound =
    rw (
      trace_parts_back system trace,
      moment_back trace.end sound.end,
      length-map,
      le-leb (length trace.events) 65536 sound.few,
      all_pass is_in_range (event_data system) IsInLimits (range_back system) trace.events sound.limits,
      name_back system.modes trace.mode lawful.apart.modes sound.names.mode,
      events_back system lawful 0 trace.events sound.names.events sound.limits,
    ) refl

-- ---- no float, and few levels

numbers_exact : (ns : List ℕ) → items_have_float (items_of (map number_data ns)) ≡ false
numbers_exact [] = refl
numbers_exact (n ∷ ns) = numbers_exact ns

event_exact : (system : System) (event : Event) → has_float (event_data system event) ≡ false
event_exact system (events.Arrive at source) = refl
event_exact system (events.Take start end source) = refl
event_exact system (events.Service start end context sites address) = rw (numbers_exact sites) refl

events_exact : (system : System) (es : List Event) → items_have_float (items_of (map (event_data system) es)) ≡ false
events_exact system [] = refl
events_exact system (event ∷ es) = rw (event_exact system event, events_exact system es) refl

trace_exact : (system : System) (trace : Trace) → has_float (trace_data system trace) ≡ false
unfolding trace_data
trace_exact system trace = rw (events_exact system trace.events) refl

numbers_shallow : (ns : List ℕ) → items_depth (items_of (map number_data ns)) ≤ 0
numbers_shallow [] = omega arith
numbers_shallow (n ∷ ns) = omega (arith, numbers_shallow ns)

event_shallow : (system : System) (event : Event) → depth (event_data system event) ≤ 2
event_shallow system (events.Arrive at source) = omega arith
event_shallow system (events.Take start end source) = omega arith
event_shallow system (events.Service start end context sites address) = omega (arith, numbers_shallow sites)

events_shallow : (system : System) (es : List Event) → items_depth (items_of (map (event_data system) es)) ≤ 2
events_shallow system [] = omega arith
events_shallow system (event ∷ es) = omega (arith, event_shallow system event, events_shallow system es)

trace_shallow : (system : System) (trace : Trace) → depth (trace_data system trace) ≤ max_depth
unfolding trace_data
trace_shallow system trace = omega (arith, events_shallow system trace.events)

-- ---- the text

pub text_of : (system : System) (trace : Trace) (d : Data) (text : List ℕ) → d ≡ trace_data system trace → (has_float d ≡ false → text ≡ compact_text d)
    → text ++ 10 ∷ [] ≡ trace_text system trace
text_of system trace d text is written =
    let exact : has_float d ≡ false = rw is (trace_exact system trace) in
    ap (λ t. t ++ 10 ∷ []) (written exact ∙ ap compact_text is)

pub read_again : (system : System) → IsLawfulSystem system → (trace : Trace) → IsLawful system trace → (d : Data) (text : List ℕ) → d ≡ trace_data system trace
    → IsUtf8 text → (depth d ≤ max_depth → read text ≡ Some d) → IsGiven kinds.Json (trace_in system) (text ++ 10 ∷ []) (Ok trace)
read_again system lawful trace sound d text is utf8 reads =
    let shallow : depth d ≤ max_depth = rw is (trace_shallow system trace) in
    inl (
      d,
      (IsUtf8-append text (10 ∷ []) utf8 (IsUtf8-are_ascii (10 ∷ []) refl), read-newline text ∙ reads shallow),
      ap (trace_in system) is ∙ trace_back system lawful trace sound,
    )
