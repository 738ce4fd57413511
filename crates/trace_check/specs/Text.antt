-- The trace that a JSON value is, or the first kind of fault that it has, in the order in which the kinds are listed, each
-- judged over the whole value; and the text that a trace is written as.
use Rattle.std.specs.Prelude.{ℕ, ◌-◌, ◌^◌, List, [], ◌∷◌, ◌++◌, length, map, position, slice_index_or, Bool, false, ◌&&◌, nat_le, bytes_eq, codes, is_some, ok_or, if◌then◌else◌, Option, Result, Ok, Err}
use Rattle.std.specs.List.{list_all}
use Rattle.std.specs.Option.{option_map_or}
use Rattle.listed.specs.Lists.{all_of}
use Rattle.listed.specs.Steps.{◌>>=◌}
use Rattle.serde_json.specs.Data.{Data, string, object, no_members, member}
use Rattle.serde_json.specs.Written.{compact_text}
use Rattle.json_fields.specs.Numbers.{whole_in}
use Rattle.oil_model.specs.declared.system.System.{System}
use Rattle.certificate.specs.Writing.{number_data, list_data}
use Rattle.trace_check.specs.declared.fault.TraceKind.{TraceKind}
use Rattle.trace_check.specs.declared.fault.TraceKind.TheVariants.{Shape, Range, Name}
use Rattle.trace_check.specs.declared.trace.Event.{Event}
use Rattle.trace_check.specs.declared.trace.Event.TheVariants as events
use Rattle.trace_check.specs.declared.trace.Trace.{Trace}
use Rattle.trace_check.specs.Form.{EventParts, Arrive, Take, Service, event_parts, trace_parts}

-- ---- Names

-- alarms by id, then ISRs by id
abbrev pub source_names : System → List (List ℕ)
source_names system = map (λ alarm. alarm.name) system.alarms ++ map (λ isr. isr.name) system.isrs

-- tasks by id, then ISRs by id
abbrev pub context_names : System → List (List ℕ)
context_names system = map (λ task. task.name) system.tasks ++ map (λ isr. isr.name) system.isrs

abbrev pub place_named : List ℕ → List (List ℕ) → Option ℕ
place_named name names = position (λ known. bytes_eq known name) names

abbrev pub name_at : List (List ℕ) → ℕ → List ℕ
name_at names place = slice_index_or names place []

-- ---- Numbers

-- a moment, in cycles
abbrev pub moment_in : Data → Option ℕ
moment_in d = whole_in 0 (2 ^ 63 - 1) d

abbrev pub address_in : Data → Option ℕ
address_in d = whole_in 0 (2 ^ 32 - 1) d

abbrev pub is_moment : Data → Bool
is_moment d = is_some (moment_in d)

abbrev pub is_address : Data → Bool
is_address d = is_some (address_in d)

-- at most 16 open calls
abbrev pub are_sites : List Data → Bool
are_sites sites = nat_le (length sites) 16 && list_all is_address sites

abbrev pub are_in_range : EventParts → Bool
are_in_range (Arrive at source) = is_moment at
are_in_range (Take start end source) = is_moment start && is_moment end
are_in_range (Service start end context sites address) = is_moment start && (is_moment end && (are_sites sites && is_address address))

abbrev pub is_in_range : Data → Bool
is_in_range d = option_map_or are_in_range (event_parts d) false

-- at most 65,536 events
abbrev pub events_are_in_range : List Data → Bool
events_are_in_range events = nat_le (length events) 65536 && list_all is_in_range events

-- ---- Traces

abbrev pub site_in : Data → Result ℕ TraceKind
site_in d = ok_or (address_in d) Range

unfoldable pub event_of : System → EventParts → Result Event TraceKind
event_of system (Arrive at source) = do
  at ← ok_or (moment_in at) Range
  source ← ok_or (place_named source (source_names system)) Name
  Ok (events.Arrive at source)
event_of system (Take start end source) = do
  start ← ok_or (moment_in start) Range
  end ← ok_or (moment_in end) Range
  source ← ok_or (place_named source (source_names system)) Name
  Ok (events.Take start end source)
event_of system (Service start end context sites address) = do
  start ← ok_or (moment_in start) Range
  end ← ok_or (moment_in end) Range
  sites ← all_of site_in sites
  address ← ok_or (address_in address) Range
  context ← ok_or (place_named context (context_names system)) Name
  Ok (events.Service start end context sites address)

abbrev pub event_in : System → Data → Result Event TraceKind
event_in system d = do
  parts ← ok_or (event_parts d) Shape
  event_of system parts

unfoldable pub trace_in : System → Data → Result Trace TraceKind
trace_in system d = do
  parts ← ok_or (trace_parts d) Shape
  end ← ok_or (moment_in parts.end) Range
  events ← if events_are_in_range parts.events then Ok parts.events else Err Range
  mode ← ok_or (place_named parts.mode system.modes) Name
  events ← all_of (event_in system) events
  Ok (record { mode = mode; end = end; events = events })

-- ---- What a trace is written as

abbrev pub source_data : System → ℕ → Data
source_data system source = string (name_at (source_names system) source)

abbrev pub context_data : System → ℕ → Data
context_data system context = string (name_at (context_names system) context)

abbrev pub event_members : System → Event → List Data
event_members system (events.Arrive at source) = string (codes "arrive") ∷ number_data at ∷ source_data system source ∷ []
event_members system (events.Take start end source) =
    string (codes "take") ∷ number_data start ∷ number_data end ∷ source_data system source ∷ []
event_members system (events.Service start end context sites address) =
    string (codes "service") ∷ number_data start ∷ number_data end ∷ context_data system context
    ∷ list_data (map number_data sites) ∷ number_data address ∷ []

abbrev pub event_data : System → Event → Data
event_data system event = list_data (event_members system event)

unfoldable pub trace_data : System → Trace → Data
trace_data system trace = object (
    member (codes "end") (number_data trace.end)
    (member (codes "events") (list_data (map (event_data system) trace.events))
    (member (codes "mode") (string (name_at system.modes trace.mode)) no_members))
    )

-- one line: the value with no space, and a newline
abbrev pub trace_text : System → Trace → List ℕ
trace_text system trace = compact_text (trace_data system trace) ++ 10 ∷ []
