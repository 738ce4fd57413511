-- The form of a trace in JSON: `{"end": NUMBER, "events": [EVENT, ..], "mode": NAME}`. An event is `["arrive", AT, SOURCE]`,
-- `["take", START, END, SOURCE]` or `["service", START, END, CONTEXT, [SITE, ..], ADDRESS]`; sources and contexts are names.
use Rattle.std.specs.Prelude.{ℕ, List, [], ◌∷◌, Bool, false, ◌&&◌, bytes_eq, codes, is_some, option_and_then, option_map, if◌then◌else◌, Option, Some, None}
use Rattle.std.specs.List.{list_all}
use Rattle.std.specs.Option.{option_map_or}
use Rattle.listed.specs.Steps.Options.{◌>>=◌}
use Rattle.serde_json.specs.Data.{Data}
use Rattle.serde_json.specs.Find.{as_str, get}
use Rattle.json_fields.specs.Forms.{is_number}
use Rattle.json_fields.specs.Lists.{list_in}
use Rattle.json_fields.specs.Objects.{has_exactly, text_at, list_at}

-- ---- Events

-- the members of an event behind its first, with names as their texts
pub data EventParts : Type 0 where
  Arrive : Data → List ℕ → EventParts
  Take : Data → Data → List ℕ → EventParts
  Service : Data → Data → List ℕ → List Data → Data → EventParts

-- the value is this text
abbrev pub is_word : List ℕ → Data → Bool
is_word word d = option_map_or (λ text. bytes_eq text word) (as_str d) false

unfoldable pub arrive_parts : Data → Data → Data → Option EventParts
arrive_parts word at source = if is_word (codes "arrive") word && is_number at then option_map (Arrive at) (as_str source) else None

unfoldable pub take_parts : Data → Data → Data → Data → Option EventParts
take_parts word start end source =
    if is_word (codes "take") word && (is_number start && is_number end) then option_map (Take start end) (as_str source) else None

unfoldable pub service_parts : Data → Data → Data → Data → Data → Data → Option EventParts
service_parts word start end context sites address =
    if is_word (codes "service") word && (is_number start && (is_number end && is_number address)) then (do
      name ← as_str context
      members ← list_in sites
      if list_all is_number members then Some (Service start end name members address) else None) else None

-- by the number of its members
unfoldable pub parts_of : List Data → Option EventParts
parts_of (word ∷ at ∷ source ∷ []) = arrive_parts word at source
parts_of (word ∷ start ∷ end ∷ source ∷ []) = take_parts word start end source
parts_of (word ∷ start ∷ end ∷ context ∷ sites ∷ address ∷ []) = service_parts word start end context sites address
parts_of members = None

abbrev pub event_parts : Data → Option EventParts
event_parts d = option_and_then parts_of (list_in d)

abbrev pub is_event : Data → Bool
is_event d = is_some (event_parts d)

-- ---- Traces

-- the members of a trace
pub record TraceParts : Type 0 where
  pub end : Data
  pub events : List Data
  pub mode : List ℕ

abbrev pub trace_keys : List (List ℕ)
trace_keys = codes "end" ∷ codes "events" ∷ codes "mode" ∷ []

abbrev pub formed : TraceParts → Option TraceParts
formed parts = if is_number parts.end && list_all is_event parts.events then Some parts else None

-- the members, if the value has the form of a trace
unfoldable pub trace_parts : Data → Option TraceParts
trace_parts d = if has_exactly trace_keys d then (do
  end ← get (codes "end") d
  events ← list_at (codes "events") d
  mode ← text_at (codes "mode") d
  formed (record { end = end; events = events; mode = mode })) else None
