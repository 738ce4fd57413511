-- The form of a schedule in JSON: `{"mode": NAME, "end": NUMBER, "arrivals": [{"at": NUMBER, "source": NAME}, ..]}`.
use Rattle.std.specs.Prelude.{ℕ, List, [], ◌∷◌, Bool, false, ◌&&◌, codes, if◌then◌else◌, Option, Some, None, option_map, unwrap_or}
use Rattle.std.specs.List.{list_all}
use Rattle.listed.specs.Steps.Options.{◌>>=◌}
use Rattle.serde_json.specs.Data.{Data}
use Rattle.serde_json.specs.Find.{get}
use Rattle.json_fields.specs.Forms.{is_number, is_text}
use Rattle.json_fields.specs.Objects.{has_exactly, text_at, list_at}

-- something with this form stands at the key
abbrev pub passes_at : (Data → Bool) → List ℕ → Data → Bool
passes_at form key d = unwrap_or (option_map form (get key d)) false

abbrev pub arrival_keys : List (List ℕ)
arrival_keys = codes "at" ∷ codes "source" ∷ []

abbrev pub is_arrival : Data → Bool
is_arrival d = has_exactly arrival_keys d && passes_at is_number (codes "at") d && passes_at is_text (codes "source") d

-- the members of a schedule
pub record ScheduleParts : Type 0 where
  pub mode : List ℕ
  pub end : Data
  pub arrivals : List Data

abbrev pub schedule_keys : List (List ℕ)
schedule_keys = codes "arrivals" ∷ codes "end" ∷ codes "mode" ∷ []

abbrev pub formed : ScheduleParts → Option ScheduleParts
formed parts = if is_number parts.end && list_all is_arrival parts.arrivals then Some parts else None

-- the members, if the value has the form of a schedule
unfoldable pub schedule_parts : Data → Option ScheduleParts
schedule_parts d = if has_exactly schedule_keys d then (do
  mode ← text_at (codes "mode") d
  end ← get (codes "end") d
  arrivals ← list_at (codes "arrivals") d
  formed (record { mode = mode; end = end; arrivals = arrivals })) else None
