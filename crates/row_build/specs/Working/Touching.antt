-- What is seen of the rows of nodes, column by column.
use Rattle.std.specs.Prelude.{◌≡◌, ℕ, ◌<◌, Bool, not, List, length, map, if◌then◌else◌}
use Rattle.whole_rows.specs.Row.{is_zero}
use Rattle.wcet_atomic_blocks.specs.Plants.{PlantData}
use Rattle.row_build.specs.declared.seen.EntryKind.{EntryKind}
use Rattle.row_build.specs.declared.seen.EntryKind.TheVariants.{Outgoing, Incoming, Other}
use Rattle.row_build.specs.declared.seen.SeenEntry.{SeenEntry}
use Rattle.row_build.specs.declared.seen.Seen.{Seen}
use Rattle.row_build.specs.Columns.{Column}
use Rattle.row_build.specs.Families.{passes}
use Rattle.row_build.specs.Links.{Entry, entries_from, is_outgoing, is_incoming}
use Rattle.row_build.specs.Working.Seen.{seen_of, seen_in, with_entry}

abbrev pub kind_of : PlantData → Entry → EntryKind
kind_of plant entry = if is_outgoing plant entry then Outgoing else (if is_incoming entry then Incoming else Other)

abbrev pub marked : PlantData → Entry → SeenEntry
marked plant entry = record { place = entry.place; kind = kind_of plant entry }

-- an edge that leaves its node
abbrev pub kind_of_leaving : Bool → EntryKind
kind_of_leaving back = if not back then Outgoing else Other

-- what these columns give to the row of the node
abbrev pub seen_at : PlantData → ℕ → List Column → Seen
seen_at plant node columns = seen_of (map (marked plant) (entries_from (passes plant node).factor 0 columns))

-- with what one more column gives
abbrev pub with_column : PlantData → ℕ → ℕ → Column → Seen → Seen
with_column plant node place column seen =
    if is_zero ((passes plant node).factor column) then seen
    else with_entry seen (marked plant (record { place = place; column = column; factor = (passes plant node).factor column }))

pub record SeesColumn (plant : PlantData) (place : ℕ) (column : Column) (before after : List Seen) : Type 0 where
  pub count : length after ≡ length before
  pub each : (node : ℕ) → node < length before → seen_in after node ≡ with_column plant node place column (seen_in before node)

-- for each node what these columns give to its row
pub record AreSeen (plant : PlantData) (columns : List Column) (seen : List Seen) : Type 0 where
  pub count : length seen ≡ length plant.flow.nodes
  pub each : (node : ℕ) → node < length seen → seen_in seen node ≡ seen_at plant node columns
