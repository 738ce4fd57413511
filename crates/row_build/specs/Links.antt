-- Links: the rows of nodes that say nothing but that one edge is gone along at most as often as another. The columns of
-- their two edges can be made one.
use Rattle.std.specs.Prelude.{ℕ, suc, not, ◌&&◌, Bool, true, false, List, [], ◌∷◌, ◌++◌, length, map, Option, Some, None, ℤ, pos, negsuc, if◌then◌else◌}
use Rattle.std.specs.List.{list_any, range_with_len}
use Rattle.std.specs.Option.{option_or}
use Rattle.std.specs.Ordering.{int_eq}
use Rattle.whole_rows.specs.Row.{is_zero}
use Rattle.row_squeeze.specs.declared.Link.{Link}
use Rattle.wcet_atomic_blocks.specs.Loops.{loop_instances}
use Rattle.wcet_atomic_blocks.specs.Plants.{PlantData}
use Rattle.abstract_sched.specs.declared.states.AbsState.{AbsState}
use Rattle.row_build.specs.Columns
use Rattle.row_build.specs.Families

-- ---- The entries of a row

-- a factor that isn't 0, with its column and the place of that among all columns
pub record Entry : Type 0 where
  pub place : ℕ
  pub column : Columns.Column
  pub factor : ℤ

-- those of these columns, the first of which stands at that place
abbrev pub entries_from : (Columns.Column → ℤ) → ℕ → List Columns.Column → List Entry
entries_from factor place [] = []
entries_from factor place (column ∷ columns) =
    let others = entries_from factor (suc place) columns in
    if is_zero (factor column) then others else record { place = place; column = column; factor = factor column } ∷ others

-- ---- Links

-- going along the edge is going round in a loop
abbrev pub is_back : PlantData → Columns.Along → Bool
is_back plant along =
    list_any (λ instance. Families.is_listed_edge instance.backs along) (loop_instances plant.flow plant.blocks.blocks plant.timing.loops)

abbrev pub is_edge : (Columns.Along → Bool) → Columns.Column → Bool
is_edge test (Columns.Goes along) = test along
is_edge test column = false

-- 1 at an edge by which no loop is gone round
abbrev pub is_outgoing : PlantData → Entry → Bool
is_outgoing plant entry = int_eq entry.factor (pos 1) && is_edge (λ along. not (is_back plant along)) entry.column

-- -1 at an edge
abbrev pub is_incoming : Entry → Bool
is_incoming entry = int_eq entry.factor (negsuc 0) && is_edge (λ along. true) entry.column

abbrev pub link_of_pair : PlantData → Entry → Entry → Option Link
link_of_pair plant outgoing incoming =
    if is_outgoing plant outgoing && is_incoming incoming
    then Some (record { outgoing = outgoing.place; incoming = incoming.place })
    else None

-- a row of just these two entries, in whichever order they stand
abbrev pub link_of_entries : PlantData → List Entry → Option Link
link_of_entries plant (first ∷ second ∷ []) = option_or (link_of_pair plant first second) (link_of_pair plant second first)
link_of_entries plant entries = None

-- The link of a node's row. The first node of the task's own entry has none, even where no start leaves the task there.
abbrev pub link_at : PlantData → ℕ → List Columns.Column → ℕ → Option Link
link_at plant task columns node =
    if Columns.is_first_of plant task node then None
    else link_of_entries plant (entries_from (Families.passes plant node).factor 0 columns)

abbrev pub without_links : List Families.Row → List (Option Link)
without_links rows = map (λ row. None) rows

-- one link or none for each row, in the order of the rows
abbrev pub links_of : PlantData → List AbsState → ℕ → List (Option Link)
links_of plant states task =
    let columns = Columns.columns plant states task in
    without_links (Families.one_start ∷ Families.leaving plant states task)
    ++ (map (link_at plant task columns) (range_with_len 0 (length plant.flow.nodes))
    ++ without_links (Families.standing plant states task
    ++ (Families.beginning plant task ++ (Families.going_round plant ++ Families.arriving plant))))
