-- What squeezing keeps: the values that points reach.
use Rattle.std.specs.Prelude.{◌≡◌, ℕ, List, map, length, slice_index, ◌≤ℤ◌, Option}
use Rattle.whole_rows.specs.Rows.{RowsData, cost_of}
use Rattle.whole_rows.specs.Greatest.{IsPoint}
use Rattle.row_squeeze.specs.declared.Link.{Link}
use Rattle.row_squeeze.specs.Chains.{chain_places, chain_heads}
use Rattle.row_squeeze.specs.Squeezed.{squeezed_of}

-- for each full column the value of its chain
abbrev pub full_point : ℕ → List (Option Link) → List ℕ → List ℕ
full_point columns links v = map (slice_index v) (chain_places columns links)

-- for each chain the value of its head
abbrev pub squeezed_point : ℕ → List (Option Link) → List ℕ → List ℕ
squeezed_point columns links u = map (slice_index u) (chain_heads columns links)

-- a point of the squeezed rows gives a point of the full rows with the same value
abbrev pub GivesFullPoints : RowsData → List (Option Link) → Type 0
GivesFullPoints d links =
    (v : List ℕ) (k : ℕ) → IsPoint (squeezed_of d links) v k
    → IsPoint d (full_point (length d.costs) links v) k × (cost_of d (full_point (length d.costs) links v) ≡ cost_of (squeezed_of d links) v)

-- a point of the full rows gives a point of the squeezed rows whose value is no less
abbrev pub GivesSqueezedPoints : RowsData → List (Option Link) → Type 0
GivesSqueezedPoints d links =
    (u : List ℕ) (k : ℕ) → IsPoint d u k
    → IsPoint (squeezed_of d links) (squeezed_point (length d.costs) links u) k × (cost_of d u ≤ℤ cost_of (squeezed_of d links) (squeezed_point (length d.costs) links u))
