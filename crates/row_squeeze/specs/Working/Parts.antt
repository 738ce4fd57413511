-- What the parts of squeezing and lifting need and give.
use Rattle.std.specs.Prelude.{◌≡◌, ℕ, ◌+◌, ◌<◌, ◌^◌, ◌==◌, cond, List, [], ◌∷◌, ◌++◌, length, ℤ, unsigned_abs, Option, Some, None, All}
use Rattle.whole_rows.specs.Row.{is_zero}
use Rattle.whole_rows.specs.Rows.{RowsData}
use Rattle.whole_rows.specs.declared.Term.{Term}
use Rattle.row_squeeze.specs.declared.Link.{Link}
use Rattle.row_squeeze.specs.declared.chains.Chains.{Chains}
use Rattle.row_squeeze.specs.Links.{HasLink}
use Rattle.row_squeeze.specs.Squeezed.{kept}

-- the links lie between the columns
abbrev pub LieWithin : ℕ → List (Option Link) → Type 0
LieWithin columns links = (row : ℕ) (link : Link) → HasLink links row link → (link.outgoing < columns) × (link.incoming < columns)

-- the row has a link that leaves the column
abbrev pub LeavesAt : List (Option Link) → ℕ → ℕ → Type 0
LeavesAt links row column = (link : Link) × HasLink links row link × (link.outgoing ≡ column)

-- each number is below 2^40 in size
abbrev pub AreShort : List ℤ → Type 0
AreShort xs = All (λ x. unsigned_abs x < 2 ^ 40) xs

-- the entries that aren't 0, each with its column, where the first entry stands in column `column`
abbrev pub terms_from : ℕ → List ℤ → List Term
terms_from column [] = []
terms_from column (x ∷ xs) = cond (is_zero x) (terms_from (column + 1) xs) (record { column = column; entry = x } ∷ terms_from (column + 1) xs)

-- the rows with one more row at the end
abbrev pub one_row_more : RowsData → List ℤ → ℤ → RowsData
one_row_more d row right = record { costs = d.costs; rows = d.rows ++ row ∷ []; rights = d.rights ++ right ∷ [] }

-- a place for each column of the rows, below the number of chains
pub record FitChains (d : RowsData) (chains : Chains) : Type 0 where
  pub counted : length chains.places.items ≡ length d.costs
  pub within : All (λ place. place < chains.count) chains.places.items

-- the rows with one more row at the end, if it has no link
abbrev pub with_unlinked : RowsData → Option Link → List ℤ → ℤ → RowsData
with_unlinked d link row right = record {
  costs = d.costs;
  rows = d.rows ++ kept (link ∷ []) (row ∷ []);
  rights = d.rights ++ kept (link ∷ []) (right ∷ []);
}

-- where the link leads, if it leaves the column
abbrev pub led_from : ℕ → Option Link → Option ℕ
led_from column None = None
led_from column (Some link) = cond (link.outgoing == column) (Some link.incoming) None
