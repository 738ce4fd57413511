-- Rows with each chain of columns made one column: the rows of links are left out, and costs and entries are summed.
use Rattle.std.specs.Prelude.{◌≡◌, ℕ, ◌==◌, cond, List, [], ◌∷◌, map, length, ℤ, pos, negsuc, Option, Some, None, refl}
use Rattle.std.specs.List.{range_with_len}
use Rattle.whole_rows.specs.Rows.{RowsData, product_sum}
use Rattle.row_squeeze.specs.declared.Link.{Link}
use Rattle.row_squeeze.specs.declared.Squeezed.{Squeezed}
use Rattle.row_squeeze.specs.Links.{AreLinks}
use Rattle.row_squeeze.specs.Chains.{chain_count, chain_places, two_links}

-- 1 at each column of the chain at that place, 0 at every other column
abbrev pub members : List ℕ → ℕ → List ℕ
members places place = map (λ other. cond (other == place) 1 0) places

-- for each chain the sum over its columns
abbrev pub merged : ℕ → List ℕ → List ℤ → List ℤ
merged count places xs = map (λ place. product_sum xs (members places place)) (range_with_len 0 count)

-- what stands at the rows without a link, one thing for each row
abbrev pub kept : {A : Type 0} → List (Option Link) → List A → List A
kept [] xs = []
kept (link ∷ links) [] = []
kept (None ∷ links) (x ∷ xs) = x ∷ kept links xs
kept (Some link ∷ links) (x ∷ xs) = kept links xs

-- each chain is one column, in the order of the first column of each chain
abbrev pub squeezed_of : RowsData → List (Option Link) → RowsData
squeezed_of d links =
    let columns = length d.costs in
    let merge = merged (chain_count columns links) (chain_places columns links) in
    record { costs = merge d.costs; rows = map merge (kept links d.rows); rights = kept links d.rights }

abbrev pub kept_rows_of : List (Option Link) → List ℕ
kept_rows_of links = kept links (range_with_len 0 (length links))

-- the squeezed rows, for each full column the place of its chain, and for each squeezed row the full row that it was
pub record IsSqueezed (d : RowsData) (links : List (Option Link)) (squeezed : Squeezed) : Type 0 where
  pub rows : squeezed.rows ≡ squeezed_of d links
  pub column_of : squeezed.column_of ≡ chain_places (length d.costs) links
  pub kept_rows : squeezed.kept_rows ≡ kept_rows_of links

-- they are the squeezed rows for some links of the rows
abbrev pub IsSqueezedByLinks : RowsData → Squeezed → Type 0
IsSqueezedByLinks d squeezed = (links : List (Option Link)) × AreLinks d links × IsSqueezed d links squeezed

-- ---- a worked case: a start, a service of cost 10, three edges of cost 1 one after the other, and an entry

abbrev pub straight : RowsData
straight = record {
  costs = pos 0 ∷ pos 10 ∷ pos 1 ∷ pos 1 ∷ pos 1 ∷ pos 0 ∷ [];
  rows = (pos 1 ∷ pos 0 ∷ pos 0 ∷ pos 0 ∷ pos 0 ∷ pos 0 ∷ [])
      ∷ (negsuc 0 ∷ pos 1 ∷ pos 0 ∷ pos 0 ∷ pos 0 ∷ pos 0 ∷ [])
      ∷ (pos 0 ∷ pos 0 ∷ pos 1 ∷ pos 0 ∷ pos 0 ∷ negsuc 0 ∷ [])
      ∷ (pos 0 ∷ pos 0 ∷ negsuc 0 ∷ pos 1 ∷ pos 0 ∷ pos 0 ∷ [])
      ∷ (pos 0 ∷ pos 0 ∷ pos 0 ∷ negsuc 0 ∷ pos 1 ∷ pos 0 ∷ [])
      ∷ (pos 0 ∷ pos 1 ∷ pos 0 ∷ pos 0 ∷ negsuc 0 ∷ pos 0 ∷ [])
      ∷ (negsuc 0 ∷ pos 0 ∷ pos 0 ∷ pos 0 ∷ pos 0 ∷ pos 1 ∷ [])
      ∷ (negsuc 0 ∷ pos 0 ∷ pos 0 ∷ pos 0 ∷ pos 0 ∷ pos 1 ∷ [])
      ∷ (negsuc 0 ∷ pos 0 ∷ pos 0 ∷ pos 0 ∷ pos 0 ∷ pos 1 ∷ [])
      ∷ [];
  rights = pos 1 ∷ pos 0 ∷ pos 0 ∷ pos 0 ∷ pos 0 ∷ pos 0 ∷ pos 0 ∷ pos 0 ∷ pos 0 ∷ [];
}

squeezed_case : squeezed_of straight two_links ≡ record {
  costs = pos 0 ∷ pos 10 ∷ pos 3 ∷ pos 0 ∷ [];
  rows = (pos 1 ∷ pos 0 ∷ pos 0 ∷ pos 0 ∷ [])
      ∷ (negsuc 0 ∷ pos 1 ∷ pos 0 ∷ pos 0 ∷ [])
      ∷ (pos 0 ∷ pos 0 ∷ pos 1 ∷ negsuc 0 ∷ [])
      ∷ (pos 0 ∷ pos 1 ∷ negsuc 0 ∷ pos 0 ∷ [])
      ∷ (negsuc 0 ∷ pos 0 ∷ pos 0 ∷ pos 1 ∷ [])
      ∷ (negsuc 0 ∷ pos 0 ∷ pos 0 ∷ pos 1 ∷ [])
      ∷ (negsuc 0 ∷ pos 0 ∷ pos 0 ∷ pos 1 ∷ [])
      ∷ [];
  rights = pos 1 ∷ pos 0 ∷ pos 0 ∷ pos 0 ∷ pos 0 ∷ pos 0 ∷ pos 0 ∷ [];
}
squeezed_case = refl

kept_case : kept_rows_of two_links ≡ 0 ∷ 1 ∷ 2 ∷ 5 ∷ 6 ∷ 7 ∷ 8 ∷ []
kept_case = refl
