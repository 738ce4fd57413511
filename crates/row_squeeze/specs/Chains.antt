-- Chains: columns that links join, one after the other. A chain's head is its column that no link leaves.
use Rattle.std.specs.Prelude.{◌≡◌, ◌≢◌, ℕ, suc, ◌<◌, ◌==◌, cond, List, [], ◌∷◌, ◌++◌, map, length, slice_index, fold, Option, Some, None, refl}
use Rattle.std.specs.List.{range_with_len}
use Rattle.row_squeeze.specs.declared.Link.{Link}
use Rattle.row_squeeze.specs.Links.{HasLink}

-- the heads of all columns, once a link makes one chain of two: the outgoing column's chain gets the head of the other
abbrev pub joined : List ℕ → Option Link → List ℕ
joined heads None = heads
joined heads (Some link) =
    map (λ head. cond (head == slice_index heads link.outgoing) (slice_index heads link.incoming) head) heads

-- for each column the head of its chain; without links each column is a chain of its own
abbrev pub heads_of : ℕ → List (Option Link) → List ℕ
heads_of columns links = fold joined (range_with_len 0 columns) links

-- what heads are: a link's two columns have the same head, and a column that no link leaves is its own head
pub record AreHeads (columns : ℕ) (links : List (Option Link)) (heads : List ℕ) : Type 0 where
  pub counted : length heads ≡ columns
  pub shared : (row : ℕ) (link : Link) → HasLink links row link → slice_index heads link.outgoing ≡ slice_index heads link.incoming
  pub own : (column : ℕ) → column < columns → ((row : ℕ) (link : Link) → HasLink links row link → link.outgoing ≢ column) → slice_index heads column ≡ column

-- the place of a head among heads, their number where it isn't among them
abbrev pub place_of : ℕ → List ℕ → ℕ
place_of head [] = 0
place_of head (other ∷ heads) = cond (other == head) 0 (suc (place_of head heads))

abbrev pub with_head : List ℕ → ℕ → List ℕ
with_head heads head = cond (place_of head heads == length heads) (heads ++ head ∷ []) heads

-- the heads, each once, in the order of the first column of each chain
abbrev pub chain_heads : ℕ → List (Option Link) → List ℕ
chain_heads columns links = fold with_head [] (heads_of columns links)

abbrev pub chain_count : ℕ → List (Option Link) → ℕ
chain_count columns links = length (chain_heads columns links)

-- for each column the place of its chain among the chains
abbrev pub chain_places : ℕ → List (Option Link) → List ℕ
chain_places columns links = map (λ head. place_of head (chain_heads columns links)) (heads_of columns links)

-- ---- a worked case: columns 2, 3 and 4 of six are one chain, whose head is column 2

abbrev pub two_links : List (Option Link)
two_links = None ∷ None ∷ None ∷ Some (record { outgoing = 3; incoming = 2 }) ∷ Some (record { outgoing = 4; incoming = 3 }) ∷ None ∷ None ∷ None ∷ None ∷ []

heads_case : heads_of 6 two_links ≡ 0 ∷ 1 ∷ 2 ∷ 2 ∷ 2 ∷ 5 ∷ []
heads_case = refl

places_case : chain_places 6 two_links ≡ 0 ∷ 1 ∷ 2 ∷ 2 ∷ 2 ∷ 3 ∷ []
places_case = refl
