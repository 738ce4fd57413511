-- Links: rows that hold one column to at most another, and say nothing else.
use Rattle.std.specs.Prelude.{◌≡◌, ◌≢◌, ℕ, ◌<◌, List, length, get_or, pos, negsuc, ◌≤ℤ◌, Option, Some, None}
use Rattle.whole_rows.specs.Rows.{RowsData, entry_at, cost_at, right_at}
use Rattle.row_squeeze.specs.declared.Link.{Link}

-- the row has that link
abbrev pub HasLink : List (Option Link) → ℕ → Link → Type 0
HasLink links row link = get_or links row None ≡ Some link

-- the row says that the outgoing column is at most the incoming one: 1 at the first, -1 at the second, 0 at every other
-- column, and the right side 0. The outgoing column costs nothing below 0, and no other row holds it back
pub record IsLinkRow (d : RowsData) (row : ℕ) (link : Link) : Type 0 where
  pub outgoing_exists : link.outgoing < length d.costs
  pub incoming_exists : link.incoming < length d.costs
  pub outgoing_entry : entry_at d row link.outgoing ≡ pos 1
  pub incoming_entry : entry_at d row link.incoming ≡ negsuc 0
  pub no_other_entry : (column : ℕ) → column ≢ link.outgoing → column ≢ link.incoming → entry_at d row column ≡ pos 0
  pub right_side : right_at d row ≡ pos 0
  pub outgoing_cost : pos 0 ≤ℤ cost_at d link.outgoing
  pub other_rows : (other : ℕ) → other ≢ row → entry_at d other link.outgoing ≤ℤ pos 0

-- links, one or none for each row, that join columns to chains: each leads from a column of its own into a column of its
-- own, and no chain comes back to where it began, since a rank falls along each link
pub record AreLinks (d : RowsData) (links : List (Option Link)) : Type 0 where
  pub counted : length links ≡ length d.rows
  pub each : (row : ℕ) (link : Link) → HasLink links row link → IsLinkRow d row link
  pub one_outgoing : (row other : ℕ) (a b : Link) → HasLink links row a → HasLink links other b → a.outgoing ≡ b.outgoing → row ≡ other
  pub one_incoming : (row other : ℕ) (a b : Link) → HasLink links row a → HasLink links other b → a.incoming ≡ b.incoming → row ≡ other
  pub rank : ℕ → ℕ
  pub rank_falls : (row : ℕ) (link : Link) → HasLink links row link → rank link.incoming < rank link.outgoing
