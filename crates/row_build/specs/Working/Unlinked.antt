-- Rows without links.
use Rattle.std.specs.Prelude.{ℕ, List, map, Option, None}
use Rattle.std.specs.List.{range_with_len}
use Rattle.row_squeeze.specs.declared.Link.{Link}

-- that many
abbrev pub nones : ℕ → List (Option Link)
nones count = map (λ number. None) (range_with_len 0 count)
