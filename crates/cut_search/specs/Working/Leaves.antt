-- What the parts of a leaf need.
use Rattle.std.specs.Prelude.{ℕ, ◌+◌, List, [], ◌∷◌}
use Rattle.cut_search.specs.declared.limits.Limits.{Limits}
use Rattle.cut_search.specs.Leaves.{row_count}

-- how many rows of a node say its limits
abbrev pub limit_row_count : List Limits → ℕ
limit_row_count [] = 0
limit_row_count (l ∷ limits) = row_count l + limit_row_count limits
