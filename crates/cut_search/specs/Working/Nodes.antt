-- What the parts of a node's rows need.
use Rattle.std.specs.Prelude.{ℕ, ◌<◌, ◌-◌, List, ◌++◌, length, replicate, ℤ, pos, All}
use Rattle.cut_search.specs.declared.limits.Limits.{Limits}

-- each column that may be cut is below this number
abbrev pub LieWithin : ℕ → List Limits → Type 0
LieWithin columns limits = All (λ l. l.column < columns) limits

-- a row with zeros at its end, so that it has so many entries
abbrev pub padded : ℕ → List ℤ → List ℤ
padded width row = row ++ replicate (width - length row) (pos 0)
