-- Limits on the way down the search.
use Rattle.std.specs.Prelude.{◌≡◌, ℕ, ◌<◌, ◌^◌, false, true, List, [], ◌∷◌, length, Option, Some, None, All, is_none}
use Rattle.cut_search.specs.declared.limits.Limits.{Limits}
use Rattle.cut_search.specs.Search.{limits_at}

-- no cut of the column was made
pub record IsFree (l : Limits) : Type 0 where
  pub low : l.low ≡ 0
  pub high : l.high ≡ None

-- columns are cut one after the other: those behind a column without an upper limit weren't cut
abbrev pub AreInOrder : List Limits → Type 0
AreInOrder [] = Unit {0}
AreInOrder (l ∷ limits) = (l.high ≡ None → All IsFree limits) × AreInOrder limits

-- the column has no upper limit, and those before it have one
pub record IsFirstOpen (limits : List Limits) (place : ℕ) : Type 0 where
  pub within : place < length limits
  pub open_there : is_none (limits_at limits place).high ≡ true
  pub closed_before : (k : ℕ) → k < place → is_none (limits_at limits k).high ≡ false

-- an upper limit that isn't large
abbrev pub IsSmallHigh : Option ℕ → Type 0
IsSmallHigh None = Unit {0}
IsSmallHigh (Some high) = high < 2 ^ 31

-- the limits are numbers at which a certificate can cut
pub record HasSmallLimits (l : Limits) : Type 0 where
  pub low : l.low < 2 ^ 31
  pub high : IsSmallHigh l.high
