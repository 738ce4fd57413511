-- Rows whose entries are bounded in size, and the entries that are kept in one of two forms.
use Rattle.std.specs.Prelude.{ℕ, ◌^◌, ◌<◌, ◌≤◌, List, ℤ, pos, negsuc, neg_ℤ, unsigned_abs, All, Option, Some, None}

-- no entry exceeds the bound in size
abbrev pub AreWithin : ℕ → List ℤ → Type 0
AreWithin bound row = All (λ x. unsigned_abs x ≤ bound) row

-- each entry is below 2^63 in size
abbrev pub AreSmall : List ℤ → Type 0
AreSmall row = All (λ x. unsigned_abs x < 2 ^ 63) row

-- the wide entries, where there are any
abbrev pub entries_of : List ℤ → Option (List ℤ) → List ℤ
entries_of narrow (Some wide) = wide
entries_of narrow None = narrow

-- the number of that size with the sign of another number
abbrev pub with_sign : ℕ → ℤ → ℤ
with_sign size (pos n) = pos size
with_sign size (negsuc n) = neg_ℤ (pos size)
