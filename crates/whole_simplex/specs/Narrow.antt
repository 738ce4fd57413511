-- What an elimination within 64 bits makes of a line.
use Rattle.std.specs.Prelude.{◌≡◌, ℕ, ◌^◌, ◌<◌, Bool, true, false, List, ℤ, Option, Some, None}
use Rattle.whole_rows.specs.Rows.{RowsData, row_at, right_at}
use Rattle.whole_simplex.specs.Outcome.{AreNarrow, elimination_pairs}
use Rattle.whole_simplex.specs.Places.{places_of}
use Rattle.whole_simplex.specs.Sizes.{AreWithin}
use Rattle.whole_simplex.specs.Tables.{eliminated, first_line}
use Rattle.whole_simplex.specs.declared.narrow.NarrowPivot.{NarrowPivot}

-- the entries of a row's line in table 0
abbrev pub first_entries : RowsData → ℕ → List ℤ
first_entries d row = (first_line d row (row_at d row) (right_at d row)).entries

pub record IsNarrowPivot (pivot : NarrowPivot) : Type 0 where
  pub places_are : pivot.places.items ≡ places_of pivot.entries.items
  pub within : AreWithin pivot.bound pivot.entries.items
  pub small : pivot.bound < 2 ^ 63

-- the pivot line of these entries
abbrev pub IsPivotOf : List ℤ → NarrowPivot → Type 0
IsPivotOf entries pivot = (pivot.entries.items ≡ entries) × IsNarrowPivot pivot

-- the row is eliminated and within a bound below 2^63, or is as before
abbrev pub BecomesEliminated : ℕ → List ℤ → List ℤ → List ℤ → Option ℕ → Type 0
BecomesEliminated place pivot old new None = new ≡ old
BecomesEliminated place pivot old new (Some bound) = (new ≡ eliminated place pivot old) × AreWithin bound new × (bound < 2 ^ 63)

-- the row is eliminated, where no pair is wide, or is as before
abbrev pub MayEliminate : ℕ → List ℤ → List ℤ → List ℤ → Bool → Type 0
MayEliminate place pivot old new true = (new ≡ eliminated place pivot old) × AreNarrow (elimination_pairs place pivot old)
MayEliminate place pivot old new false = new ≡ old
