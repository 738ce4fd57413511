-- When sources arrived, as sets of moments.
use Rattle.std.specs.Prelude.{◌≡◌, ℕ, ◌≤◌, nat_eq, true, false, List, length, slice_get, Option, Some, None}
use Rattle.std.specs.BTreeSet.{BTreeSet, contains}
use Rattle.std.specs.List.{list_any}
use Rattle.std.specs.Ordering.{nat_cmp}
use Rattle.osek_machine.specs.Events.{Arrival}
use Rattle.trace_check.specs.Verdict.{moments_of}

-- the set holds these moments, and no other
abbrev pub Holds : BTreeSet ℕ → List ℕ → Type 0
Holds set moments = (moment : ℕ) → contains nat_cmp set moment ≡ list_any (nat_eq moment) moments

-- for each source the moments at which it arrived
pub record AreKept (sets : List (BTreeSet ℕ)) (sources : ℕ) (arrivals : List Arrival) : Type 0 where
  pub count : length sets ≡ sources
  pub each : (source : ℕ) (set : BTreeSet ℕ) → slice_get sets source ≡ Some set → Holds set (moments_of source arrivals)

-- the least of the moments from one on
pub record IsLeastFrom (low : ℕ) (moments : List ℕ) (least : ℕ) : Type 0 where
  pub from : low ≤ least
  pub among : list_any (nat_eq least) moments ≡ true
  pub first : (other : ℕ) → low ≤ other → list_any (nat_eq other) moments ≡ true → least ≤ other

-- it, or none where there is none
abbrev pub IsFirstFrom : ℕ → List ℕ → Option ℕ → Type 0
IsFirstFrom low moments (Some least) = IsLeastFrom low moments least
IsFirstFrom low moments None = (other : ℕ) → low ≤ other → list_any (nat_eq other) moments ≡ false
