-- Where a product leaves the range, its factors are a wide pair.
use Rattle.std.proofs.Common.{◌≡◌, not, List, ◌∷◌, ◌++◌, ℤ, ◌*ℤ◌, refl, sym, ap, subst}
use Rattle.whole_rows.specs.Row.{IsInRange}
use Rattle.whole_rows.proofs.Combinations.{is_in_range-yes, is_in_range-no}
use Rattle.whole_rows.specs.declared.row.RowFault.{RowFault}
use Rattle.whole_rows.specs.declared.row.RowFault.TheVariants.{Wide, Memory}
use Rattle.whole_simplex.specs.Faults.{IsFaultOf}
use Rattle.whole_simplex.specs.Outcome.{Pair, Product, AreNarrow}
use Rattle.whole_simplex.proofs.Pairs.{wide_here, wide_there, wide_left, wide_right}

pub product_fault : (a b : ℤ) (rest : List Pair) (fault : RowFault) → fault ≡ Wide a b → (IsInRange (a *ℤ b) → ⊥) → IsFaultOf (Product a b ∷ rest) fault
product_fault a b rest fault e h =
    subst (λ f. IsFaultOf (Product a b ∷ rest) f) (sym e)
    (wide_here (Product a b) rest a b refl (ap not (is_in_range-no (a *ℤ b) h)))

pub product_narrow : (a b : ℤ) (rest : List Pair) → IsInRange (a *ℤ b) → AreNarrow rest → AreNarrow (Product a b ∷ rest)
product_narrow a b rest h k = rw (is_in_range-yes (a *ℤ b) h) k

pub fault_there : (pair : Pair) (rest : List Pair) (fault : RowFault) → IsFaultOf rest fault → IsFaultOf (pair ∷ rest) fault
fault_there pair rest (Wide a b) h = wide_there pair rest a b h
fault_there pair rest Memory h = tt

pub fault_left : (first second : List Pair) (fault : RowFault) → IsFaultOf first fault → IsFaultOf (first ++ second) fault
fault_left first second (Wide a b) h = wide_left first second a b h
fault_left first second Memory h = tt

pub fault_right : (first second : List Pair) (fault : RowFault) → IsFaultOf second fault → IsFaultOf (first ++ second) fault
fault_right first second (Wide a b) h = wide_right first second a b h
fault_right first second Memory h = tt
