-- What a fault of squeezed rows says of the full ones.
use Rattle.std.specs.Prelude.{◌≡◌, ℕ, List}
use Rattle.whole_simplex.specs.declared.SolveFault.{SolveFault}
use Rattle.whole_simplex.specs.declared.SolveFault.TheVariants.{Unbounded, Memory}
use Rattle.row_squeeze.specs.Lift.{spread}

-- A ray is spread over the columns, any other fault stays. Memory may run out in either case.
abbrev pub IsLiftedFault : List ℕ → SolveFault → SolveFault → Type 0
IsLiftedFault places fault Memory = Unit {0}
IsLiftedFault places (Unbounded ray) (Unbounded full) = full ≡ spread places ray
IsLiftedFault places fault lifted = lifted ≡ fault
