-- Whether an arrival is far enough from the newest one of its source.
use Rattle.std.specs.Prelude.{ℕ, nat_le, not, ◌&&◌, Bool, true, Option, Some, None}
use Rattle.osek_machine.specs.Declarations.{gap}

abbrev pub in_time : Bool → ℕ → ℕ → Option ℕ → Bool
in_time once distance moment None = true
in_time once distance moment (Some newest) = not once && nat_le distance (gap moment newest)
