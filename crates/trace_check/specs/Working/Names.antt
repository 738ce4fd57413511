-- Places in two lists, one behind the other.
use Rattle.std.specs.Prelude.{ℕ, ◌+◌, Option, Some, None, option_map}

abbrev pub place_in_both : ℕ → Option ℕ → Option ℕ → Option ℕ
place_in_both count (Some place) second = Some place
place_in_both count None second = option_map (λ place. count + place) second
