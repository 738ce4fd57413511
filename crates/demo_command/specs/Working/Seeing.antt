-- One response after the other.
use Rattle.std.specs.Prelude.{ℕ, max, Bool, cond}

-- what one more response adds to the greatest so far
abbrev pub seen_with : Bool → ℕ → ℕ → ℕ
seen_with counts seen cycles = cond counts (max seen cycles) seen
