-- Where the divisor of a combination of two lines is found: in the entries of both at their own basic columns.
use Rattle.std.specs.Prelude.{◌≡◌, ◌≢◌, ℕ, List, ℤ, All, unsigned_abs}
use Rattle.std.specs.Int.{◌∣◌, IsGcd}
use Rattle.whole_rows.specs.Row.{divisor_of}
use Rattle.whole_simplex.specs.declared.line.Line.{Line}
use Rattle.whole_simplex.specs.Tables.{combined, entry}

-- no number but 1 divides all entries of a line
abbrev pub ArePrimitive : List Line → Type 0
ArePrimitive lines = All (λ line. divisor_of line.entries ≡ 1) lines

-- what divides all entries of a combination whose factors have no common divisor divides both lines' own entries
abbrev pub DividesOwnEntries : Line → Line → Type 0
DividesOwnEntries line other =
    (p a : ℤ) (divisor : ℕ) → IsGcd (unsigned_abs p) (unsigned_abs a) 1
    → All (λ x. divisor ∣ unsigned_abs x) (combined p line.entries a other.entries)
    → (divisor ∣ unsigned_abs (entry line.entries line.basic)) × (divisor ∣ unsigned_abs (entry other.entries other.basic))

abbrev pub HaveSharedDivisors : List Line → Type 0
HaveSharedDivisors lines = All (λ line. All (λ other. line.basic ≢ other.basic → DividesOwnEntries line other) lines) lines
