-- Lists, beside std's lemmas.
use Rattle.std.proofs.Common.{◌≡◌, ℕ, ◌≤◌, Bool, cond, List, length, Some, None, arith}
use Rattle.std.specs.Prelude.{nat_lt, unwrap_or, position}
use Rattle.std.specs.List.{position_or_len}
use Rattle.std.proofs.lemmas.Bool.Decides.{nat_tests}
use Rattle.std.proofs.lemmas.List.Sums.{prefix_len-le-length}

at_most : (m n : ℕ) → m ≤ n → unwrap_or (cond (nat_lt m n) (Some m) None) n ≡ m
at_most m n le = grind (arith, nat_tests)

-- the first place, or the length
pub position_or_length : {X : Type 0} (p : X → Bool) (xs : List X) → unwrap_or (position p xs) (length xs) ≡ position_or_len p xs
position_or_length p xs = at_most (position_or_len p xs) (length xs) (prefix_len-le-length _ xs)
