-- Sizes of sums, differences and products of whole numbers.
use Rattle.std.proofs.Common.{ℕ, ◌+◌, ◌*◌, ◌≤◌, ℤ, pos, ◌+ℤ◌, ◌-ℤ◌, ◌*ℤ◌, mul-le-mul, arith}
use Rattle.std.specs.Prelude.{unsigned_abs}
use Rattle.std.proofs.lemmas.Int.{ints, unsigned_abs-mul}

pub sum-size : (a b : ℤ) (m n : ℕ) → unsigned_abs a ≤ m → unsigned_abs b ≤ n → unsigned_abs (a +ℤ b) ≤ m + n
sum-size a b m n first second = omega (arith, ints)

pub difference-size : (a b : ℤ) (m n : ℕ) → unsigned_abs a ≤ m → unsigned_abs b ≤ n → unsigned_abs (a -ℤ b) ≤ m + n
difference-size a b m n first second = omega (arith, ints)

pub times-size : (k : ℕ) (a : ℤ) (m n : ℕ) → k ≤ m → unsigned_abs a ≤ n → unsigned_abs (pos k *ℤ a) ≤ m * n
times-size k a m n first second = rw (unsigned_abs-mul (pos k) a) (omega (arith, mul-le-mul first second))
