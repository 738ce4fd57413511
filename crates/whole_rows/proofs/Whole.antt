-- Whole numbers: distribution of products over sums, and products in order.
use Rattle.std.proofs.Common.{◌≡◌, ℕ, ◌*◌, ◌<◌, ◌≤◌, ℤ, pos, ◌+ℤ◌, ◌-ℤ◌, ◌*ℤ◌, ◌≤ℤ◌, ◌<ℤ◌, ap, ◌^◌, ◌-◌, unsigned_abs, arith}
use Rattle.std.proofs.lemmas.Int.{ints, unsigned_abs-mul}
use borrow.Author.Differences.{up, down, sum_is_lem, product_is, le_out, lt_out}
use Rattle.std.proofs.Math.Nat.{mul-le-mul, mul-le-mul_right, mul-le-mul_left}

pub mul-add : (a b c : ℤ) → a *ℤ (b +ℤ c) ≡ a *ℤ b +ℤ a *ℤ c
mul-add a b c = omega (arith, ints, ap (λ x. up a * x) (sum_is_lem b c), ap (λ x. down a * x) (sum_is_lem b c))

pub add-mul : (a b c : ℤ) → (a +ℤ b) *ℤ c ≡ a *ℤ c +ℤ b *ℤ c
add-mul a b c = omega (arith, ints, ap (λ x. x * up c) (sum_is_lem a b), ap (λ x. x * down c) (sum_is_lem a b))

pub mul_assoc : (a b c : ℤ) → (a *ℤ b) *ℤ c ≡ a *ℤ (b *ℤ c)
mul_assoc a b c =
    omega (arith, ints, ap (λ x. x * up c) (product_is a b).0, ap (λ x. x * down c) (product_is a b).0, ap (λ x. x * up c) (product_is a b).1, ap (λ x. x * down c) (product_is a b).1, ap (λ x. up a * x) (product_is b c).0, ap (λ x. down a * x) (product_is b c).0, ap (λ x. up a * x) (product_is b c).1, ap (λ x. down a * x) (product_is b c).1)

pub add-add_comm : (a b c d : ℤ) → (a +ℤ b) +ℤ (c +ℤ d) ≡ (a +ℤ c) +ℤ (b +ℤ d)
add-add_comm a b c d = omega (arith, ints)

pub add-le-add : (a b c d : ℤ) → a ≤ℤ b → c ≤ℤ d → (a +ℤ c) ≤ℤ (b +ℤ d)
add-le-add a b c d h k = omega (arith, ints)

pub mul-le-mul_nat : (a b : ℤ) (n : ℕ) → a ≤ℤ b → (a *ℤ pos n) ≤ℤ (b *ℤ pos n)
mul-le-mul_nat a b n h = omega (arith, ints, mul-le-mul_right n (le_out a b h))

pub nat-mul-le-mul : (a b : ℤ) (n : ℕ) → a ≤ℤ b → (pos n *ℤ a) ≤ℤ (pos n *ℤ b)
nat-mul-le-mul a b n h = omega (arith, ints, mul-le-mul_left n (le_out a b h))

-- products by a number above 0 keep what is below below
pub nat-mul-lt-mul : (a b : ℤ) (n : ℕ) → 0 < n → a <ℤ b → (pos n *ℤ a) <ℤ (pos n *ℤ b)
nat-mul-lt-mul a b n p h = omega (arith, ints, mul-le-mul_left n (lt_out a b h))

-- the product of two numbers of 64 bits
pub narrow_product_size : (a b : ℤ) → unsigned_abs a < 2 ^ 63 → unsigned_abs b < 2 ^ 63 → unsigned_abs (a *ℤ b) < 2 ^ 126
narrow_product_size a b h k =
    let one : unsigned_abs a ≤ 2 ^ 63 - 1 = omega arith in
    let other : unsigned_abs b ≤ 2 ^ 63 - 1 = omega arith in
    rw unsigned_abs-mul (omega (arith, mul-le-mul one other))

-- and the difference of two such products
pub difference_size : (a b : ℤ) → unsigned_abs a < 2 ^ 126 → unsigned_abs b < 2 ^ 126 → unsigned_abs (a -ℤ b) < 2 ^ 127
difference_size a b h k = omega (arith, ints)
