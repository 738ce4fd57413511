-- Laws of whole numbers that the checker's arithmetic lacks: products over sums, signs and orders.
use Rattle.std.proofs.Common.{◌≡◌, ℕ, zero, suc, ℤ, pos, negsuc, ◌+ℤ◌, ◌-ℤ◌, neg_ℤ, ◌≤ℤ◌, ◌<ℤ◌, sym, ap, ◌∙◌, arith}
use Rattle.std.proofs.Math.IntN.{◌*ℤ◌, *ℤ_comm, *ℤ-zero, zero-*ℤ, suc_ℤ-*ℤ, pred_ℤ-*ℤ}
use Rattle.std.proofs.lemmas.Int.{ints, by_lt_z}

-- a sum as the second factor
pub mul_add : (a b c : ℤ) → a *ℤ (b +ℤ c) ≡ a *ℤ b +ℤ a *ℤ c
mul_add (pos zero) b c = omega (arith, ints, zero-*ℤ (b +ℤ c), zero-*ℤ b, zero-*ℤ c)
mul_add (pos (suc n)) b c =
    omega (arith, ints, suc_ℤ-*ℤ (pos n) (b +ℤ c), suc_ℤ-*ℤ (pos n) b, suc_ℤ-*ℤ (pos n) c, mul_add (pos n) b c)
mul_add (negsuc zero) b c =
    omega (arith, ints, pred_ℤ-*ℤ (pos zero) (b +ℤ c), pred_ℤ-*ℤ (pos zero) b, pred_ℤ-*ℤ (pos zero) c, zero-*ℤ (b +ℤ c), zero-*ℤ b, zero-*ℤ c)
mul_add (negsuc (suc n)) b c =
    omega (arith, ints, pred_ℤ-*ℤ (negsuc n) (b +ℤ c), pred_ℤ-*ℤ (negsuc n) b, pred_ℤ-*ℤ (negsuc n) c, mul_add (negsuc n) b c)

-- a sum as the first factor
pub add_mul : (a b c : ℤ) → (a +ℤ b) *ℤ c ≡ a *ℤ c +ℤ b *ℤ c
add_mul a b c = omega (arith, ints, *ℤ_comm (a +ℤ b) c, *ℤ_comm a c, *ℤ_comm b c, mul_add c a b)

pub mul_neg : (a b : ℤ) → a *ℤ neg_ℤ b ≡ neg_ℤ (a *ℤ b)
mul_neg a b =
    let none : b +ℤ neg_ℤ b ≡ pos 0 = omega (arith, ints) in
    omega (arith, ints, mul_add a b (neg_ℤ b), ap (λ x. a *ℤ x) none, *ℤ-zero a)

pub neg_mul : (a b : ℤ) → neg_ℤ a *ℤ b ≡ neg_ℤ (a *ℤ b)
neg_mul a b = omega (arith, ints, *ℤ_comm (neg_ℤ a) b, *ℤ_comm a b, mul_neg b a)

pub mul_sub : (a b c : ℤ) → a *ℤ (b -ℤ c) ≡ a *ℤ b -ℤ a *ℤ c
mul_sub a b c = omega (arith, ints, mul_add a b (neg_ℤ c), mul_neg a c)

pub sub_mul : (a b c : ℤ) → (a -ℤ b) *ℤ c ≡ a *ℤ c -ℤ b *ℤ c
sub_mul a b c = omega (arith, ints, add_mul a (neg_ℤ b) c, neg_mul b c)

zero_assoc : (b c : ℤ) → (pos zero *ℤ b) *ℤ c ≡ pos zero *ℤ (b *ℤ c)
zero_assoc b c = ap (λ x. x *ℤ c) (zero-*ℤ b) ∙ zero-*ℤ c ∙ sym (zero-*ℤ (b *ℤ c))

pub mul_assoc : (a b c : ℤ) → (a *ℤ b) *ℤ c ≡ a *ℤ (b *ℤ c)
mul_assoc (pos zero) b c = zero_assoc b c
mul_assoc (pos (suc n)) b c =
    ap (λ x. x *ℤ c) (suc_ℤ-*ℤ (pos n) b)
    ∙ add_mul (pos n *ℤ b) b c
    ∙ ap (λ x. x +ℤ b *ℤ c) (mul_assoc (pos n) b c)
    ∙ sym (suc_ℤ-*ℤ (pos n) (b *ℤ c))
mul_assoc (negsuc zero) b c =
    ap (λ x. x *ℤ c) (pred_ℤ-*ℤ (pos zero) b)
    ∙ sub_mul (pos zero *ℤ b) b c
    ∙ ap (λ x. x -ℤ b *ℤ c) (zero_assoc b c)
    ∙ sym (pred_ℤ-*ℤ (pos zero) (b *ℤ c))
mul_assoc (negsuc (suc n)) b c =
    ap (λ x. x *ℤ c) (pred_ℤ-*ℤ (negsuc n) b)
    ∙ sub_mul (negsuc n *ℤ b) b c
    ∙ ap (λ x. x -ℤ b *ℤ c) (mul_assoc (negsuc n) b c)
    ∙ sym (pred_ℤ-*ℤ (negsuc n) (b *ℤ c))

-- the first two of three factors change places
pub mul_swap : (a b c : ℤ) → a *ℤ (b *ℤ c) ≡ b *ℤ (a *ℤ c)
mul_swap a b c = sym (mul_assoc a b c) ∙ ap (λ x. x *ℤ c) (*ℤ_comm a b) ∙ mul_assoc b a c

mul_pos : (n : ℕ) (b c : ℤ) → b ≤ℤ c → (pos n *ℤ b) ≤ℤ (pos n *ℤ c)
mul_pos zero b c h = omega (arith, ints, zero-*ℤ b, zero-*ℤ c)
mul_pos (suc n) b c h = omega (arith, ints, suc_ℤ-*ℤ (pos n) b, suc_ℤ-*ℤ (pos n) c, mul_pos n b c h)

-- a factor that is not negative keeps the order
pub mul_le : (a b c : ℤ) → pos 0 ≤ℤ a → b ≤ℤ c → (a *ℤ b) ≤ℤ (a *ℤ c)
mul_le (pos n) b c h k = mul_pos n b c k
mul_le (negsuc n) b c h k = absurd (omega (arith, ints))

mul_pos_lt : (n : ℕ) (b c : ℤ) → b <ℤ c → (pos (suc n) *ℤ b) <ℤ (pos (suc n) *ℤ c)
mul_pos_lt zero b c h = omega (arith, ints, suc_ℤ-*ℤ (pos zero) b, suc_ℤ-*ℤ (pos zero) c, zero-*ℤ b, zero-*ℤ c)
mul_pos_lt (suc n) b c h = omega (arith, ints, suc_ℤ-*ℤ (pos (suc n)) b, suc_ℤ-*ℤ (pos (suc n)) c, mul_pos_lt n b c h)

-- a factor above 0 keeps the strict order
pub mul_lt : (a b c : ℤ) → pos 0 <ℤ a → b <ℤ c → (a *ℤ b) <ℤ (a *ℤ c)
mul_lt (pos zero) b c h k = absurd (omega (arith, ints))
mul_lt (pos (suc n)) b c h k = mul_pos_lt n b c k
mul_lt (negsuc n) b c h k = absurd (omega (arith, ints))

pub mul_not_negative : (a b : ℤ) → pos 0 ≤ℤ a → pos 0 ≤ℤ b → pos 0 ≤ℤ (a *ℤ b)
mul_not_negative a b h k = omega (arith, ints, mul_le a (pos 0) b h k, *ℤ-zero a)

pub mul_positive : (a b : ℤ) → pos 0 <ℤ a → pos 0 <ℤ b → pos 0 <ℤ (a *ℤ b)
mul_positive a b h k = omega (arith, ints, mul_lt a (pos 0) b h k, *ℤ-zero a)

pub mul_not_positive : (a b : ℤ) → pos 0 ≤ℤ a → b ≤ℤ pos 0 → (a *ℤ b) ≤ℤ pos 0
mul_not_positive a b h k = omega (arith, ints, mul_le a b (pos 0) h k, *ℤ-zero a)

-- a factor above 0 can be taken off both sides
pub le_of_mul : (a b c : ℤ) → pos 0 <ℤ a → (a *ℤ b) ≤ℤ (a *ℤ c) → b ≤ℤ c
le_of_mul a b c h k = by_lt_z c b (λ (less : c <ℤ b). absurd (omega (arith, ints, mul_lt a c b h less))) (λ (done : b ≤ℤ c). done)

pub lt_of_mul : (a b c : ℤ) → pos 0 <ℤ a → (a *ℤ b) <ℤ (a *ℤ c) → b <ℤ c
lt_of_mul a b c h k =
    let weak : pos 0 ≤ℤ a = omega (arith, ints) in
    by_lt_z b c (λ (done : b <ℤ c). done) (λ (more : c ≤ℤ b). absurd (omega (arith, ints, mul_le a c b weak more)))

pub same_of_mul : (a b c : ℤ) → pos 0 <ℤ a → a *ℤ b ≡ a *ℤ c → b ≡ c
same_of_mul a b c h e =
    let there : b ≤ℤ c = le_of_mul a b c h (omega (arith, ints, e)) in
    let back : c ≤ℤ b = le_of_mul a c b h (omega (arith, ints, e)) in
    omega (arith, ints)

-- the sign of a number shows in a product with a factor above 0
pub not_negative_of_mul : (a b : ℤ) → pos 0 <ℤ a → pos 0 ≤ℤ (a *ℤ b) → pos 0 ≤ℤ b
not_negative_of_mul a b h k = le_of_mul a (pos 0) b h (omega (arith, ints, *ℤ-zero a))

pub positive_of_mul : (a b : ℤ) → pos 0 <ℤ a → pos 0 <ℤ (a *ℤ b) → pos 0 <ℤ b
positive_of_mul a b h k = lt_of_mul a (pos 0) b h (omega (arith, ints, *ℤ-zero a))

pub not_positive_of_mul : (a b : ℤ) → pos 0 <ℤ a → (a *ℤ b) ≤ℤ pos 0 → b ≤ℤ pos 0
not_positive_of_mul a b h k = le_of_mul a b (pos 0) h (omega (arith, ints, *ℤ-zero a))

pub zero_of_mul : (a b : ℤ) → pos 0 <ℤ a → a *ℤ b ≡ pos 0 → b ≡ pos 0
zero_of_mul a b h e = same_of_mul a b (pos 0) h (e ∙ sym (*ℤ-zero a))

pub le_of_lt : (a : ℤ) → pos 0 <ℤ a → pos 0 ≤ℤ a
le_of_lt a h = omega (arith, ints)
