-- A row is a number above 0 times its primitive row.
use Rattle.std.proofs.Common.{◌≡◌, ◌≢◌, ℕ, zero, suc, ◌*◌, ◌/◌, ◌%◌, ◌<◌, List, [], ◌∷◌, map, length, get_or, ℤ, pos, negsuc, ◌*ℤ◌, neg_ℤ, refl, sym, ap, ◌∙◌, subst, arith}
use Rattle.std.specs.Prelude.{unsigned_abs, int_div}
use Rattle.std.specs.Int.{IsGcd, ◌∣◌}
use Rattle.std.proofs.lemmas.Int.{ints}
use Rattle.std.proofs.lemmas.Nat.Gcd.{IsGcd-from_mod, IsGcd-from_zero, dvd_trans, mod-eq-zero_of_dvd, le_of_dvd}
use Rattle.std.proofs.Math.Nat.{eq-zero_of_zero-dvd}
use Rattle.std.proofs.Math.IntN.{zero-*ℤ, suc_ℤ-*ℤ}
use Rattle.whole_simplex.proofs.Integers.{mul_neg}
use Rattle.whole_rows.specs.Row.{IsInRange, gcd_within, nat_gcd, divisor_of, divided_by, primitive_of}

gcd_within-is : (steps x y : ℕ) → y < steps → IsGcd x y (gcd_within steps x y)
unfolding gcd_within
gcd_within-is zero x y h = absurd (omega arith)
gcd_within-is (suc steps) x zero h = IsGcd-from_zero x 0 refl
gcd_within-is (suc steps) x (suc y) h = IsGcd-from_mod x (suc y) _ (gcd_within-is steps (suc y) (x % suc y) (omega arith))

pub nat_gcd-is : (x y : ℕ) → IsGcd x y (nat_gcd x y)
nat_gcd-is x y = gcd_within-is (suc y) x y (omega arith)

-- each entry of a row is a multiple of a number
abbrev pub AreMultiples : ℕ → List ℤ → Type 0
AreMultiples g [] = Unit {0}
AreMultiples g (x ∷ row) = (g ∣ unsigned_abs x) × AreMultiples g row

multiples_of_divisor : (g h : ℕ) (row : List ℤ) → g ∣ h → AreMultiples h row → AreMultiples g row
multiples_of_divisor g h [] d m = tt
multiples_of_divisor g h (x ∷ row) d m = (dvd_trans g d m.0, multiples_of_divisor g h row d m.1)

pub divisor_divides : (row : List ℤ) → AreMultiples (divisor_of row) row
divisor_divides [] = tt
divisor_divides (x ∷ row) =
    let g = nat_gcd-is (unsigned_abs x) (divisor_of row) in
    (g.0, multiples_of_divisor (divisor_of (x ∷ row)) (divisor_of row) row g.1 (divisor_divides row))

pub whole_quotient : (n a : ℕ) → suc n ∣ a → suc n * (a / suc n) ≡ a
whole_quotient n a d =
    let none : a % suc n ≡ 0 = mod-eq-zero_of_dvd (suc n) d in
    omega arith

pub divided_entry : (n : ℕ) (x : ℤ) → suc n ∣ unsigned_abs x → pos (suc n) *ℤ int_div x (pos (suc n)) ≡ x
divided_entry n (pos a) d = ap pos (whole_quotient n a d)
divided_entry n (negsuc a) d =
    mul_neg (pos (suc n)) (pos (suc a / suc n)) ∙ ap (λ k. neg_ℤ (pos k)) (whole_quotient n (suc a) d)

pub scaled_back : (n : ℕ) (row : List ℤ) → AreMultiples (suc n) row → map (λ x. pos (suc n) *ℤ x) (divided_by (suc n) row) ≡ row
scaled_back n [] m = refl
scaled_back n (x ∷ row) m = cc (divided_entry n x m.0, scaled_back n row m.1)

pub one_times : (x : ℤ) → pos 1 *ℤ x ≡ x
one_times x = omega (arith, ints, suc_ℤ-*ℤ (pos 0) x, zero-*ℤ x)

one_times_row : (row : List ℤ) → map (λ x. pos 1 *ℤ x) row ≡ row
one_times_row [] = refl
one_times_row (x ∷ row) = cc (one_times x, one_times_row row)

multiple_back : (d : ℕ) (row : List ℤ) → AreMultiples d row → (g : ℕ) × (map (λ x. pos (suc g) *ℤ x) (divided_by d row) ≡ row)
multiple_back zero row m = (0, one_times_row row)
multiple_back (suc n) row m = (n, scaled_back n row m)

-- the row is `suc g` times its primitive row
pub primitive_back : (row : List ℤ) → (g : ℕ) × (map (λ x. pos (suc g) *ℤ x) (primitive_of row) ≡ row)
primitive_back row = multiple_back (divisor_of row) row (divisor_divides row)

-- ---- a row whose entries have no divisor but 1

pub divides_entry : (row : List ℤ) (k : ℕ) (d : ℤ) → k < length row → divisor_of row ∣ unsigned_abs (get_or row k d)
divides_entry row k d h = entry_of_multiples (divisor_of row) row k d (divisor_divides row) h
  where
    entry_of_multiples : (g : ℕ) (row : List ℤ) (k : ℕ) (d : ℤ) → AreMultiples g row → k < length row → g ∣ unsigned_abs (get_or row k d)
    entry_of_multiples g [] k d m h = absurd (omega arith)
    entry_of_multiples g (x ∷ row) zero d m h = m.0
    entry_of_multiples g (x ∷ row) (suc k) d m h = entry_of_multiples g row k d m.1 (omega arith)

pub one_from : (g : ℕ) → g ∣ 1 → g ≡ 1
one_from zero d = (let none : ◌≡◌ {A = ℕ} 1 0 = eq-zero_of_zero-dvd d in absurd (omega (arith, none)))
one_from (suc g) d = (let above : 0 < 1 = omega arith in omega (arith, le_of_dvd above d))

pub one_is_primitive : (row : List ℤ) → divisor_of row ∣ 1 → primitive_of row ≡ row
one_is_primitive row d =
    let one : divisor_of row ≡ 1 = one_from (divisor_of row) d in
    let all : AreMultiples 1 row = subst (λ n. AreMultiples n row) one (divisor_divides row) in
    ap (λ n. divided_by n row) one ∙ sym (one_times_row (divided_by 1 row)) ∙ scaled_back 0 row all

-- what divides an entry and a divisor divides what they share
pub shared_more : (row : List ℤ) (k : ℕ) (x divisor new : ℤ) → k < length row → x ≡ get_or row k (pos 0) → ((d : ℕ) → d ∣ unsigned_abs x → d ∣ unsigned_abs divisor → d ∣ unsigned_abs new) → divisor_of row ∣ unsigned_abs divisor → divisor_of row ∣ unsigned_abs new
shared_more row k x divisor new h at_x shares before =
    shares (divisor_of row) (subst (λ y. divisor_of row ∣ unsigned_abs y) (sym at_x) (divides_entry row k (pos 0) h)) before

-- a divisor of a number in range that isn't 0 is in range
pub divisor_in_range : (x : ℤ) (g : ℕ) → x ≢ pos 0 → IsInRange x → g ∣ unsigned_abs x → IsInRange (pos g)
divisor_in_range (pos zero) g h r d = absurd (h refl)
divisor_in_range (pos (suc n)) g h r d = (let above : 0 < suc n = omega arith in omega (arith, le_of_dvd above d))
divisor_in_range (negsuc n) g h r d = (let above : 0 < suc n = omega arith in omega (arith, le_of_dvd above d))
