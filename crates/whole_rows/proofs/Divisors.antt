-- Greatest common divisors of numbers and of rows.
use Rattle.std.proofs.Common.{◌≡◌, ℕ, zero, suc, ◌+◌, ◌/◌, ◌%◌, ◌<◌, ◌≤◌, List, [], ◌∷◌, ◌++◌, Some, map, length, get_or, take, ℤ, pos, negsuc, neg_ℤ, unsigned_abs, int_div, refl, All, arith}
use Rattle.std.proofs.lemmas.Nat.Gcd.{IsGcd-from_zero, IsGcd-from_mod, same_from_IsGcd, dvd-zero, dvd_trans, dvd_antisymm, dvd_refl}
use Rattle.std.proofs.lemmas.List.Elements.{All-nil, All-cons, All-head, All-tail, All-weaker, All-take, All-push, All-pop, All-map}
use Rattle.std.proofs.lemmas.List.{take_more}
use Rattle.std.proofs.lemmas.Int.{ints}
use Rattle.std.proofs.Math.Nat.{one-dvd}
use Rattle.std.specs.Int.{IsGcd}
use Prim.Native.Nat.{◌∣◌}
use native.Mathlib.Nat.{div-le_self}
use borrow.Author.Differences.{neg_is, abs_is}
use Rattle.whole_rows.specs.Row.{IsInRange, AreInRange, gcd_within, nat_gcd, divisor_of, divided_by}

gcd_within_is : (steps x y : ℕ) → y < steps → IsGcd x y (gcd_within steps x y)
unfolding gcd_within
gcd_within_is zero x y h = absurd (omega arith)
gcd_within_is (suc steps) x zero h = IsGcd-from_zero x 0 refl
gcd_within_is (suc steps) x (suc y) h =
    IsGcd-from_mod x (suc y) (gcd_within steps (suc y) (x % suc y)) (gcd_within_is steps (suc y) (x % suc y) (omega arith))

-- what is computed is the greatest common divisor
pub nat_gcd_is : (x y : ℕ) → IsGcd x y (nat_gcd x y)
nat_gcd_is x y = gcd_within_is (suc y) x y (omega arith)

pub same-nat_gcd : (x y g : ℕ) → IsGcd x y g → g ≡ nat_gcd x y
same-nat_gcd x y g h = same_from_IsGcd x y g (nat_gcd x y) h (nat_gcd_is x y)

-- a number divides every entry
abbrev pub DividesAll : ℕ → List ℤ → Type 0
DividesAll d row = All (λ x. d ∣ unsigned_abs x) row

-- g is the greatest common divisor of all entries
pub record IsDivisorOf (row : List ℤ) (g : ℕ) : Type 0 where
  pub divides : DividesAll g row
  pub greatest : (d : ℕ) → DividesAll d row → d ∣ g

pub IsDivisorOf-none : IsDivisorOf [] 0
IsDivisorOf-none = record { divides = All-nil (λ x. 0 ∣ unsigned_abs x); greatest = λ d h. dvd-zero d }

-- what is computed is the greatest common divisor of all entries
pub divisor_of_is : (row : List ℤ) → IsDivisorOf row (divisor_of row)
divisor_of_is [] = IsDivisorOf-none
divisor_of_is (x ∷ row) =
    let rest = divisor_of_is row in
    let both = nat_gcd_is (unsigned_abs x) (divisor_of row) in
    let g : ℕ = nat_gcd (unsigned_abs x) (divisor_of row) in
    record {
      divides = All-cons (λ y. g ∣ unsigned_abs y) x row both.0 (All-weaker (λ y. divisor_of row ∣ unsigned_abs y) (λ y. g ∣ unsigned_abs y) (λ y h. dvd_trans g both.1 h) row rest.divides);
      greatest = λ d h. both.2 d (All-head (λ y. d ∣ unsigned_abs y) x row h) (rest.greatest d (All-tail (λ y. d ∣ unsigned_abs y) x row h));
    }

pub same-divisor_of : (row : List ℤ) (g : ℕ) → IsDivisorOf row g → g ≡ divisor_of row
same-divisor_of row g h =
    let is = divisor_of_is row in
    dvd_antisymm (is.greatest g h.divides) (h.greatest (divisor_of row) is.divides)

-- one more entry
pub IsDivisorOf_more : (row : List ℤ) (i : ℕ) (x : ℤ) (g h : ℕ) → i < length row → x ≡ get_or row i (pos 0) → IsDivisorOf (take i row) g → IsGcd (unsigned_abs x) g h → IsDivisorOf (take (i + 1) row) h
IsDivisorOf_more row i x g h within at_x before both =
    let split : take (i + 1) row ≡ take i row ++ x ∷ [] = rw at_x (take_more row i (pos 0) within) in
    rw split (record {
      divides = All-push (λ y. h ∣ unsigned_abs y) (take i row) x (All-weaker (λ y. g ∣ unsigned_abs y) (λ y. h ∣ unsigned_abs y) (λ y l. dvd_trans h both.1 l) (take i row) before.divides) both.0;
      greatest = λ d all. both.2 d (at_last d all) (before.greatest d (front d all));
    })
  where
    front : (d : ℕ) → DividesAll d (take i row ++ x ∷ []) → DividesAll d (take i row)
    front d all = (All-pop (λ y. d ∣ unsigned_abs y) (take i row ++ x ∷ []) (take i row) (Some x) refl all).0

    at_last : (d : ℕ) → DividesAll d (take i row ++ x ∷ []) → d ∣ unsigned_abs x
    at_last d all = (All-pop (λ y. d ∣ unsigned_abs y) (take i row ++ x ∷ []) (take i row) (Some x) refl all).1

-- an entry that is 0 changes nothing
pub IsDivisorOf_zero : (row : List ℤ) (i : ℕ) (x : ℤ) (g : ℕ) → i < length row → x ≡ get_or row i (pos 0) → unsigned_abs x ≡ 0 → IsDivisorOf (take i row) g → IsDivisorOf (take (i + 1) row) g
IsDivisorOf_zero row i x g within at_x none before =
    IsDivisorOf_more row i x g g within at_x before (rw none (dvd-zero g, dvd_refl g, λ d h k. k))

-- 1 divides all, and no other number divides the first n
pub divisor_is_one : (row : List ℤ) (n : ℕ) → IsDivisorOf (take n row) 1 → 1 ≡ divisor_of row
divisor_is_one row n one =
    let d = divisor_of row in
    let below : d ∣ 1 = one.greatest d (All-take (λ x. d ∣ unsigned_abs x) n row (divisor_of_is row).divides) in
    dvd_antisymm (one-dvd d) below

-- ---- the row divided by its divisor

pub divided_by_is : (n : ℕ) (row : List ℤ) → 0 < n → divided_by n row ≡ map (λ x. int_div x (pos n)) row
divided_by_is zero row h = absurd (omega arith)
divided_by_is (suc n) row h = refl

int_div-one : (x : ℤ) → int_div x (pos 1) ≡ x
int_div-one x = omega (arith, ints)

map_same : (f : ℤ → ℤ) → ((x : ℤ) → f x ≡ x) → (row : List ℤ) → map f row ≡ row
map_same f same [] = refl
map_same f same (x ∷ row) = rw (same x, map_same f same row) refl

-- a divisor up to 1 changes nothing
pub divided_by-small : (n : ℕ) (row : List ℤ) → n ≤ 1 → divided_by n row ≡ row
divided_by-small zero row h = refl
divided_by-small (suc zero) row h = map_same (λ x. int_div x (pos 1)) int_div-one row
divided_by-small (suc (suc n)) row h = absurd (omega arith)

pub int_div-in_range : (x : ℤ) (n : ℕ) → IsInRange x → IsInRange (int_div x (pos n))
int_div-in_range (pos a) n h = omega (arith, div-le_self a n)
int_div-in_range (negsuc a) n h =
    omega (arith, neg_is (pos (suc a / n)), abs_is (neg_ℤ (pos (suc a / n))), div-le_self (suc a) n)

pub divided_by-in_range : (n : ℕ) (row : List ℤ) → AreInRange row → AreInRange (divided_by n row)
divided_by-in_range zero row h = h
divided_by-in_range (suc n) row h =
    All-map IsInRange (λ x. int_div x (pos (suc n))) row (All-weaker IsInRange (λ x. IsInRange (int_div x (pos (suc n)))) (λ x r. int_div-in_range x (suc n) r) row h)
