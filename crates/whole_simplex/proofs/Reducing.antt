-- The greatest common divisor of a row, sought from a multiple of it on, and what the row divided by it is within.
use Rattle.std.proofs.Common.{◌≡◌, ℕ, zero, suc, ◌+◌, ◌-◌, ◌*◌, ◌/◌, ◌<◌, ◌≤◌, List, [], ◌∷◌, length, get_or, take, drop, ℤ, pos, negsuc, neg_ℤ, refl, sym, ap, ◌∙◌, subst, arith}
use Rattle.std.specs.Prelude.{unsigned_abs, int_div}
use Rattle.std.specs.Int.{◌∣◌, IsGcd}
use Rattle.std.proofs.Math.Nat.{div-mul-le_self, mul-div_right, mul_comm, one-dvd}
use Rattle.std.proofs.lemmas.Nat.{le-div}
use Rattle.std.proofs.lemmas.Nat.Gcd.{dvd_antisymm, dvd_refl, dvd-zero, dvd_trans, le_of_dvd}
use Rattle.std.proofs.lemmas.List.{drop_more, length-drop}
use Rattle.std.proofs.lemmas.List.Elements.{All-cons, All-head, All-tail, All-weaker, All-more, All-map}
use borrow.Author.Differences.{neg_is, abs_is}
use Rattle.whole_rows.specs.Row.{divided_by, divisor_of, nat_gcd}
use Rattle.whole_rows.proofs.Divisors.{DividesAll, divided_by_is, divisor_of_is, nat_gcd_is}
use Rattle.whole_simplex.specs.Sizes.{AreWithin, with_sign}

-- ---- the greatest size

pub largest_more : (row : List ℤ) (i old size new : ℕ) → i < length row → size ≡ unsigned_abs (get_or row i (pos 0)) → old ≤ new → size ≤ new → AreWithin old (take i row) → AreWithin new (take (i + 1) row)
largest_more row i old size new h at first second before =
    All-more (λ x. unsigned_abs x ≤ new) row i (pos 0) h
    (All-weaker (λ x. unsigned_abs x ≤ old) (λ x. unsigned_abs x ≤ new) (λ x k. omega arith) (take i row) before)
    (omega (arith, at))

-- ---- the divisor, sought from the last entry on

pub divides_at : (row : List ℤ) (i : ℕ) → i < length row → divisor_of row ∣ unsigned_abs (get_or row i (pos 0))
divides_at row i h = (divisor_of_is row).divides i (pos 0) h

pub divides_both : (d x y : ℕ) → d ∣ x → d ∣ y → d ∣ nat_gcd x y
divides_both d x y h k = (nat_gcd_is x y).2 d h k

back_split : (row : List ℤ) (i : ℕ) → i < length row → drop (length row - (i + 1)) row ≡ get_or row (length row - 1 - i) (pos 0) ∷ drop (length row - i) row
back_split row i h =
    let here : length row - (i + 1) ≡ length row - 1 - i = omega arith in
    let next : length row - 1 - i + 1 ≡ length row - i = omega arith in
    ap (λ (k : ℕ). drop k row) here
    ∙ drop_more row (length row - 1 - i) (pos 0) (omega arith)
    ∙ ap (λ (k : ℕ). get_or row (length row - 1 - i) (pos 0) ∷ drop k row) next

pub sought_more : (row : List ℤ) (i size old new : ℕ) → i < length row → size ≡ unsigned_abs (get_or row (length row - 1 - i) (pos 0)) → IsGcd size old new → divisor_of row ∣ old → DividesAll old (drop (length row - i) row) → (divisor_of row ∣ new) × DividesAll new (drop (length row - (i + 1)) row)
sought_more row i size old new h at both multiple before =
    let j = length row - 1 - i in
    let first : divisor_of row ∣ size = subst (λ (s : ℕ). divisor_of row ∣ s) (sym at) (divides_at row j (omega arith)) in
    let rest : DividesAll new (drop (length row - i) row) = All-weaker (λ x. old ∣ unsigned_abs x) (λ x. new ∣ unsigned_abs x) (λ x d. dvd_trans new both.1 d) (drop (length row - i) row) before in (
      both.2 (divisor_of row) first multiple,
      subst (λ (r : List ℤ). DividesAll new r) (sym (back_split row i h))
          (All-cons (λ x. new ∣ unsigned_abs x) (get_or row j (pos 0)) (drop (length row - i) row) (subst (λ (s : ℕ). new ∣ s) at both.0) rest),
    )

pub gcd_of_multiple : (n d : ℕ) → d ∣ n → IsGcd n d d
gcd_of_multiple n d h = (h, dvd_refl d, λ f k l. l)

pub sought_one : (row : List ℤ) (d : ℕ) → d ≡ 1 → divisor_of row ∣ d → 1 ≡ divisor_of row
sought_one row d e multiple = dvd_antisymm (one-dvd (divisor_of row)) (subst (λ (n : ℕ). divisor_of row ∣ n) e multiple)

pub sought_all : (row : List ℤ) (i d : ℕ) → length row ≤ i → divisor_of row ∣ d → DividesAll d (drop (length row - i) row) → d ≡ divisor_of row
sought_all row i d h multiple all =
    let none : length row - i ≡ 0 = omega arith in
    dvd_antisymm ((divisor_of_is row).greatest d (subst (λ (k : ℕ). DividesAll d (drop k row)) none all)) multiple

pub no_entry_sought : (row : List ℤ) (d : ℕ) → DividesAll d (drop (length row - 0) row)
no_entry_sought row d = λ k x h. absurd (omega (arith, length-drop (length row - 0) row))

-- ---- sizes

common_within : (x d bound : ℕ) → x ≤ bound → d ≤ bound → nat_gcd x d ≤ bound
common_within zero d bound h k = by_cases (nat_gcd_is 0 d).1 ((nat_gcd_is 0 d).2 d (dvd-zero d) (dvd_refl d))
  where
    by_cases : nat_gcd 0 d ∣ d → d ∣ nat_gcd 0 d → nat_gcd 0 d ≤ bound
    by_cases f g = let same : nat_gcd 0 d ≡ d = dvd_antisymm f g in omega arith
common_within (suc x) d bound h k =
    let above : 0 < suc x = omega arith in
    let below : nat_gcd (suc x) d ≤ suc x = le_of_dvd above (nat_gcd_is (suc x) d).0 in
    omega arith

pub divisor_within : (row : List ℤ) (bound : ℕ) → AreWithin bound row → divisor_of row ≤ bound
divisor_within [] bound h = omega arith
divisor_within (x ∷ row) bound h =
    common_within (unsigned_abs x) (divisor_of row) bound (All-head (λ y. unsigned_abs y ≤ bound) x row h)
    (divisor_within row bound (All-tail (λ y. unsigned_abs y ≤ bound) x row h))

quotient_size : (x : ℤ) (n : ℕ) → unsigned_abs (int_div x (pos n)) ≡ unsigned_abs x / n
quotient_size (pos a) n = refl
quotient_size (negsuc a) n = omega (arith, neg_is (pos (suc a / n)), abs_is (neg_ℤ (pos (suc a / n))))

pub divided_within : (row : List ℤ) (d bound : ℕ) → 0 < d → AreWithin bound row → AreWithin (bound / d) (divided_by d row)
divided_within row d bound h k =
    subst (λ (r : List ℤ). AreWithin (bound / d) r) (sym (divided_by_is d row h))
    (All-map (λ x. unsigned_abs x ≤ bound / d) (λ x. int_div x (pos d)) row
    (All-weaker (λ x. unsigned_abs x ≤ bound) (λ x. unsigned_abs (int_div x (pos d)) ≤ bound / d)
    (λ x l. subst (λ (s : ℕ). s ≤ bound / d) (sym (quotient_size x d)) (le-div (unsigned_abs x / d) bound d h (omega (arith, div-mul-le_self (unsigned_abs x) d)))) row k))

-- ---- quotients

pub factor_within : (q d n : ℕ) → 0 < d → q * d ≡ n → q ≤ n
factor_within q zero n h e = absurd (omega arith)
factor_within q (suc d) n h e = omega arith

whole_division : (q d n : ℕ) → 0 < d → q * d ≡ n → n / d ≡ q
whole_division q d n h e = ap (λ m. m / d) (sym e) ∙ ap (λ m. m / d) (mul_comm q d) ∙ mul-div_right q h

-- the quotient of a size with the number's sign
pub sized_quotient : (q d : ℕ) (x : ℤ) → 0 < d → q * d ≡ unsigned_abs x → with_sign q x ≡ int_div x (pos d)
sized_quotient q d (pos n) h e = ap pos (sym (whole_division q d n h e))
sized_quotient q d (negsuc n) h e = ap (λ m. neg_ℤ (pos m)) (sym (whole_division q d (suc n) h e))
