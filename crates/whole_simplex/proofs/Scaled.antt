-- A row times a number above 0 has the same primitive row, so both factors of a combination may be divided by what they share.
use Rattle.std.proofs.Common.{◌≡◌, ◌≢◌, ℕ, zero, suc, ◌+◌, ◌-◌, ◌*◌, ◌/◌, ◌<◌, ◌≤◌, Bool, true, false, cond, List, [], ◌∷◌, ◌++◌, map, length, get_or, take, drop, ℤ, pos, negsuc, ◌-ℤ◌, ◌*ℤ◌, ◌<ℤ◌, refl, sym, ap, ◌∙◌, subst, arith}
use Rattle.std.specs.Prelude.{unsigned_abs, int_div}
use Rattle.std.specs.Int.{◌∣◌}
use Rattle.std.proofs.Math.Nat.{mul-dvd-mul_left, dvd_of_mul-dvd-mul_left, dvd-mul_right, eq-zero_of_zero-dvd}
use Rattle.std.proofs.Math.IntN.{*ℤ-zero}
use Rattle.std.proofs.lemmas.Int.{ints, unsigned_abs-mul}
use Rattle.std.proofs.lemmas.Nat.Gcd.{dvd_trans, le_of_dvd}
use Rattle.std.proofs.lemmas.List.{length-map, length-take, get_or-drop, get_or-append_right}
use Rattle.std.proofs.lemmas.List.Elements.{All-cons, All-head, All-tail, All-weaker, All-map}
use Rattle.whole_rows.specs.Row.{divisor_of, divided_by, is_zero, nat_gcd, primitive_of}
use Rattle.whole_rows.proofs.Divisors.{DividesAll, IsDivisorOf, divided_by_is, divisor_of_is, nat_gcd_is, same-divisor_of}
use Rattle.whole_simplex.specs.Tables.{entry, combined, eliminated}
use Rattle.whole_simplex.proofs.Eliminating.{not_zero}
use Rattle.whole_simplex.proofs.Integers.{mul_assoc, mul_sub, same_of_mul}
use Rattle.whole_simplex.proofs.Primitive.{divided_entry, one_times, whole_quotient}

-- ---- the divisor of a row times a number

scaled_size : (n : ℕ) (x : ℤ) → unsigned_abs (pos (suc n) *ℤ x) ≡ suc n * unsigned_abs x
scaled_size n x = unsigned_abs-mul (pos (suc n)) x

scaled_divides : (n d : ℕ) (row : List ℤ) → DividesAll d row → DividesAll (suc n * d) (map (λ x. pos (suc n) *ℤ x) row)
scaled_divides n d row h =
    All-map (λ y. suc n * d ∣ unsigned_abs y) (λ x. pos (suc n) *ℤ x) row
    (All-weaker (λ x. d ∣ unsigned_abs x) (λ x. suc n * d ∣ unsigned_abs (pos (suc n) *ℤ x))
    (λ x k. subst (λ (s : ℕ). suc n * d ∣ s) (sym (scaled_size n x)) (mul-dvd-mul_left d (suc n) k)) row h)

unscaled_divides : (n d : ℕ) (row : List ℤ) → DividesAll (suc n * d) (map (λ x. pos (suc n) *ℤ x) row) → DividesAll d row
unscaled_divides n d [] h = λ k x l. absurd (omega arith)
unscaled_divides n d (x ∷ row) h =
    let first : suc n * d ∣ unsigned_abs (pos (suc n) *ℤ x) = All-head (λ y. suc n * d ∣ unsigned_abs y) (pos (suc n) *ℤ x) (map (λ x. pos (suc n) *ℤ x) row) h in
    let above : 0 < suc n = omega arith in
    All-cons_here (dvd_of_mul-dvd-mul_left d above (subst (λ (s : ℕ). suc n * d ∣ s) (scaled_size n x) first))
    (unscaled_divides n d row (All-tail (λ y. suc n * d ∣ unsigned_abs y) (pos (suc n) *ℤ x) (map (λ x. pos (suc n) *ℤ x) row) h))
  where
    All-cons_here : d ∣ unsigned_abs x → DividesAll d row → DividesAll d (x ∷ row)
    All-cons_here first rest = All-cons (λ y. d ∣ unsigned_abs y) x row first rest

scaled_once : (n : ℕ) (row : List ℤ) → DividesAll (suc n) (map (λ x. pos (suc n) *ℤ x) row)
scaled_once n row =
    All-map (λ y. suc n ∣ unsigned_abs y) (λ x. pos (suc n) *ℤ x) row
    (λ k d l. subst (λ (s : ℕ). suc n ∣ s) (sym (scaled_size n (get_or row k d))) (dvd-mul_right (suc n) (unsigned_abs (get_or row k d))))

pub divisor_scaled : (n : ℕ) (row : List ℤ) → IsDivisorOf (map (λ x. pos (suc n) *ℤ x) row) (suc n * divisor_of row)
divisor_scaled n row =
    let is = divisor_of_is row in
    let all = divisor_of_is (map (λ x. pos (suc n) *ℤ x) row) in
    let h : ℕ = divisor_of (map (λ x. pos (suc n) *ℤ x) row) in
    let part : suc n * (h / suc n) ≡ h = whole_quotient n h (all.greatest (suc n) (scaled_once n row)) in
    let below : h / suc n ∣ divisor_of row = is.greatest (h / suc n) (unscaled_divides n (h / suc n) row (subst (λ (d : ℕ). DividesAll d (map (λ x. pos (suc n) *ℤ x) row)) (sym part) all.divides)) in
    let whole : h ∣ suc n * divisor_of row = subst (λ (d : ℕ). d ∣ suc n * divisor_of row) part (mul-dvd-mul_left (h / suc n) (suc n) below) in
    record {
      divides = scaled_divides n (divisor_of row) row is.divides;
      greatest = λ d k. dvd_trans d (all.greatest d k) whole;
    }

-- ---- the primitive row

exact_quotient : (d : ℕ) (x : ℤ) → 0 < d → d ∣ unsigned_abs x → pos d *ℤ int_div x (pos d) ≡ x
exact_quotient zero x h k = absurd (omega arith)
exact_quotient (suc d) x h k = divided_entry d x k

above_zero : (n m : ℕ) → 0 < suc n * suc m
above_zero n m = omega arith

pos_product : (n m : ℕ) (x : ℤ) → pos (n * m) *ℤ x ≡ pos n *ℤ (pos m *ℤ x)
pos_product n m x = mul_assoc (pos n) (pos m) x

scaled_quotient : (n m : ℕ) (x : ℤ) → suc m ∣ unsigned_abs x → int_div (pos (suc n) *ℤ x) (pos (suc n * suc m)) ≡ int_div x (pos (suc m))
scaled_quotient n m x h =
    let divides : suc n * suc m ∣ unsigned_abs (pos (suc n) *ℤ x) = subst (λ (s : ℕ). suc n * suc m ∣ s) (sym (scaled_size n x)) (mul-dvd-mul_left (suc m) (suc n) h) in
    let positive : pos 0 <ℤ pos (suc n * suc m) = omega (arith, ints, above_zero n m) in
    same_of_mul (pos (suc n * suc m)) (int_div (pos (suc n) *ℤ x) (pos (suc n * suc m))) (int_div x (pos (suc m))) positive
    (exact_quotient (suc n * suc m) (pos (suc n) *ℤ x) (above_zero n m) divides
    ∙ ap (λ y. pos (suc n) *ℤ y) (sym (exact_quotient (suc m) x (omega arith) h))
    ∙ sym (pos_product (suc n) (suc m) (int_div x (pos (suc m)))))

scaled_quotients : (n m : ℕ) (row : List ℤ) → DividesAll (suc m) row → map (λ y. int_div y (pos (suc n * suc m))) (map (λ x. pos (suc n) *ℤ x) row) ≡ map (λ x. int_div x (pos (suc m))) row
scaled_quotients n m [] h = refl
scaled_quotients n m (x ∷ row) h =
    cc (scaled_quotient n m x (All-head (λ y. suc m ∣ unsigned_abs y) x row h), scaled_quotients n m row (All-tail (λ y. suc m ∣ unsigned_abs y) x row h))

zero_size : (x : ℤ) → 0 ∣ unsigned_abs x → x ≡ pos 0
zero_size x d = let none : unsigned_abs x ≡ 0 = eq-zero_of_zero-dvd d in omega (arith, ints)

scaled_zeros : (n : ℕ) (row : List ℤ) → DividesAll 0 row → map (λ x. pos (suc n) *ℤ x) row ≡ row
scaled_zeros n [] h = refl
scaled_zeros n (x ∷ row) h =
    let none : x ≡ pos 0 = zero_size x (All-head (λ y. 0 ∣ unsigned_abs y) x row h) in
    let first : pos (suc n) *ℤ x ≡ x = ap (λ y. pos (suc n) *ℤ y) none ∙ *ℤ-zero (pos (suc n)) ∙ sym none in
    cc (first, scaled_zeros n row (All-tail (λ y. 0 ∣ unsigned_abs y) x row h))

scaled_division : (n d : ℕ) (row : List ℤ) → DividesAll d row → divided_by (suc n * d) (map (λ x. pos (suc n) *ℤ x) row) ≡ divided_by d row
scaled_division n zero row h =
    let none : suc n * zero ≡ 0 = omega arith in
    ap (λ (e : ℕ). divided_by e (map (λ x. pos (suc n) *ℤ x) row)) none ∙ scaled_zeros n row h
scaled_division n (suc d) row h = divided_by_is (suc n * suc d) (map (λ x. pos (suc n) *ℤ x) row) (above_zero n d) ∙ scaled_quotients n d row h

pub primitive_scaled : (n : ℕ) (row : List ℤ) → primitive_of (map (λ x. pos (suc n) *ℤ x) row) ≡ primitive_of row
primitive_scaled n row =
    let same : suc n * divisor_of row ≡ divisor_of (map (λ x. pos (suc n) *ℤ x) row) = same-divisor_of (map (λ x. pos (suc n) *ℤ x) row) (suc n * divisor_of row) (divisor_scaled n row) in
    ap (λ (d : ℕ). divided_by d (map (λ x. pos (suc n) *ℤ x) row)) (sym same) ∙ scaled_division n (divisor_of row) row (divisor_of_is row).divides

-- ---- the combination

combined_scaled : (k p a : ℤ) (row other : List ℤ) → combined (k *ℤ p) row (k *ℤ a) other ≡ map (λ x. k *ℤ x) (combined p row a other)
combined_scaled k p a [] other = refl
combined_scaled k p a (x ∷ row) [] = refl
combined_scaled k p a (x ∷ row) (y ∷ other) =
    let first : (k *ℤ p) *ℤ x -ℤ (k *ℤ a) *ℤ y ≡ k *ℤ (p *ℤ x -ℤ a *ℤ y) =
    ap (λ z. z -ℤ (k *ℤ a) *ℤ y) (mul_assoc k p x) ∙ ap (λ z. k *ℤ (p *ℤ x) -ℤ z) (mul_assoc k a y) ∙ sym (mul_sub k (p *ℤ x) (a *ℤ y)) in
    cc (first, combined_scaled k p a row other)

-- the factors divided by a number that both are multiples of
eliminated_by : (place n : ℕ) (pivot row new : List ℤ) (p a : ℤ) → pos (suc n) *ℤ p ≡ entry pivot place → pos (suc n) *ℤ a ≡ entry row place → entry row place ≢ pos 0 → new ≡ primitive_of (combined p row a pivot) → new ≡ eliminated place pivot row
eliminated_by place n pivot row new p a at_p at_a apart is = by_test (is_zero (entry row place)) (not_zero (entry row place) apart)
  where
    same : primitive_of (combined (entry pivot place) row (entry row place) pivot) ≡ primitive_of (combined p row a pivot)
    same =
        ap (λ q. primitive_of (combined q row (entry row place) pivot)) (sym at_p)
        ∙ ap (λ b. primitive_of (combined (pos (suc n) *ℤ p) row b pivot)) (sym at_a)
        ∙ ap primitive_of (combined_scaled (pos (suc n)) p a row pivot)
        ∙ primitive_scaled n (combined p row a pivot)

    by_test : (b : Bool) → b ≡ false → new ≡ cond b row (primitive_of (combined (entry pivot place) row (entry row place) pivot))
    by_test true e = absurd (cc)
    by_test false e = is ∙ sym same

above_divisor : (place d : ℕ) (pivot row new : List ℤ) (p a : ℤ) → 0 < d → pos d *ℤ p ≡ entry pivot place → pos d *ℤ a ≡ entry row place → entry row place ≢ pos 0 → new ≡ primitive_of (combined p row a pivot) → new ≡ eliminated place pivot row
above_divisor place zero pivot row new p a h at_p at_a apart is = absurd (omega arith)
above_divisor place (suc n) pivot row new p a h at_p at_a apart is = eliminated_by place n pivot row new p a at_p at_a apart is

size_above : (x : ℤ) → x ≢ pos 0 → 0 < unsigned_abs x
size_above (pos zero) h = absurd (h refl)
size_above (pos (suc n)) h = omega arith
size_above (negsuc n) h = omega arith

divisor_is_above : (x d : ℕ) → 0 < x → d ∣ x → 0 < d
divisor_is_above x zero h k = let none : x ≡ 0 = eq-zero_of_zero-dvd k in absurd (omega (arith, none))
divisor_is_above x (suc d) h k = omega arith

pub shared_above : (x : ℤ) (y : ℕ) → x ≢ pos 0 → 0 < nat_gcd (unsigned_abs x) y
shared_above x y h = divisor_is_above (unsigned_abs x) (nat_gcd (unsigned_abs x) y) (size_above x h) (nat_gcd_is (unsigned_abs x) y).0

pub shared_small : (x : ℤ) (y : ℕ) → x ≢ pos 0 → nat_gcd (unsigned_abs x) y ≤ unsigned_abs x
shared_small x y h = le_of_dvd (size_above x h) (nat_gcd_is (unsigned_abs x) y).0

-- both factors divided by their greatest common divisor
pub eliminated_shared : (place d : ℕ) (pivot row new : List ℤ) (p a : ℤ) → entry row place ≢ pos 0 → d ≡ nat_gcd (unsigned_abs (entry row place)) (unsigned_abs (entry pivot place)) → p ≡ int_div (entry pivot place) (pos d) → a ≡ int_div (entry row place) (pos d) → new ≡ primitive_of (combined p row a pivot) → new ≡ eliminated place pivot row
eliminated_shared place d pivot row new p a apart at_d at_p at_a is =
    let both = nat_gcd_is (unsigned_abs (entry row place)) (unsigned_abs (entry pivot place)) in
    let above : 0 < d = subst (λ (g : ℕ). 0 < g) (sym at_d) (shared_above (entry row place) (unsigned_abs (entry pivot place)) apart) in
    above_divisor place d pivot row new p a above
    (ap (λ z. pos d *ℤ z) at_p ∙ exact_quotient d (entry pivot place) above (subst (λ (g : ℕ). g ∣ unsigned_abs (entry pivot place)) (sym at_d) both.1))
    (ap (λ z. pos d *ℤ z) at_a ∙ exact_quotient d (entry row place) above (subst (λ (g : ℕ). g ∣ unsigned_abs (entry row place)) (sym at_d) both.0))
    apart is

-- the row may be multiplied first
pub combined_first : (p a : ℤ) (row other : List ℤ) → combined (pos 1) (map (λ x. p *ℤ x) row) a other ≡ combined p row a other
combined_first p a [] other = refl
combined_first p a (x ∷ row) [] = refl
combined_first p a (x ∷ row) (y ∷ other) =
    cc (ap (λ z. z -ℤ a *ℤ y) (one_times (p *ℤ x)), combined_first p a row other)

-- ---- one place after the other

-- the place that comes next is as before
pub entry_untouched : (f : ℤ → ℤ) (old now : List ℤ) (i : ℕ) (d : ℤ) → i < length old → now ≡ map f (take i old) ++ drop i old → get_or now i d ≡ get_or old i d
entry_untouched f old now i d h e =
    let long : length (map f (take i old)) ≡ i = length-map (take i old) f ∙ length-take i old ∙ omega arith in
    let here : i - i ≡ 0 = omega arith in
    let there : i + 0 ≡ i = omega arith in
    ap (λ row. get_or row i d) e
    ∙ get_or-append_right (map f (take i old)) (drop i old) i i d long (omega arith)
    ∙ ap (λ k. get_or (drop i old) k d) here
    ∙ get_or-drop i old 0 d
    ∙ ap (λ k. get_or old k d) there

pub one_row : (row : List ℤ) → map (λ x. pos 1 *ℤ x) row ≡ row
one_row [] = refl
one_row (x ∷ row) = cc (one_times x, one_row row)
