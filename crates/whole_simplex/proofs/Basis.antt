-- Solutions of a table that are 0 outside the basis but for a few places, and the multiple that makes them whole.
use Rattle.std.proofs.Common.{◌≡◌, ◌≢◌, ℕ, zero, suc, ◌*◌, ◌/◌, ◌<◌, ◌==◌, inl, inr, Bool, true, false, cond, List, [], ◌∷◌, ℤ, pos, negsuc, ◌+ℤ◌, ◌*ℤ◌, ◌≤ℤ◌, ◌<ℤ◌, refl, sym, ap, ◌∙◌, subst, arith}
use Rattle.std.specs.Prelude.{unsigned_abs, int_div}
use Rattle.std.specs.Int.{◌∣◌}
use Rattle.std.proofs.Math.IntN.{zero-*ℤ}
use Rattle.std.proofs.lemmas.Int.{ints}
use Rattle.std.proofs.lemmas.Bool.Decides.{nat_tests}
use Rattle.std.proofs.lemmas.Nat.Gcd.{dvd_refl, dvd_trans}
use Rattle.std.proofs.Math.Nat.{mul_comm, mul_assoc, dvd-mul_right, eq-zero_of_zero-dvd}
use Rattle.whole_rows.specs.Row.{nat_gcd}
use Rattle.whole_simplex.specs.declared.line.Line.{Line}
use Rattle.whole_simplex.specs.Tables.{AreDistinct, entry}
use Rattle.whole_simplex.specs.Outcome.{multiple_of, multiple_from, share}
use Rattle.whole_simplex.proofs.Dots.{dot, dot-sum, dot-zero, single, dot-single_at}
use Rattle.whole_simplex.proofs.Integers.{mul_positive, positive_of_mul}
use Rattle.whole_simplex.proofs.Members.{In, free_member}
use Rattle.whole_simplex.proofs.Primitive.{nat_gcd-is, whole_quotient, divided_entry}

-- ---- values at the basic columns

-- each line's value at its basic column, 0 elsewhere
abbrev pub basic_part : (Line → ℤ) → List Line → ℕ → ℤ
basic_part c [] k = pos 0
basic_part c (line ∷ lines) k = single line.basic (c line) k +ℤ basic_part c lines k

-- what a row makes of these values
abbrev pub basic_sum : (Line → ℤ) → List ℤ → List Line → ℤ
basic_sum c row [] = pos 0
basic_sum c row (line ∷ lines) = entry row line.basic *ℤ c line +ℤ basic_sum c row lines

pub dot-basic_part : (c : Line → ℤ) (row : List ℤ) (lines : List Line) → dot 0 row (basic_part c lines) ≡ basic_sum c row lines
dot-basic_part c row [] = dot-zero 0 row
dot-basic_part c row (line ∷ lines) =
    omega (arith, ints, dot-sum 0 row (single line.basic (c line)) (basic_part c lines), dot-single_at line.basic row (c line), dot-basic_part c row lines)

-- a row that is 0 at each basic column makes nothing of them
pub basic_sum-zero : (c : Line → ℤ) (row : List ℤ) (lines : List Line) → ((line : Line) → In line lines → entry row line.basic ≡ pos 0) → basic_sum c row lines ≡ pos 0
basic_sum-zero c row [] h = refl
basic_sum-zero c row (line ∷ lines) h =
    omega (arith, ints, ap (λ x. x *ℤ c line) (h line (inl refl)), zero-*ℤ (c line), basic_sum-zero c row lines (λ other m. h other (inr m)))

-- a row that is 0 at each basic column but one line's
pub basic_sum-own : (c : Line → ℤ) (row : List ℤ) (line : Line) (lines : List Line) → In line lines → AreDistinct lines → ((other : Line) → In other lines → other.basic ≢ line.basic → entry row other.basic ≡ pos 0) → basic_sum c row lines ≡ entry row line.basic *ℤ c line
basic_sum-own c row line [] m d h = absurd m
basic_sum-own c row line (first ∷ lines) m d h = elim m [
  | inl e ↦ (let rest : basic_sum c row lines ≡ pos 0 =
      basic_sum-zero c row lines (λ other n. h other (inr n) (λ same. free_member first.basic lines other d.0 n (same ∙ ap (λ l. l.basic) e))) in
      let here : entry row first.basic *ℤ c first ≡ entry row line.basic *ℤ c line = ap (λ l. entry row l.basic *ℤ c l) (sym e) in
      omega (arith, ints))
  | inr n ↦ (let none : entry row first.basic ≡ pos 0 = h first (inl refl) (λ same. free_member first.basic lines line d.0 n (sym same)) in
      omega (arith, ints, ap (λ x. x *ℤ c first) none, zero-*ℤ (c first), basic_sum-own c row line lines n d.1 (λ other k. h other (inr k))))
]

pub single_not_negative : (place : ℕ) (x : ℤ) (k : ℕ) → pos 0 ≤ℤ x → pos 0 ≤ℤ single place x k
single_not_negative place x k h = by_test (k == place)
  where
    by_test : (b : Bool) → pos 0 ≤ℤ cond b x (pos 0)
    by_test true = h
    by_test false = omega (arith, ints)

pub basic_part_not_negative : (c : Line → ℤ) (lines : List Line) (k : ℕ) → ((line : Line) → In line lines → pos 0 ≤ℤ c line) → pos 0 ≤ℤ basic_part c lines k
basic_part_not_negative c [] k h = omega (arith, ints)
basic_part_not_negative c (line ∷ lines) k h =
    omega (arith, ints, single_not_negative line.basic (c line) k (h line (inl refl)), basic_part_not_negative c lines k (λ other m. h other (inr m)))

pub single_here : (place : ℕ) (x : ℤ) → single place x place ≡ x
single_here place x = grind (arith, nat_tests)

pub single_elsewhere : (place : ℕ) (x : ℤ) (k : ℕ) → k ≢ place → single place x k ≡ pos 0
single_elsewhere place x k h = by_test (k == place) refl
  where
    by_test : (b : Bool) → (k == place) ≡ b → cond b x (pos 0) ≡ pos 0
    by_test true e = absurd (h (grind (arith, nat_tests)))
    by_test false e = refl

-- away from the basic columns the values are 0
pub basic_part_elsewhere : (c : Line → ℤ) (lines : List Line) (k : ℕ) → ((line : Line) → In line lines → k ≢ line.basic) → basic_part c lines k ≡ pos 0
basic_part_elsewhere c [] k h = refl
basic_part_elsewhere c (line ∷ lines) k h =
    omega (arith, ints, single_elsewhere line.basic (c line) k (h line (inl refl)), basic_part_elsewhere c lines k (λ other m. h other (inr m)))

-- ---- the least common multiple

-- a number above 0 that divides another one, exactly
pub whole_share : (a b : ℤ) → pos 0 <ℤ b → unsigned_abs b ∣ unsigned_abs a → b *ℤ int_div a b ≡ a
whole_share a (pos zero) h d = absurd (omega (arith, ints))
whole_share a (pos (suc n)) h d = divided_entry n a d
whole_share a (negsuc n) h d = absurd (omega (arith, ints))

pub record IsMultiple (a b multiple : ℤ) : Type 0 where
  pub above : pos 0 <ℤ multiple
  pub of_first : unsigned_abs a ∣ unsigned_abs multiple
  pub of_second : unsigned_abs b ∣ unsigned_abs multiple

whole_multiple : (i j g : ℕ) → suc g ∣ suc i → suc g ∣ suc j → (0 < suc j / suc g) × (suc j ∣ suc i * (suc j / suc g))
whole_multiple i j g d e =
    let x = suc i / suc g in
    let y = suc j / suc g in
    let first : suc g * x ≡ suc i = whole_quotient g (suc i) d in
    let second : suc g * y ≡ suc j = whole_quotient g (suc j) e in
    let same : suc j * x ≡ suc i * y =
    ap (λ t. t * x) (sym second) ∙ mul_assoc (suc g) y x ∙ ap (λ t. suc g * t) (mul_comm y x) ∙ sym (mul_assoc (suc g) x y) ∙ ap (λ t. t * y) first in
    (above_zero y second, subst (λ t. suc j ∣ t) same (dvd-mul_right (suc j) x))
  where
    above_zero : (y : ℕ) → suc g * y ≡ suc j → 0 < y
    above_zero zero h = absurd (omega arith)
    above_zero (suc y) h = omega arith

multiple_with : (i j g : ℕ) → g ∣ suc i → g ∣ suc j → IsMultiple (pos (suc i)) (pos (suc j)) (pos (suc i) *ℤ int_div (pos (suc j)) (pos g))
multiple_with i j zero d e = absurd (let none : suc i ≡ 0 = eq-zero_of_zero-dvd d in omega arith)
multiple_with i j (suc g) d e =
    let parts = whole_multiple i j g d e in
    record {
      above = mul_positive (pos (suc i)) (pos (suc j / suc g)) (omega (arith, ints)) (omega (arith, ints, parts.0));
      of_first = dvd-mul_right (suc i) (suc j / suc g);
      of_second = parts.1;
    }

pub multiple_of-is : (a b : ℤ) → pos 0 <ℤ a → pos 0 <ℤ b → IsMultiple a b (multiple_of a b)
multiple_of-is (pos zero) b h k = absurd (omega (arith, ints))
multiple_of-is (negsuc i) b h k = absurd (omega (arith, ints))
multiple_of-is (pos (suc i)) (pos zero) h k = absurd (omega (arith, ints))
multiple_of-is (pos (suc i)) (negsuc j) h k = absurd (omega (arith, ints))
multiple_of-is (pos (suc i)) (pos (suc j)) h k =
    let g = nat_gcd-is (suc i) (suc j) in
    multiple_with i j (nat_gcd (suc i) (suc j)) g.0 g.1

-- the least common multiple of a number above 0 and of the lines' own entries
pub record IsMultipleOfAll (start : ℤ) (lines : List Line) (multiple : ℤ) : Type 0 where
  pub above : pos 0 <ℤ multiple
  pub of_start : unsigned_abs start ∣ unsigned_abs multiple
  pub of_lines : (line : Line) → In line lines → unsigned_abs (entry line.entries line.basic) ∣ unsigned_abs multiple

pub multiple_from-is : (start : ℤ) (lines : List Line) → pos 0 <ℤ start → ((line : Line) → In line lines → pos 0 <ℤ entry line.entries line.basic) → IsMultipleOfAll start lines (multiple_from start lines)
multiple_from-is start [] h o = record { above = h; of_start = dvd_refl (unsigned_abs start); of_lines = λ line m. absurd m }
multiple_from-is start (line ∷ lines) h o =
    let first = multiple_of-is start (entry line.entries line.basic) h (o line (inl refl)) in
    let rest = multiple_from-is (multiple_of start (entry line.entries line.basic)) lines first.above (λ other m. o other (inr m)) in
    record {
      above = rest.above;
      of_start = dvd_trans (unsigned_abs start) first.of_first rest.of_start;
      of_lines = λ other m. elim m [
        | inl e ↦ subst (λ l. unsigned_abs (entry l.entries l.basic) ∣ unsigned_abs (multiple_from (multiple_of start (entry line.entries line.basic)) lines)) (sym e)
            (dvd_trans (unsigned_abs (entry line.entries line.basic)) first.of_second rest.of_start)
        | inr n ↦ rest.of_lines other n
      ];
    }

-- a line's own entry times its share is the multiple
pub own_share : (start : ℤ) (lines : List Line) (line : Line) → pos 0 <ℤ start → ((other : Line) → In other lines → pos 0 <ℤ entry other.entries other.basic) → In line lines → entry line.entries line.basic *ℤ share (multiple_from start lines) line ≡ multiple_from start lines
own_share start lines line h o m =
    whole_share (multiple_from start lines) (entry line.entries line.basic) (o line m) ((multiple_from-is start lines h o).of_lines line m)

pub share_above : (start : ℤ) (lines : List Line) (line : Line) → pos 0 <ℤ start → ((other : Line) → In other lines → pos 0 <ℤ entry other.entries other.basic) → In line lines → pos 0 <ℤ share (multiple_from start lines) line
share_above start lines line h o m =
    positive_of_mul (entry line.entries line.basic) (share (multiple_from start lines) line) (o line m)
    (omega (arith, ints, own_share start lines line h o m, (multiple_from-is start lines h o).above))
