-- What an eliminated row is: up to a number above 0, a number above 0 times the row less a multiple of the pivot row.
use Rattle.std.proofs.Common.{◌≡◌, ℕ, zero, suc, ◌⊎◌, inl, inr, Bool, true, false, cond, List, [], ◌∷◌, map, length, ℤ, pos, negsuc, ◌-ℤ◌, ◌*ℤ◌, ◌≤ℤ◌, ◌<ℤ◌, refl, sym, ap, ◌∙◌, arith}
use Rattle.std.proofs.Math.IntN.{*ℤ_comm, *ℤ-zero, zero-*ℤ}
use Rattle.std.proofs.lemmas.Int.{ints}
use Rattle.std.proofs.lemmas.Bool.Decides.{nat_tests}
use Rattle.std.proofs.lemmas.List.{length-map}
use Rattle.whole_rows.specs.Row.{is_zero, primitive_of}
use Rattle.whole_simplex.specs.Tables.{entry, combined, eliminated}
use Rattle.whole_simplex.proofs.Integers.{mul_not_negative, mul_not_positive, mul_positive, zero_of_mul, positive_of_mul, not_negative_of_mul, le_of_lt}
use Rattle.whole_simplex.proofs.Dots.{dot, dot-combined, dot-scaled}
use Rattle.whole_simplex.proofs.Primitive.{primitive_back}

pub length-combined : (p a : ℤ) (row other : List ℤ) → length row ≡ length other → length (combined p row a other) ≡ length row
length-combined p a [] [] h = refl
length-combined p a [] (y ∷ other) h = absurd (omega arith)
length-combined p a (x ∷ row) [] h = absurd (omega arith)
length-combined p a (x ∷ row) (y ∷ other) h = ap suc (length-combined p a row other (omega arith))

pub entry-combined : (p a : ℤ) (row other : List ℤ) (place : ℕ) → length row ≡ length other → entry (combined p row a other) place ≡ p *ℤ entry row place -ℤ a *ℤ entry other place
entry-combined p a [] [] place h = omega (arith, ints, *ℤ-zero p, *ℤ-zero a)
entry-combined p a [] (y ∷ other) place h = absurd (omega arith)
entry-combined p a (x ∷ row) [] place h = absurd (omega arith)
entry-combined p a (x ∷ row) (y ∷ other) zero h = refl
entry-combined p a (x ∷ row) (y ∷ other) (suc place) h = entry-combined p a row other place (omega arith)

pub entry-scaled : (c : ℤ) (row : List ℤ) (place : ℕ) → entry (map (λ x. c *ℤ x) row) place ≡ c *ℤ entry row place
entry-scaled c [] place = sym (*ℤ-zero c)
entry-scaled c (x ∷ row) zero = refl
entry-scaled c (x ∷ row) (suc place) = entry-scaled c row place

-- `scale` times the new row is `factor` times the row less the row's entry times the pivot row
pub record IsEliminated (place : ℕ) (pivot row new : List ℤ) : Type 0 where
  pub scale : ℤ
  pub factor : ℤ
  pub scale_positive : pos 0 <ℤ scale
  pub factor_positive : pos 0 <ℤ factor
  pub is : map (λ x. scale *ℤ x) new ≡ combined factor row (entry row place) pivot
  pub by_pivot : (factor ≡ entry pivot place) ⊎ (entry row place ≡ pos 0)

pub zero_from_test : (x : ℤ) → is_zero x ≡ true → x ≡ pos 0
zero_from_test (pos zero) h = refl
zero_from_test (pos (suc n)) h = absurd (grind (arith, nat_tests))
zero_from_test (negsuc n) h = absurd (grind (arith, nat_tests))

same_combined : (row other : List ℤ) → length row ≡ length other → map (λ x. pos 1 *ℤ x) row ≡ combined (pos 1) row (pos 0) other
same_combined [] [] h = refl
same_combined [] (y ∷ other) h = absurd (omega arith)
same_combined (x ∷ row) [] h = absurd (omega arith)
same_combined (x ∷ row) (y ∷ other) h =
    let first : pos 1 *ℤ x ≡ pos 1 *ℤ x -ℤ pos 0 *ℤ y = omega (arith, ints, zero-*ℤ y) in
    let rest : map (λ x. pos 1 *ℤ x) row ≡ combined (pos 1) row (pos 0) other = same_combined row other (omega arith) in
    cc (first, rest)

eliminated_cases : (place : ℕ) (pivot row : List ℤ) (stays : Bool) → is_zero (entry row place) ≡ stays → pos 0 <ℤ entry pivot place → length row ≡ length pivot → IsEliminated place pivot row (cond stays row (primitive_of (combined (entry pivot place) row (entry row place) pivot)))
eliminated_cases place pivot row true e above same =
    let none : entry row place ≡ pos 0 = zero_from_test (entry row place) e in
    record {
      scale = pos 1;
      factor = pos 1;
      scale_positive = omega (arith, ints);
      factor_positive = omega (arith, ints);
      is = same_combined row pivot same ∙ ap (λ a. combined (pos 1) row a pivot) (sym none);
      by_pivot = inr none;
    }
eliminated_cases place pivot row false e above same =
    let back = primitive_back (combined (entry pivot place) row (entry row place) pivot) in
    record {
      scale = pos (suc back.0);
      factor = entry pivot place;
      scale_positive = omega (arith, ints);
      factor_positive = above;
      is = back.1;
      by_pivot = inl refl;
    }

pub eliminated-is : (place : ℕ) (pivot row : List ℤ) → pos 0 <ℤ entry pivot place → length row ≡ length pivot → IsEliminated place pivot row (eliminated place pivot row)
eliminated-is place pivot row above same = eliminated_cases place pivot row (is_zero (entry row place)) refl above same

-- ---- what follows

pub eliminated_length : {place : ℕ} {pivot row new : List ℤ} → IsEliminated place pivot row new → length row ≡ length pivot → length new ≡ length row
eliminated_length {place} {pivot} {row} {new} e same =
    sym (length-map new (λ x. e.scale *ℤ x)) ∙ ap length e.is ∙ length-combined e.factor (entry row place) row pivot same

pub eliminated_entry : {place : ℕ} {pivot row new : List ℤ} (e : IsEliminated place pivot row new) (k : ℕ) → length row ≡ length pivot → e.scale *ℤ entry new k ≡ e.factor *ℤ entry row k -ℤ entry row place *ℤ entry pivot k
eliminated_entry {place} {pivot} {row} {new} e k same =
    sym (entry-scaled e.scale new k) ∙ ap (λ r. entry r k) e.is ∙ entry-combined e.factor (entry row place) row pivot k same

pub eliminated_dot : {place : ℕ} {pivot row new : List ℤ} (e : IsEliminated place pivot row new) (v : ℕ → ℤ) → length row ≡ length pivot → e.scale *ℤ dot 0 new v ≡ e.factor *ℤ dot 0 row v -ℤ entry row place *ℤ dot 0 pivot v
eliminated_dot {place} {pivot} {row} {new} e v same =
    sym (dot-scaled 0 e.scale new v) ∙ ap (λ r. dot 0 r v) e.is ∙ dot-combined 0 e.factor (entry row place) row pivot v same

module _ {place : ℕ} {pivot row new : List ℤ} (e : IsEliminated place pivot row new) (same : length row ≡ length pivot) where
  -- where the pivot row is 0, the row keeps its sign
  pub eliminated_zero : (k : ℕ) → entry pivot k ≡ pos 0 → entry row k ≡ pos 0 → entry new k ≡ pos 0
  eliminated_zero k none zero_there =
      zero_of_mul e.scale (entry new k) e.scale_positive
      (omega (arith, ints, eliminated_entry e k same, ap (λ x. e.factor *ℤ x) zero_there, *ℤ-zero e.factor, ap (λ x. entry row place *ℤ x) none, *ℤ-zero (entry row place)))

  pub eliminated_positive : (k : ℕ) → entry pivot k ≡ pos 0 → pos 0 <ℤ entry row k → pos 0 <ℤ entry new k
  eliminated_positive k none above =
      positive_of_mul e.scale (entry new k) e.scale_positive
      (omega (arith, ints, eliminated_entry e k same, mul_positive e.factor (entry row k) e.factor_positive above, ap (λ x. entry row place *ℤ x) none, *ℤ-zero (entry row place)))

  -- at the entering place nothing is left
  pub eliminated_here : entry new place ≡ pos 0
  eliminated_here =
      zero_of_mul e.scale (entry new place) e.scale_positive (elim e.by_pivot [
        | inl f ↦ omega (arith, ints, eliminated_entry e place same, ap (λ x. x *ℤ entry row place) f, *ℤ_comm (entry pivot place) (entry row place))
        | inr n ↦ omega (arith, ints, eliminated_entry e place same, ap (λ x. e.factor *ℤ x) n, *ℤ-zero e.factor, ap (λ x. x *ℤ entry pivot place) n, zero-*ℤ (entry pivot place))
      ])

  -- a number that isn't negative stays so, where the row's entry isn't above 0 or the pivot row's ratio isn't greater
  pub eliminated_not_negative : (k : ℕ) → pos 0 ≤ℤ entry row k → pos 0 ≤ℤ entry pivot k → (entry row place ≤ℤ pos 0) ⊎ ((entry pivot k *ℤ entry row place) ≤ℤ (entry row k *ℤ entry pivot place)) → pos 0 ≤ℤ entry new k
  eliminated_not_negative k mine its ratio =
      let weak : pos 0 ≤ℤ e.factor = le_of_lt e.factor e.factor_positive in
      let first : pos 0 ≤ℤ (e.factor *ℤ entry row k) = mul_not_negative e.factor (entry row k) weak mine in
      not_negative_of_mul e.scale (entry new k) e.scale_positive (elim ratio [
        | inl low ↦ omega (arith, ints, eliminated_entry e k same, first, mul_not_positive (entry pivot k) (entry row place) its low, *ℤ_comm (entry row place) (entry pivot k))
        | inr less ↦ (elim e.by_pivot [
          | inl f ↦ omega (arith, ints, eliminated_entry e k same, less, ap (λ x. x *ℤ entry row k) f, *ℤ_comm (entry pivot place) (entry row k), *ℤ_comm (entry row place) (entry pivot k))
          | inr n ↦ omega (arith, ints, eliminated_entry e k same, first, ap (λ x. x *ℤ entry pivot k) n, zero-*ℤ (entry pivot k))
        ])
      ])
