-- The divisor fits, and the multiple is that of the definition.
use Rattle.std.proofs.Common.{◌≡◌, pos, ◌*ℤ◌, ◌≤ℤ◌, true, false, ap, ◌∙◌, sym, refl, subst, arith, rules}
use Rattle.std.specs.Prelude.{int_div, unsigned_abs}
use Rattle.std.specs.Int.{IsGcd, w128}
use Rattle.std.proofs.lemmas.Int.{to_z-of_z, to_z_pos, ints, fits_signed_from_abs}
use mir.Val.{SFits, to_z}
use Rattle.whole_rows.specs.Row.{gcd_of}
use Rattle.whole_rows.specs.declared.row.RowFault.TheVariants.{Wide}
use Rattle.whole_simplex.specs.Outcome.{is_large, multiple_of}
use Rattle.whole_simplex.proofs.Multiples.{divisor_above, divisor_small, not_fitting_large, large_fault, small_narrow, quotient_above}
use Rattle.whole_simplex.proofs.rays.multiple_of.Goals as goal

pub overflow_cast-divisor : goal.overflow_cast-divisor
overflow_cast-divisor c =
    let a : SFits w128 c.args.a = c.ranges.a in
    let b : SFits w128 c.args.b = c.ranges.b in
    let i : IsGcd (unsigned_abs c.args.a) (unsigned_abs c.args.b) c.gcd-divisor.result = simp to_z-of_z at c.gcd-divisor.ensures.greatest in
    fits_signed_from_abs w128 (pos c.gcd-divisor.result) (divisor_small c.args.a c.args.b c.gcd-divisor.result c.requires.a c.requires.in_range i)

pub quotient-requires-clause-denominator : goal.quotient-requires-clause-denominator
quotient-requires-clause-denominator c =
    let a : SFits w128 c.args.a = c.ranges.a in
    let b : SFits w128 c.args.b = c.ranges.b in
    let i : IsGcd (unsigned_abs c.args.a) (unsigned_abs c.args.b) c.gcd-divisor.result = simp to_z-of_z at c.gcd-divisor.ensures.greatest in
    let above = divisor_above c.args.a c.args.b c.gcd-divisor.result c.requires.a i in
    let small = divisor_small c.args.a c.args.b c.gcd-divisor.result c.requires.a c.requires.in_range i in
    let is = to_z_pos w128 c.gcd-divisor.result small in
    omega (arith, ints, is, above)

pub returns-then-is_large : goal.returns-then-is_large
returns-then-is_large c =
    let a : SFits w128 c.args.a = c.ranges.a in
    let b : SFits w128 c.args.b = c.ranges.b in
    let i : IsGcd (unsigned_abs c.args.a) (unsigned_abs c.args.b) c.gcd-divisor.result = simp to_z-of_z at c.gcd-divisor.ensures.greatest in
    let g : c.gcd-divisor.result ≡ gcd_of c.args.a c.args.b = simp to_z-of_z at c.gcd-divisor.ensures.value in
    let small = divisor_small c.args.a c.args.b c.gcd-divisor.result c.requires.a c.requires.in_range i in
    let q : c.quotient.result ≡ int_div c.args.b (to_z w128 c.gcd-divisor.result) = simp to_z-of_z at c.quotient.ensures in
    let q_fits : SFits w128 c.quotient.result = search rules in
    let m_fits : SFits w128 c.in-Some.multiple = search rules in
    let is : c.in-Some.multiple ≡ c.args.a *ℤ c.quotient.result = simp to_z-of_z at c.in-Some.ensures.1 in
    let whole : c.in-Some.multiple ≡ multiple_of c.args.a c.args.b =
    is ∙ ap (λ z. c.args.a *ℤ z) (q ∙ ap (λ z. int_div c.args.b z) (to_z_pos w128 c.gcd-divisor.result small ∙ ap pos g)) in
    let large : is_large (multiple_of c.args.a c.args.b) ≡ true =
    ap is_large (sym whole ∙ sym (to_z-of_z w128 c.in-Some.multiple m_fits)) ∙ sym c.is_large.ensures ∙ c.if-is_large.true in
    simp to_z-of_z (large_fault c.args.a c.args.b (Wide c.args.a c.args.b) refl large)

pub returns-else-is_large : goal.returns-else-is_large
returns-else-is_large c =
    let a : SFits w128 c.args.a = c.ranges.a in
    let b : SFits w128 c.args.b = c.ranges.b in
    let i : IsGcd (unsigned_abs c.args.a) (unsigned_abs c.args.b) c.gcd-divisor.result = simp to_z-of_z at c.gcd-divisor.ensures.greatest in
    let g : c.gcd-divisor.result ≡ gcd_of c.args.a c.args.b = simp to_z-of_z at c.gcd-divisor.ensures.value in
    let small = divisor_small c.args.a c.args.b c.gcd-divisor.result c.requires.a c.requires.in_range i in
    let q : c.quotient.result ≡ int_div c.args.b (to_z w128 c.gcd-divisor.result) = simp to_z-of_z at c.quotient.ensures in
    let q_fits : SFits w128 c.quotient.result = search rules in
    let m_fits : SFits w128 c.in-Some.multiple = search rules in
    let is : c.in-Some.multiple ≡ c.args.a *ℤ c.quotient.result = simp to_z-of_z at c.in-Some.ensures.1 in
    let whole : c.in-Some.multiple ≡ multiple_of c.args.a c.args.b =
    is ∙ ap (λ z. c.args.a *ℤ z) (q ∙ ap (λ z. int_div c.args.b z) (to_z_pos w128 c.gcd-divisor.result small ∙ ap pos g)) in
    let few : is_large (multiple_of c.args.a c.args.b) ≡ false =
    ap is_large (sym whole ∙ sym (to_z-of_z w128 c.in-Some.multiple m_fits)) ∙ sym c.is_large.ensures ∙ c.if-is_large.false in
    (to_z-of_z w128 c.in-Some.multiple m_fits ∙ whole, small_narrow c.args.a c.args.b few)

pub returns-in-None : goal.returns-in-None
returns-in-None c =
    let a : SFits w128 c.args.a = c.ranges.a in
    let b : SFits w128 c.args.b = c.ranges.b in
    let i : IsGcd (unsigned_abs c.args.a) (unsigned_abs c.args.b) c.gcd-divisor.result = simp to_z-of_z at c.gcd-divisor.ensures.greatest in
    let g : c.gcd-divisor.result ≡ gcd_of c.args.a c.args.b = simp to_z-of_z at c.gcd-divisor.ensures.value in
    let small = divisor_small c.args.a c.args.b c.gcd-divisor.result c.requires.a c.requires.in_range i in
    let q : c.quotient.result ≡ int_div c.args.b (to_z w128 c.gcd-divisor.result) = simp to_z-of_z at c.quotient.ensures in
    let q_fits : SFits w128 c.quotient.result = search rules in
    let same : c.quotient.result ≡ int_div c.args.b (pos c.gcd-divisor.result) = q ∙ ap (λ z. int_div c.args.b z) (to_z_pos w128 c.gcd-divisor.result small) in
    let high : pos 0 ≤ℤ c.quotient.result = subst (λ z. pos 0 ≤ℤ z) (sym same) (quotient_above c.args.b c.gcd-divisor.result c.requires.b) in
    let low : pos 0 ≤ℤ c.args.a = (let p = c.requires.a in omega (arith, ints)) in
    let wide : SFits w128 (c.args.a *ℤ c.quotient.result) → ⊥ = simp to_z-of_z at c.in-None.ensures in
    let large : is_large (multiple_of c.args.a c.args.b) ≡ true =
    ap (λ z. is_large (c.args.a *ℤ z)) (sym (same ∙ ap (λ n. int_div c.args.b (pos n)) g)) ∙ not_fitting_large c.args.a c.quotient.result low high wide in
    simp to_z-of_z (large_fault c.args.a c.args.b (Wide c.args.a c.args.b) refl large)
