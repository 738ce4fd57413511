-- The divisor of the entries from the last one on.
use Rattle.std.proofs.Common.{◌≡◌, ◌-◌, ℕ, pos, get_or, length, refl, sym, subst, ◌∙◌, rules, arith}
use Rattle.std.specs.Prelude.{unsigned_abs}
use Rattle.std.specs.Int.{w64, ◌∣◌, IsGcd}
use Rattle.std.proofs.lemmas.Int.{to_z-of_z}
use mir.Val.{SFits}
use Rattle.whole_rows.specs.Row.{divisor_of, nat_gcd}
use Rattle.whole_rows.proofs.Divisors.{nat_gcd_is}
use Rattle.whole_simplex.proofs.Reducing.{sought_more, sought_one, sought_all, gcd_of_multiple, no_entry_sought}
use Rattle.whole_simplex.proofs.narrow.divisor_from.Goals as goal

pub loop-i-init : goal.loop-i-init
loop-i-init c =
    (subst (λ (d : ℕ). divisor_of c.args.row.now ∣ d) (sym c.of-divisor.ensures) c.requires, no_entry_sought c.args.row.now c.of-divisor.result.value)

pub returns-then-divisor-eq1 : goal.returns-then-divisor-eq1
returns-then-divisor-eq1 c = c.if-divisor-eq1.true ∙ sought_one c.args.row.now c.loop-i.divisor.value c.if-divisor-eq1.true c.loop-i.invariant.0

pub loop-i-preserved-then-divides : goal.loop-i-preserved-then-divides
loop-i-preserved-then-divides c =
    let row = c.args.row.now in
    let i = c.loop-i.i in
    let fits : SFits w64 (get_or row (length row - 1 - i) (pos 0)) = search rules in
    let size : c.unsigned_abs-size.result ≡ unsigned_abs (get_or row (length row - 1 - i) (pos 0)) = simp to_z-of_z at c.unsigned_abs-size.ensures.value in
    sought_more row i c.unsigned_abs-size.result c.loop-i.divisor.value c.loop-i.divisor.value c.loop-i-test.true size (gcd_of_multiple c.unsigned_abs-size.result c.loop-i.divisor.value (c.if-divides.ensures refl)) c.loop-i.invariant.0 c.loop-i.invariant.1

pub loop-i-preserved : goal.loop-i-preserved
loop-i-preserved c =
    let row = c.args.row.now in
    let i = c.loop-i.i in
    let fits : SFits w64 (get_or row (length row - 1 - i) (pos 0)) = search rules in
    let size : c.unsigned_abs-size.result ≡ unsigned_abs (get_or row (length row - 1 - i) (pos 0)) = simp to_z-of_z at c.unsigned_abs-size.ensures.value in
    let same : c.of-divisor-in-loop-i.result.value ≡ nat_gcd c.unsigned_abs-size.result c.loop-i.divisor.value = c.of-divisor-in-loop-i.ensures ∙ c.narrow_gcd.ensures in
    let both : IsGcd c.unsigned_abs-size.result c.loop-i.divisor.value c.of-divisor-in-loop-i.result.value = subst (λ (g : ℕ). IsGcd c.unsigned_abs-size.result c.loop-i.divisor.value g) (sym same) (nat_gcd_is c.unsigned_abs-size.result c.loop-i.divisor.value) in
    sought_more row i c.unsigned_abs-size.result c.loop-i.divisor.value c.of-divisor-in-loop-i.result.value c.loop-i-test.true size both c.loop-i.invariant.0 c.loop-i.invariant.1

pub returns : goal.returns
returns c = sought_all c.args.row.now c.loop-i.i c.loop-i.divisor.value (omega arith) c.loop-i.invariant.0 c.loop-i.invariant.1
