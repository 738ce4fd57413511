-- One place more at each turn.
use Rattle.std.proofs.Common.{◌≡◌, ◌<◌, ◌^◌, ℤ, pos, length, get_or, sym, ◌∙◌, subst, rules, arith}
use Rattle.std.specs.Prelude.{int_div, unsigned_abs}
use Rattle.std.specs.Int.{w64}
use Rattle.std.proofs.lemmas.Int.{to_z-of_z}
use Rattle.std.proofs.lemmas.List.{get_or_default}
use Rattle.std.proofs.lemmas.List.Edits.{map_over_more}
use Rattle.whole_simplex.proofs.Scaled.{entry_untouched}
use mir.Val.{SFits, to_z, of_z}
use Rattle.whole_simplex.proofs.narrow.divide.Goals as goal

pub loop-i-preserved : goal.loop-i-preserved
loop-i-preserved c =
    let old = c.args.row.now in
    let now = c.loop-i.row in
    let i = c.loop-i.i in
    let x : ℤ = get_or now i (pos 0) in
    let within : i < length old = search rules in
    let within_now : i < length now = omega arith in
    let fits : SFits w64 (get_or now i (pos 0)) = search rules in
    let new_fits : SFits w64 c.quotient.result = search rules in
    let is : c.quotient.result ≡ int_div (get_or now i (pos 0)) (pos c.args.divisor.now.value) = simp to_z-of_z at c.quotient.ensures in
    let value : to_z w64 (of_z w64 c.quotient.result) ≡ int_div (get_or now i (pos 0)) (pos c.args.divisor.now.value) = to_z-of_z w64 c.quotient.result new_fits ∙ is in
    rw value (map_over_more (λ (z : ℤ). int_div z (pos c.args.divisor.now.value)) old now i (get_or now i (pos 0)) within c.loop-i.invariant (get_or_default now i (pos 0) (get_or now i (pos 0)) within_now))

pub quotient-requires-clause-number : goal.quotient-requires-clause-number
quotient-requires-clause-number c =
    let old = c.args.row.now in
    let i = c.loop-i.i in
    let fits : SFits w64 (get_or c.loop-i.row i (pos 0)) = search rules in
    let same : get_or c.loop-i.row i (pos 0) ≡ get_or old i (pos 0) = entry_untouched (λ x. int_div x (pos c.args.divisor.now.value)) old c.loop-i.row i (pos 0) c.loop-i-test.true c.loop-i.invariant in
    simp to_z-of_z (subst (λ (x : ℤ). unsigned_abs x < 2 ^ 63) (sym same) (c.requires.small i (pos 0) c.loop-i-test.true))
