-- The size's quotient with the sign is the number's.
use Rattle.std.proofs.Common.{◌≡◌, refl, ◌∙◌, rules, arith}
use Rattle.std.specs.Prelude.{unsigned_abs}
use Rattle.std.specs.Int.{w64}
use Rattle.std.proofs.lemmas.Int.{to_z-of_z}
use mir.Val.{SFits}
use Rattle.whole_simplex.specs.Sizes.{with_sign}
use Rattle.whole_simplex.proofs.Reducing.{factor_within, sized_quotient}
use Rattle.whole_simplex.proofs.divisor.Divisor.quotient.Goals as goal

pub signed-requires : goal.signed-requires
signed-requires c =
    let fits : SFits w64 c.args.number = c.ranges.number in
    let size : c.unsigned_abs.result ≡ unsigned_abs c.args.number = simp to_z-of_z at c.unsigned_abs.ensures.value in
    omega (arith, c.requires.number, size, factor_within c.in-Some.size c.args.self.now.value c.unsigned_abs.result c.requires.above (c.in-Some.ensures c.in-Some.size refl))

pub returns-in-Some : goal.returns-in-Some
returns-in-Some c =
    let fits : SFits w64 c.args.number = c.ranges.number in
    let signed_fits : SFits w64 c.signed.result = search rules in
    let size : c.unsigned_abs.result ≡ unsigned_abs c.args.number = simp to_z-of_z at c.unsigned_abs.ensures.value in
    let is : c.signed.result ≡ with_sign c.in-Some.size c.args.number = simp to_z-of_z at c.signed.ensures in
    to_z-of_z w64 c.signed.result signed_fits ∙ is ∙ sized_quotient c.in-Some.size c.args.self.now.value c.args.number c.requires.above (c.in-Some.ensures c.in-Some.size refl ∙ size)
