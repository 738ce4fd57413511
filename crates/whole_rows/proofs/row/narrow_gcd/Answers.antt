-- Euclid's steps keep the greatest common divisor.
use Rattle.std.proofs.Common.{◌≡◌, arith}
use Rattle.std.proofs.lemmas.Nat.Gcd.{IsGcd-from_mod, IsGcd-from_zero}
use Rattle.whole_rows.proofs.Divisors.{same-nat_gcd}
use Rattle.whole_rows.proofs.row.narrow_gcd.Goals as goal

pub loop-y-preserved : goal.loop-y-preserved
loop-y-preserved c = λ g h. c.loop-y.invariant g (IsGcd-from_mod c.loop-y.x c.loop-y.y g h)

pub returns : goal.returns
returns c =
    let ended : c.loop-y.y ≡ 0 = omega arith in
    same-nat_gcd c.args.a c.args.b c.loop-y.x (c.loop-y.invariant c.loop-y.x (IsGcd-from_zero c.loop-y.x c.loop-y.y ended))
