-- Euclid's steps keep the greatest common divisor; the last one goes on in 64 bits.
use Rattle.std.proofs.Common.{◌≡◌, ◌%◌, arith, rules}
use Rattle.std.specs.Int.{IsGcd}
use Rattle.std.proofs.lemmas.Nat.Gcd.{IsGcd-from_mod, IsGcd-from_zero}
use Rattle.whole_rows.specs.Row.{nat_gcd}
use Rattle.whole_rows.proofs.Divisors.{nat_gcd_is, same-nat_gcd}
use Rattle.whole_rows.proofs.row.common_divisor.Goals as goal

pub loop-y-preserved : goal.loop-y-preserved
loop-y-preserved c = λ g h. c.loop-y.invariant g (IsGcd-from_mod c.loop-y.x c.loop-y.y g h)

pub returns-then-y-eq0 : goal.returns-then-y-eq0
returns-then-y-eq0 c =
    let ended : c.loop-y.y ≡ 0 = omega arith in
    same-nat_gcd c.args.a c.args.b c.loop-y.x (c.loop-y.invariant c.loop-y.x (IsGcd-from_zero c.loop-y.x c.loop-y.y ended))

pub returns : goal.returns
returns c =
    let value : c.from.result ≡ nat_gcd c.loop-y.y (c.loop-y.x % c.loop-y.y) = search rules in
    let rest : IsGcd c.loop-y.y (c.loop-y.x % c.loop-y.y) c.from.result = rw value (nat_gcd_is c.loop-y.y (c.loop-y.x % c.loop-y.y)) in
    same-nat_gcd c.args.a c.args.b c.from.result (c.loop-y.invariant c.from.result (IsGcd-from_mod c.loop-y.x c.loop-y.y c.from.result rest))
