-- What is computed is the greatest common divisor of the sizes.
use Rattle.std.proofs.Common.{◌≡◌, unsigned_abs, rules}
use Rattle.whole_rows.specs.Row.{nat_gcd}
use Rattle.whole_rows.proofs.Divisors.{nat_gcd_is}
use Rattle.whole_rows.proofs.row.gcd.Goals as goal

pub returns-clause-greatest : goal.returns-clause-greatest
returns-clause-greatest c =
    let value : c.common_divisor.result ≡ nat_gcd (unsigned_abs c.args.a) (unsigned_abs c.args.b) = search rules in
    rw value (nat_gcd_is (unsigned_abs c.args.a) (unsigned_abs c.args.b))
