-- A divisor up to 1 divides nothing.
use Rattle.std.proofs.Common.{◌≡◌, ◌≤◌, sym, arith, rules}
use Rattle.whole_rows.specs.Row.{divisor_of}
use Rattle.whole_rows.proofs.Divisors.{divided_by-small}
use Rattle.whole_rows.proofs.row.primitive.Goals as goal

pub returns-else-divisor-gt1 : goal.returns-else-divisor-gt1
returns-else-divisor-gt1 c =
    let is : c.divisor-divisor.result ≡ divisor_of c.args.row.now = search rules in
    let small : divisor_of c.args.row.now ≤ 1 = omega arith in
    sym (divided_by-small (divisor_of c.args.row.now) c.args.row.now small)
