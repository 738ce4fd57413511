use Rattle.std.proofs.Common.{◌≤◌, ◌*◌, arith}
use Rattle.std.proofs.Math.Nat.{mul-le-mul}
use Rattle.row_build.proofs.arriving.product.Goals as goal

pub overflow_mul-result : goal.overflow_mul-result
overflow_mul-result c =
    let left : c.from.result ≤ 4294967295 = omega (arith, c.from.ensures, c.ranges.left.fits) in
    let right : c.from-2.result ≤ 4294967295 = omega (arith, c.from-2.ensures, c.ranges.right.fits) in
    let most : c.from.result * c.from-2.result ≤ 4294967295 * 4294967295 = mul-le-mul left right in
    record { fits = omega (arith, most) }
