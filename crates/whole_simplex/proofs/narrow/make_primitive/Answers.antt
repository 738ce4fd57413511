-- A divisor up to 1 divides nothing, and no divisor exceeds the entries.
use Rattle.std.proofs.Common.{◌<◌, ◌≤◌, ◌/◌, sym, subst, List, ℤ, arith}
use Rattle.whole_rows.specs.Row.{divisor_of}
use Rattle.whole_rows.proofs.Divisors.{divided_by-small}
use Rattle.whole_simplex.specs.Sizes.{AreWithin}
use Rattle.whole_simplex.proofs.Reducing.{divided_within, divisor_within}
use Rattle.whole_simplex.proofs.narrow.make_primitive.Goals as goal

pub returns-then-divisor-le1-clause-primitive : goal.returns-then-divisor-le1-clause-primitive
returns-then-divisor-le1-clause-primitive c =
    let small : divisor_of c.args.row.now ≤ 1 = omega (arith, c.divisor_from-divisor.ensures) in
    sym (divided_by-small (divisor_of c.args.row.now) c.args.row.now small)

pub divide-requires-clause-divisor : goal.divide-requires-clause-divisor
divide-requires-clause-divisor c = omega (arith, c.divisor_from-divisor.ensures, divisor_within c.args.row.now c.args.bound c.requires.within)

pub returns-clause-within : goal.returns-clause-within
returns-clause-within c =
    let above : 0 < c.divisor_from-divisor.result.value = omega arith in
    subst (λ (r : List ℤ). AreWithin (c.args.bound / c.divisor_from-divisor.result.value) r) (sym c.divide.ensures) (divided_within c.args.row.now c.divisor_from-divisor.result.value c.args.bound above c.requires.within)
