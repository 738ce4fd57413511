-- What divides both entries divides what they share.
use Rattle.std.proofs.Common.{ℕ, sym, subst}
use Rattle.std.specs.Int.{◌∣◌}
use Rattle.whole_rows.specs.Row.{divisor_of}
use Rattle.whole_simplex.proofs.Reducing.{divides_both}
use Rattle.whole_simplex.proofs.narrow.reduce.Goals as goal

pub make_primitive-requires-clause-multiple : goal.make_primitive-requires-clause-multiple
make_primitive-requires-clause-multiple c =
    subst (λ (d : ℕ). divisor_of c.args.row.now ∣ d) (sym c.narrow_gcd-multiple.ensures)
    (divides_both (divisor_of c.args.row.now) c.size_at.result c.size_at-2.result c.size_at.ensures c.size_at-2.ensures)
