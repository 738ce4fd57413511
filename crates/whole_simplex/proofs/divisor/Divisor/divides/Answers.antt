-- A quotient is found.
use Rattle.std.proofs.Common.{ℕ, refl, subst}
use Rattle.std.specs.Int.{◌∣◌}
use Rattle.std.proofs.Math.Nat.{dvd-mul_left}
use Rattle.whole_simplex.proofs.divisor.Divisor.divides.Goals as goal

pub returns-in-Some : goal.returns-in-Some
returns-in-Some c = λ _. subst (λ (n : ℕ). c.args.self.now.value ∣ n) (c.in-Some.ensures c.in-Some.field-0 refl) (dvd-mul_left c.args.self.now.value c.in-Some.field-0)
