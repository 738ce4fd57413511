-- The lines of a table, two by two.
use Rattle.whole_simplex.proofs.SharedDivisors.{primitive_lines, shared_divisors}
use Rattle.whole_simplex.proofs.laws.divisors_are_shared.Goals as goal

pub returns-clause-primitive : goal.returns-clause-primitive
returns-clause-primitive c = λ number. primitive_lines c.args.rows.now number c.row_count-rows.ensures.rows

pub returns-clause-shared : goal.returns-clause-shared
returns-clause-shared c = λ number. shared_divisors c.args.rows.now number c.row_count-rows.ensures.rows
