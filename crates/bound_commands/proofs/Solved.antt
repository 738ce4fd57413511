-- From what a solver answers to the answer of the task.
use Rattle.std.proofs.Common.{◌≡◌, ℕ, List, map, ℤ, unsigned_abs, Some, Result, Ok, Err, refl, ◌∙◌, ap, subst}
use Rattle.std.specs.Prelude.{IfOk, IfErr}
use Rattle.whole_rows.specs.Rows.{RowsData}
use Rattle.whole_simplex.specs.declared.Optimum.{Optimum}
use Rattle.whole_simplex.specs.declared.SolveFault.{SolveFault}
use Rattle.whole_simplex.specs.declared.SolveFault.TheVariants.{Unbounded, Pivots, Entries, Wide, Multiplier, Memory}
use Rattle.whole_simplex.specs.Answers.{IsOptimum, IsUnbounded, IsUnboundedFault}
use Rattle.whole_simplex.specs.Outcome.{Outcome, TooLarge, Greatest, LargeMultiplier, Direction, Limit, TooWide, SaysOutcome}
use Rattle.command_steps.specs.declared.halt.Refusal.{Refusal}
use Rattle.command_steps.specs.declared.halt.Halt.{Halt}
use Rattle.command_steps.specs.declared.halt.Halt.TheVariants as halt
use Rattle.command_steps.specs.Steps.{Says}
use Rattle.reports.specs.Solved.{unbounded_refusal, pivots_refusal, entries_refusal, wide_refusal, multiplier_refusal}
use Rattle.bound_commands.specs.Found.{solved_as}
use Rattle.bound_commands.specs.Solving.{Saying, AnswersOutcome}

abbrev answers : List ℕ → Result (List ℕ) Refusal
answers text = Ok text

abbrev refuses : Refusal → Result (List ℕ) Refusal
refuses refusal = Err refusal

some_one : (given other : Result (List ℕ) Refusal) → Some other ≡ Some given → given ≡ other
some_one given other is = cc

-- an optimum and what is said of it, where its parts are known by other names
optimum_is : (d : RowsData) (ms multipliers : List ℤ) (by denominator value bound : ℤ) → ms ≡ multipliers → by ≡ denominator → value ≡ bound
    → IsOptimum d ms by value → IsOptimum d multipliers denominator bound
optimum_is d ms multipliers by denominator value bound one two three optimal =
    subst (λ (x : List ℤ). IsOptimum d x denominator bound) one
    (subst (λ (x : ℤ). IsOptimum d ms x bound) two (subst (λ (x : ℤ). IsOptimum d ms by x) three optimal))

said_is : (say : Saying) (ms multipliers : List ℤ) (by denominator value bound : ℤ) → ms ≡ multipliers → by ≡ denominator → value ≡ bound
    → answers (say (map unsigned_abs ms) (unsigned_abs by) (unsigned_abs value))
    ≡ answers (say (map unsigned_abs multipliers) (unsigned_abs denominator) (unsigned_abs bound))
said_is say ms multipliers by denominator value bound one two three = cc

-- what was found, with what it means, is the outcome's answer
outcome_answered : (say : Saying) (full solved : RowsData) (limit : ℕ) (outcome : Outcome) (found : Result Optimum SolveFault)
    (given : Result (List ℕ) Refusal)
    → SaysOutcome solved limit outcome found → IfOk found (λ optimum. IsOptimum full optimum.multipliers optimum.denominator optimum.bound)
    → IfErr found (IsUnboundedFault full)
    → solved_as say found ≡ Some given → AnswersOutcome say full solved limit outcome given
outcome_answered say full solved limit (Greatest number multipliers denominator bound) (Ok optimum) given says optimal ray is = (
  optimum_is full optimum.multipliers multipliers optimum.denominator denominator optimum.bound bound says.1 says.2 says.3 optimal,
  some_one given (answers (say (map unsigned_abs optimum.multipliers) (unsigned_abs optimum.denominator) (unsigned_abs optimum.bound))) is
      ∙ said_is say optimum.multipliers multipliers optimum.denominator denominator optimum.bound bound says.1 says.2 says.3,
)
outcome_answered say full solved limit (Direction direction) (Err (Unbounded ray)) given says optimal unbounded is = (
  subst (λ (r : List ℤ). IsUnbounded full r) says unbounded,
  some_one given (refuses (unbounded_refusal ray)) is ∙ ap (λ (r : List ℤ). refuses (unbounded_refusal r)) says,
)
outcome_answered say full solved limit Limit (Err (Pivots count)) given says optimal ray is =
    some_one given (refuses (pivots_refusal count)) is ∙ ap (λ (n : ℕ). refuses (pivots_refusal n)) says
outcome_answered say full solved limit TooLarge (Err (Entries rows columns)) given says optimal ray is =
    some_one given (refuses (entries_refusal rows columns)) is ∙ rw (says.0, says.1) refl
outcome_answered say full solved limit (TooWide number pairs) (Err (Wide pivots a b)) given says optimal ray is =
    (a, b, says.1, some_one given (refuses (wide_refusal pivots a b)) is ∙ ap (λ (n : ℕ). refuses (wide_refusal n a b)) says.0)
outcome_answered say full solved limit (LargeMultiplier values) (Err (Multiplier value)) given says optimal ray is =
    (value, says.0, says.1, some_one given (refuses (multiplier_refusal value)) is)
outcome_answered say full solved limit outcome (Err Memory) given says optimal ray is = absurd cc
outcome_answered say full solved limit outcome found given says optimal ray is = absurd says

-- the same of a step
pub outcome_said : (say : Saying) (full solved : RowsData) (limit : ℕ) (outcome : Outcome) (found : Result Optimum SolveFault)
    (r : Result (List ℕ) Halt)
    → SaysOutcome solved limit outcome found → IfOk found (λ optimum. IsOptimum full optimum.multipliers optimum.denominator optimum.bound)
    → IfErr found (IsUnboundedFault full)
    → Says (λ given. solved_as say found ≡ Some given) r → Says (AnswersOutcome say full solved limit outcome) r
outcome_said say full solved limit outcome found (Ok text) says optimal ray is = outcome_answered say full solved limit outcome found
    (answers text) says optimal ray is
outcome_said say full solved limit outcome found (Err (halt.Refused refusal)) says optimal ray is =
    outcome_answered say full solved limit outcome found (refuses refusal) says optimal ray is
outcome_said say full solved limit outcome found (Err (halt.Failed name)) says optimal ray is = is
outcome_said say full solved limit outcome found (Err halt.Memory) says optimal ray is = tt
