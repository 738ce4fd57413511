use Rattle.std.proofs.Common.{ℕ, IfOk, IfErr, sym, subst}
use Rattle.whole_rows.specs.Rows.{RowsData}
use Rattle.whole_simplex.specs.Answers.{IsOptimum, IsUnboundedFault}
use Rattle.whole_simplex.specs.Outcome.{SaysOutcome, outcome_of}
use Rattle.cut_search.specs.Search.{pivot_limit}
use Rattle.cut_search.proofs.Rays.{root_rows}
use Rattle.cut_search.proofs.judging.solved.Goals as goal

pub returns-then-are_free-clause-outcome : goal.returns-then-are_free-clause-outcome
returns-then-are_free-clause-outcome c =
    let root = root_rows c.args.base.now c.args.limits.now (c.are_free.ensures c.if-are_free.true) in
    subst (λ (d : RowsData). SaysOutcome d pivot_limit (outcome_of d pivot_limit) c.solve.result) (sym root)
    (subst (λ (n : ℕ). SaysOutcome c.args.base.now n (outcome_of c.args.base.now n) c.solve.result) c.pivot_limit.ensures c.solve.ensures.outcome)

pub returns-then-are_free-clause-optimum : goal.returns-then-are_free-clause-optimum
returns-then-are_free-clause-optimum c =
    let root = root_rows c.args.base.now c.args.limits.now (c.are_free.ensures c.if-are_free.true) in
    subst (λ (d : RowsData). IfOk c.solve.result (λ o. IsOptimum d o.multipliers o.denominator o.bound)) (sym root) c.solve.ensures.optimum

pub returns-then-are_free-clause-ray : goal.returns-then-are_free-clause-ray
returns-then-are_free-clause-ray c =
    let root = root_rows c.args.base.now c.args.limits.now (c.are_free.ensures c.if-are_free.true) in
    subst (λ (d : RowsData). IfErr c.solve.result (IsUnboundedFault d)) (sym root) c.solve.ensures.ray

pub returns-in-Ok-clause-outcome : goal.returns-in-Ok-clause-outcome
returns-in-Ok-clause-outcome c =
    subst (λ (d : RowsData). SaysOutcome d pivot_limit (outcome_of d pivot_limit) c.solve-in-Ok.result) c.in-Ok.ensures
    (subst (λ (n : ℕ). SaysOutcome c.in-Ok.rows n (outcome_of c.in-Ok.rows n) c.solve-in-Ok.result) c.pivot_limit-in-Ok.ensures c.solve-in-Ok.ensures.outcome)
