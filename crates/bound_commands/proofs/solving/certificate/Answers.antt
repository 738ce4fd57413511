use Rattle.std.proofs.Common.{List, subst}
use Rattle.std.specs.Prelude.{IfOk, IfErr}
use Rattle.abstract_sched.specs.declared.states.AbsState.{AbsState}
use Rattle.whole_simplex.specs.Answers.{IsOptimum, IsUnboundedFault}
use Rattle.whole_simplex.specs.Outcome.{SaysOutcome}
use Rattle.row_build.specs.Rows.{rows_of}
use Rattle.bound_solver.specs.Bounds.{solved_rows, bound_outcome}
use Rattle.bound_commands.specs.Solving.{cert_saying}
use Rattle.bound_commands.proofs.Solved.{outcome_said}
use Rattle.bound_commands.proofs.solving.certificate.Goals as goal

pub returns : goal.returns
returns c =
    let plant = c.args.analysed.now.plant in
    let states = c.args.states in
    let task = c.args.analysed.now.task in
    let pivots = c.args.pivots in
    let found = c.bound_of-found.result in
    let outcome = subst (λ (s : List AbsState). SaysOutcome (solved_rows plant s task) pivots (bound_outcome plant s task pivots) found)
    c.as_slice.ensures c.bound_of-found.ensures.outcome in
    let optimum = subst (λ (s : List AbsState). IfOk found (λ o. IsOptimum (rows_of plant s task) o.multipliers o.denominator o.bound))
    c.as_slice.ensures c.bound_of-found.ensures.optimum in
    let ray = subst (λ (s : List AbsState). IfErr found (IsUnboundedFault (rows_of plant s task))) c.as_slice.ensures c.bound_of-found.ensures.ray in
    outcome_said (cert_saying c.args.name.now task states) (rows_of plant states task) (solved_rows plant states task) pivots
    (bound_outcome plant states task pivots) found c.certificate_found.result outcome optimum ray c.certificate_found.ensures
