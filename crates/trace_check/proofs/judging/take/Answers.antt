use Rattle.std.proofs.Common.{◌<◌, List, Option, length, sym, subst}
use Rattle.std.specs.Prelude.{IfSome}
use Rattle.abstract_sched.specs.declared.states.AbsState.{AbsState}
use Rattle.row_build.specs.Columns.{takes_source}
use Rattle.trace_check.specs.declared.tables.Step.{Step}
use Rattle.trace_check.specs.Working.Tables.{AreTables}
use Rattle.trace_check.proofs.Tabling.{step_with, found_listed}
use Rattle.trace_check.proofs.judging.take.Goals as goal

pub take-requires-clause-listed : goal.take-requires-clause-listed
take-requires-clause-listed c =
    let states = c.args.cert.now.states in
    let tables : AreTables c.args.plant.now states c.fill.new.self =
    subst (λ (s : List AbsState). AreTables c.args.plant.now s c.fill.new.self) c.as_slice.ensures c.in_ok-fill.ensures.tables in
    let made = tables.rows.each c.args.follower.now.state c.steps.result.now c.steps.ensures in
    subst (λ (o : Option Step). IfSome o (λ s. s.to < length states)) (sym c.take_in-step.ensures)
    (found_listed (λ s. s.to < length states) (λ step. takes_source c.args.source step.label) c.steps.result.now made.listed)

pub returns-clause-goes : goal.returns-clause-goes
returns-clause-goes c = λ f follows.
    let states = c.args.cert.now.states in
    let tables : AreTables c.args.plant.now states c.fill.new.self =
    subst (λ (s : List AbsState). AreTables c.args.plant.now s c.fill.new.self) c.as_slice.ensures c.in_ok-fill.ensures.tables in
    let made = tables.rows.each c.args.follower.now.state c.steps.result.now c.steps.ensures in
    c.take.ensures f follows (record {
      is = rw (c.take_in-step.ensures)
          (step_with c.args.plant.now states c.args.follower.now.state f.state c.steps.result.now (takes_source c.args.source) follows.state made);
      listed = subst (λ (o : Option Step). IfSome o (λ s. s.to < length states)) (sym c.take_in-step.ensures)
          (found_listed (λ s. s.to < length states) (λ step. takes_source c.args.source step.label) c.steps.result.now made.listed);
    })
