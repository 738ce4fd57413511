use Rattle.std.proofs.Common.{◌<◌, List, Option, length, sym, subst}
use Rattle.std.specs.Prelude.{IfSome}
use Rattle.abstract_sched.specs.declared.states.AbsState.{AbsState}
use Rattle.trace_check.specs.declared.tables.Step.{Step}
use Rattle.trace_check.specs.Working.Tables.{AreTables}
use Rattle.trace_check.proofs.Following.{service_step, service_listed}
use Rattle.trace_check.proofs.judging.serve.Goals as goal

pub serve-requires-clause-listed : goal.serve-requires-clause-listed
serve-requires-clause-listed c =
    let states = c.args.cert.now.states in
    let tables : AreTables c.args.plant.now states c.fill.new.self =
    subst (λ (s : List AbsState). AreTables c.args.plant.now s c.fill.new.self) c.as_slice.ensures c.in_ok-fill.ensures.tables in
    let made = tables.rows.each c.args.follower.now.state c.steps.result.now c.steps.ensures in
    subst (λ (o : Option Step). IfSome o (λ s. s.to < length states)) (sym c.service_in-step.ensures)
    (service_listed (λ s. s.to < length states) c.steps.result.now c.in_ok-node.node made.listed)

pub returns-clause-goes : goal.returns-clause-goes
returns-clause-goes c = λ f follows.
    let states = c.args.cert.now.states in
    let tables : AreTables c.args.plant.now states c.fill.new.self =
    subst (λ (s : List AbsState). AreTables c.args.plant.now s c.fill.new.self) c.as_slice.ensures c.in_ok-fill.ensures.tables in
    let made = tables.rows.each c.args.follower.now.state c.steps.result.now c.steps.ensures in
    c.serve.ensures f c.args.context c.args.sites.now c.args.address follows (record {
      is = rw (c.service_in-step.ensures, ← c.in_ok-node.ensures)
          (service_step c.args.plant.now states c.args.follower.now.state f.state c.steps.result.now c.in_ok-node.node follows.state made);
      listed = subst (λ (o : Option Step). IfSome o (λ s. s.to < length states)) (sym c.service_in-step.ensures)
          (service_listed (λ s. s.to < length states) c.steps.result.now c.in_ok-node.node made.listed);
    })
