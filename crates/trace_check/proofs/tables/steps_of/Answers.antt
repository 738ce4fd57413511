use Rattle.std.proofs.Common.{sym, All, Contains, subst, List}
use Rattle.scheduler_moves.specs.declared.moves.Move.{Move}
use Rattle.row_build.specs.Working.Numbered.{state_at}
use Rattle.row_build.proofs.States.{state_is, listed_from}
use Rattle.trace_check.specs.Working.Tables.{AreMade, AreSteps}
use Rattle.trace_check.proofs.Tabling.{if_ok, steps_made}
use Rattle.trace_check.proofs.tables.steps_of.Goals as goal

pub steps_to-requires-clause-listed : goal.steps_to-requires-clause-listed
steps_to-requires-clause-listed c =
    let states = c.args.states.now in let state = c.index-states-number.result in
    let same = state_is states c.args.number state c.requires.exists c.index-states-number.is in
    subst (λ (moves : List Move). All (λ made. Contains states made.to) moves) (sym c.as_slice.ensures)
    (listed_from c.args.plant.now states state (state_at states c.args.number) c.in-Ok.moves same c.requires.stays c.in-Ok.ensures)

pub returns-in-Ok : goal.returns-in-Ok
returns-in-Ok c =
    let states = c.args.states.now in let state = c.index-states-number.result in
    let same = state_is states c.args.number state c.requires.exists c.index-states-number.is in
    if_ok (AreMade states c.as_slice.result.now) (AreSteps c.args.plant.now states c.args.number) c.steps_to.result
    (steps_made c.args.plant.now states c.args.number state c.in-Ok.moves c.as_slice.result.now c.as_slice.ensures same c.in-Ok.ensures)
    c.steps_to.ensures
