use Rattle.std.proofs.Common.{rules, get_or, ◌∙◌}
use Rattle.scheduler_moves.specs.Moves.{service_move, serving_at}
use Rattle.scheduler_moves.specs.Working.Called.{serving_of}
use Rattle.scheduler_moves.proofs.AllOf.{passes_over, goes_on, stops}
use Rattle.scheduler_moves.proofs.Calls.{serving_some, serving_none}
use Rattle.scheduler_moves.proofs.serving.service_moves.Goals as goal
use Rattle.scheduler_moves.proofs.serving.service_moves.Goals.{in-Some+in-Ok+in_ok-push-in-Ok, in_default}

pub returns-in-Err : goal.returns-in-Err
returns-in-Err c =
    let plant = c.args.plant.now in let state = c.args.state.now in let caller = c.args.caller in let exits = c.args.exits.now in
    let i = c.loop-node.node-index in
    let node = get_or exits i 0 in
    let stands = serving_some plant state caller node c.called_at.result c.in-Some.called c.called_at.ensures c.in-Some.is in
    stops (service_move plant state caller) (serving_at plant state caller) exits i node (serving_of plant state caller c.in-Some.called)
    c.in-Err.fault _ c.loop-node.moves
    c.loop-node-test.true (search rules) stands c.in-Err.ensures c.loop-node.invariant

pub loop-node-preserved : goal.loop-node-preserved
loop-node-preserved c =
    let plant = c.args.plant.now in let state = c.args.state.now in let caller = c.args.caller in let exits = c.args.exits.now in
    let i = c.loop-node.node-index in
    let node = get_or exits i 0 in
    elim c.match-called_at.branch [
      | in-Some+in-Ok+in_ok-push-in-Ok w ↦
          let stands = serving_some plant state caller node c.called_at.result w.in-Some.called c.called_at.ensures w.in-Some.is in
          goes_on (service_move plant state caller) (serving_at plant state caller) exits i node (serving_of plant state caller w.in-Some.called)
          w.in-Ok.served _ c.loop-node.moves c.match-called_at.moves
          c.loop-node-test.true (search rules) stands w.in-Ok.ensures (w.moves-is ∙ w.in_ok-push-in-Ok.ensures.ok) c.loop-node.invariant
      | in_default w ↦
          let stands = serving_none plant state caller node c.called_at.result c.called_at.ensures w.in_default.not-Some in
          passes_over (service_move plant state caller) (serving_at plant state caller) exits i node _ c.loop-node.moves c.match-called_at.moves
          c.loop-node-test.true (search rules) stands w.moves-is c.loop-node.invariant
    ]
