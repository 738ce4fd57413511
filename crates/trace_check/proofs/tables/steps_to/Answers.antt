use Rattle.std.proofs.Common.{Contains, sym, subst}
use Rattle.scheduler_moves.specs.declared.moves.Move.{Move}
use Rattle.trace_check.proofs.Tabling.{made_more}
use Rattle.trace_check.proofs.tables.steps_to.Goals as goal

pub number_of-requires-clause-listed : goal.number_of-requires-clause-listed
number_of-requires-clause-listed c =
    subst (λ (m : Move). Contains c.args.states.now m.to) (sym c.made-item.is)
    (c.requires.listed c.loop-made.made-index c.made-item.result c.loop-made-test.true)

pub loop-made-preserved : goal.loop-made-preserved
loop-made-preserved c =
    made_more c.args.states.now c.args.moves.now c.loop-made.made-index c.made-item.result c.loop-made.steps c.push.new.self c.number_of.result
    c.loop-made-test.true c.made-item.is c.in_ok-push.ensures.ok c.number_of.ensures c.loop-made.invariant
