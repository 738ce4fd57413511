use Rattle.std.proofs.Common.{arith, rules, ◌∙◌, get_or, None}
use Rattle.scheduler_moves.proofs.TaskLists.{tasks_more, tasks_all}
use Rattle.scheduler_moves.proofs.parts.tasks_at.Goals as goal

pub loop-place-preserved : goal.loop-place-preserved
loop-place-preserved c =
    let actives = c.args.actives.now in let blocks = c.args.blocks.now in let i = c.loop-place.place in
    let more = tasks_more actives blocks i c.index-actives-place.result (get_or blocks i None) (omega arith) (omega arith) c.index-actives-place.is
    (search rules) in
    cc (c.in_ok-push.ensures.ok, c.in_ok-task_at.ensures, c.as_ref.ensures.value, c.loop-place.invariant)

pub returns : goal.returns
returns c = c.loop-place.invariant ∙ tasks_all c.args.actives.now c.args.blocks.now c.loop-place.place (omega arith)
