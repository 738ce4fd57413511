use Rattle.std.proofs.Common.{◌++◌, ap, ◌∙◌, sym}
use Rattle.wcet_atomic_blocks.specs.Loops.{instances_from}
use Rattle.wcet_atomic_blocks.proofs.LoopLists.{flat_map_counts}
use Rattle.wcet_atomic_blocks.proofs.instances.loop_instances.Goals as goal

pub loop-number-preserved : goal.loop-number-preserved
loop-number-preserved c =
    let flow = c.args.flow.now in let blocks = c.as_slice-blocks.result.now in let loops = c.args.timing.now.loops in let number = c.loop-number.number in
    c.in_ok-push_from.ensures ∙ ap (λ ls. c.loop-number.found ++ instances_from flow blocks ls number) c.as_slice.ensures
    ∙ ap (λ found. found ++ instances_from flow blocks loops number) c.loop-number.invariant
    ∙ sym (flat_map_counts (instances_from flow blocks loops) number)
