use Rattle.std.proofs.Common.{◌++◌, ap, ◌∙◌, sym}
use Rattle.std.specs.Prelude.{filter}
use Rattle.wcet_atomic_blocks.specs.Loops.{id_passes, is_entering, edges_from}
use Rattle.wcet_atomic_blocks.proofs.LoopLists.{filter_flat_counts}
use Rattle.wcet_atomic_blocks.proofs.instances.entering_of.Goals as goal

pub loop-place-preserved : goal.loop-place-preserved
loop-place-preserved c =
    c.in_ok-push_edges.ensures
    ∙ ap (λ ids. ids ++ filter (id_passes c.args.flow.now (is_entering c.args.head.now c.args.range.now)) (edges_from c.args.flow.now c.loop-place.place))
    c.loop-place.invariant
    ∙ sym (filter_flat_counts (id_passes c.args.flow.now (is_entering c.args.head.now c.args.range.now)) (edges_from c.args.flow.now) c.loop-place.place)
