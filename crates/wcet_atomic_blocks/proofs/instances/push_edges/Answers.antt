use Rattle.std.proofs.Common.{arith, rules}
use Rattle.std.proofs.lemmas.Grind.{common_steps}
use Rattle.wcet_atomic_blocks.specs.Loops.{id_passes, edge_id}
use Rattle.wcet_atomic_blocks.specs.Working.Wanted.{edge_test}
use Rattle.wcet_atomic_blocks.proofs.LoopLists.{kept_more}
use Rattle.wcet_atomic_blocks.proofs.instances.push_edges.Goals as goal

pub loop-i-preserved : goal.loop-i-preserved
loop-i-preserved c =
    kept_more (id_passes c.args.flow.now (edge_test c.args.wanted c.args.head.now c.args.range.now)) (edge_id c.args.number) c.loop-i.i c.args.ids.now
    c.loop-i.ids _
    c.id_passes.result (search rules) c.loop-i.invariant (grind (arith, common_steps))
