use Rattle.std.proofs.Common.{arith}
use Rattle.std.proofs.lemmas.Grind.{common_steps}
use Rattle.wcet_atomic_blocks.specs.Blocks.{is_service}
use Rattle.wcet_atomic_blocks.proofs.BeginLists.{filter_counts}
use Rattle.wcet_atomic_blocks.proofs.beginnings.services.Goals as goal

pub loop-node-preserved : goal.loop-node-preserved
loop-node-preserved c = rw (filter_counts (is_service c.args.flow.now) c.loop-node.node) (grind (arith, common_steps))
