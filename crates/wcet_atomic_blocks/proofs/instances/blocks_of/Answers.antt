use Rattle.std.proofs.Common.{arith}
use Rattle.std.proofs.lemmas.Grind.{common_steps}
use Rattle.wcet_atomic_blocks.specs.Loops.{block_enters}
use Rattle.wcet_atomic_blocks.proofs.BeginLists.{filter_counts}
use Rattle.wcet_atomic_blocks.proofs.instances.blocks_of.Goals as goal

pub loop-number-preserved : goal.loop-number-preserved
loop-number-preserved c = rw (filter_counts (block_enters c.args.flow.now c.args.blocks.now c.args.head.now c.args.range.now) c.loop-number.number)
    (grind (arith, common_steps))
