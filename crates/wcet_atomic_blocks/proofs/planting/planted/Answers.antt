use Rattle.wcet_atomic_blocks.proofs.Rooting.{is_rooted}
use Rattle.wcet_atomic_blocks.proofs.planting.planted.Goals as goal

pub blocks_of-requires : goal.blocks_of-requires
blocks_of-requires c = is_rooted c.args.image c.args.system c.args.timing c.args.flow c.requires.graph
