use Rattle.wcet_atomic_blocks.proofs.EveryNode.{every_node_lies}
use Rattle.wcet_atomic_blocks.proofs.laws.every_node_lies.Goals as goal

pub returns : goal.returns
returns c = every_node_lies
