use Rattle.std.proofs.Common.{ℕ, ◌*◌, ◌+◌, ◌<◌, length}
use Rattle.wcet_atomic_blocks.specs.Blocks.{IsInBlock}
use Rattle.wcet_atomic_blocks.specs.Working.Search.{IsSearch, unseen}
use Rattle.wcet_atomic_blocks.proofs.search.nodes_from.Given as goal

abbrev pub invariant-loop-node : goal.invariant-loop-node
invariant-loop-node l = record {
  room : length l.flow.nodes < 64 * length l.set;
  search : IsSearch l.flow l.first l.set l.pending.items;
  inside : (node : ℕ) → IsInBlock l.flow l.first node → node < length l.flow.nodes;
}

abbrev pub decreases-loop-node : goal.decreases-loop-node
decreases-loop-node l = unseen l.set (64 * length l.set) + length l.pending.items
