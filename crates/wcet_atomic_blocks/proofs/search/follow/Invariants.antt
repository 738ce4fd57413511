use Rattle.std.proofs.Common.{◌≡◌, ◌*◌, ◌+◌, length}
use Rattle.wcet_atomic_blocks.specs.Working.Search.{IsVisiting, unseen}
use Rattle.wcet_atomic_blocks.proofs.search.follow.Given as goal

abbrev pub invariant-loop-edge : goal.invariant-loop-edge
invariant-loop-edge l = record {
  room : length l.set ≡ length l.initial.set;
  visiting : IsVisiting l.edges l.edge-index l.initial.set l.initial.pending.items l.set l.pending.items;
  less : unseen l.set (64 * length l.initial.set) + length l.pending.items ≡ unseen l.initial.set (64 * length l.initial.set) + length l.initial.pending.items;
}
