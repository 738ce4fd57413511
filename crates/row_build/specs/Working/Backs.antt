-- Back edges, as a set of the places of edges.
use Rattle.std.specs.Prelude.{◌≡◌, ℕ, ◌==◌, ◌&&◌, ◌||◌, Bool, List}
use Rattle.std.specs.List.{list_any}
use Rattle.std.specs.declared.cmp.Ordering.{Ordering}
use Rattle.std.specs.Ordering.{nat_cmp, ordering_then}
use Rattle.std.specs.BTreeSet.{BTreeSet, contains}
use Rattle.wcet_atomic_blocks.specs.declared.loops.EdgeId.{EdgeId}
use Rattle.wcet_atomic_blocks.specs.declared.loops.LoopInstance.{LoopInstance}

-- a node, and the place of an edge among its edges
abbrev pub Key : Type 0
Key = ℕ × ℕ

abbrev pub key_cmp : Key → Key → Ordering
key_cmp a b = ordering_then (nat_cmp a.0 b.0) (nat_cmp a.1 b.1)

abbrev pub is_edge_at : Key → EdgeId → Bool
is_edge_at key edge = edge.node == key.0 && edge.i == key.1

-- the edges are added
pub record AddsEdges (edges : List EdgeId) (before after : BTreeSet Key) : Type 0 where
  pub same : (key : Key) → contains key_cmp after key ≡ (contains key_cmp before key || list_any (is_edge_at key) edges)

-- those of all instances
pub record AreBacks (backs : BTreeSet Key) (instances : List LoopInstance) : Type 0 where
  pub same : (key : Key) → contains key_cmp backs key ≡ list_any (λ instance. list_any (is_edge_at key) instance.backs) instances
