-- Flows in which each context begins at a node.
use Rattle.std.specs.Prelude.{◌≡◌, ℕ, ◌<◌, true, List, length, All, slice_get, Option, Some, IsSomeAnd}
use Rattle.flow_graph.specs.declared.flow.Flow.{Flow}
use Rattle.flow_graph.specs.declared.node.Node.{Node}
use Rattle.flow_graph.specs.Faults.{is_entry_of}
use Rattle.wcet_atomic_blocks.specs.Blocks.{HasEdge}
use Rattle.wcet_atomic_blocks.specs.Plants.{IsEntryNode}

-- the table has a node of the entry of each context that begins at one of the first so many nodes
pub record AreEntriesAmong (addresses : List (Option ℕ)) (flow : Flow) (count : ℕ) (table : List ℕ) : Type 0 where
  pub long : length table ≡ length addresses
  pub each : (number : ℕ) (node : Node) → number < count → slice_get flow.nodes number ≡ Some node → is_entry_of addresses node ≡ true
      → IsSomeAnd (slice_get table node.context) (IsEntryNode addresses flow node.context)

-- Each node has its edges, they stay among the nodes, and each context begins at a node.
pub record IsRooted (addresses : List (Option ℕ)) (flow : Flow) : Type 0 where
  pub leaving : length flow.leaving ≡ length flow.nodes
  pub edges : (node next : ℕ) → HasEdge flow node next → next < length flow.nodes
  pub contexts : All (λ node. node.context < length addresses) flow.nodes
  pub roots : (context : ℕ) → context < length addresses → (number : ℕ) × IsEntryNode addresses flow context number
