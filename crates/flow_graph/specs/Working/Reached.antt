-- Nodes that are reached, and what is known of them on the way.
use Rattle.std.specs.Prelude.{◌≡◌, ℕ, ◌<◌, ◌≤◌, true, List, ◌++◌, length, slice_get, All, Contains, Option, Some}
use Rattle.flow_graph.specs.declared.edge.Edge.{Edge}
use Rattle.flow_graph.specs.declared.node.Node.{Node}
use Rattle.flow_graph.specs.Graph.{Program}
use Rattle.flow_graph.specs.Faults.{is_entry_of, Leads, IsNode}
use Rattle.flow_graph.specs.Judging.{AreNodes}

-- the nodes at which the contexts up to one begin
pub record HasEntries (entries : List (Option ℕ)) (end : ℕ) (nodes : List Node) : Type 0 where
  pub are : All (λ node. is_entry_of entries node ≡ true) nodes
  pub all : (node : Node) → node.context < end → is_entry_of entries node ≡ true
      → Contains nodes node

-- an edge leads there
pub record IsTargetOf (edges : List (Edge Node)) (node : Node) : Type 0 where
  pub edge : Edge Node
  pub stands : Contains edges edge
  pub arrives : edge.to ≡ Some node

-- with the targets of these edges
pub record GrowsBy (edges : List (Edge Node)) (before after : List Node) : Type 0 where
  pub more : List Node
  pub is : after ≡ before ++ more
  pub are : All (IsTargetOf edges) more
  pub has : (node : Node) → IsTargetOf edges node → Contains after node

-- with the nodes to which the node's edges lead
pub record GoesOn (program : Program) (node : Node) (before after : List Node) : Type 0 where
  pub more : List Node
  pub is : after ≡ before ++ more
  pub led : All (Leads program node) more
  pub has : (next : Node) → Leads program node next → Contains after next

-- reached nodes with all entries, where the edges of those up to a place lead to some of them
pub record IsSearch (program : Program) (end : ℕ) (nodes : List Node) : Type 0 where
  pub reached : All (IsNode program) nodes
  pub entries : (node : Node) → is_entry_of program.entries node ≡ true → Contains nodes node
  pub closed : (place : ℕ) (node next : Node) → place < end → slice_get nodes place ≡ Some node
      → Leads program node next → Contains nodes next

-- all that are reached, or more than 65,535 of them
pub record IsSearched (program : Program) (nodes : List Node) : Type 0 where
  pub end : ℕ
  pub search : IsSearch program end nodes
  pub done : length nodes ≤ 65535 → length nodes ≤ end

-- reached nodes in order; all of them, if they are at most 65,535
pub record Reaches (program : Program) (nodes : List Node) : Type 0 where
  pub are : AreNodes program nodes
  pub all : length nodes ≤ 65535 → (node : Node) → IsNode program node → Contains nodes node
