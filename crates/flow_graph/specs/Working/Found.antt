-- Nodes that were found, in the order in which they were, and the same nodes in the order of nodes.
use Rattle.std.specs.Prelude.{◌≡◌, List, ◌++◌, length, All, Contains}
use Rattle.std.specs.List.Sorted.{IsStrictlySortedBy}
use Rattle.flow_graph.specs.declared.node.Node.{Node}
use Rattle.flow_graph.specs.Graph.{node_cmp}

-- the same nodes in order, each once
pub record AreOrdered (nodes ordered : List Node) : Type 0 where
  pub order : IsStrictlySortedBy node_cmp ordered
  pub into : (node : Node) → Contains nodes node → Contains ordered node
  pub from : (node : Node) → Contains ordered node → Contains nodes node
  pub count : length ordered ≡ length nodes

-- with a node, which stands last if it is new
pub record Adds (node : Node) (before after : List Node) : Type 0 where
  pub more : List Node
  pub is : after ≡ before ++ more
  pub only : All (λ other. other ≡ node) more
  pub has : Contains after node
