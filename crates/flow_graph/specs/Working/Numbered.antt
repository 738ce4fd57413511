-- Nodes by their places.
use Rattle.std.specs.Prelude.{List, All, Contains, IfSome}
use Rattle.std.specs.List.Sorted.{IsStrictlySortedBy}
use Rattle.flow_graph.specs.declared.edge.Edge.{Edge}
use Rattle.flow_graph.specs.declared.node.Node.{Node}
use Rattle.flow_graph.specs.Graph.{Program, node_cmp, edges_of}

-- the edge leads to one of the nodes, if it leads anywhere
abbrev pub LeadsInto : List Node → Edge Node → Type 0
LeadsInto nodes edge = IfSome edge.to (Contains nodes)

-- nodes in order, whose edges all lead to some of them
pub record AreClosed (program : Program) (nodes : List Node) : Type 0 where
  pub order : IsStrictlySortedBy node_cmp nodes
  pub closed : All (λ node. All (LeadsInto nodes) (edges_of program.code node)) nodes
