-- The first fault among nodes in order.
use Rattle.std.specs.Prelude.{◌≡◌, ℕ, ◌<◌, List, slice_get, All, Option, Some, None}
use Rattle.flow_graph.specs.declared.fault.CodeFault.{CodeFault}
use Rattle.flow_graph.specs.declared.fault.CodeFault.TheVariants.{At}
use Rattle.flow_graph.specs.declared.fault.CodeKind.{CodeKind}
use Rattle.flow_graph.specs.declared.node.Node.{Node}
use Rattle.flow_graph.specs.Graph.{Program}
use Rattle.flow_graph.specs.Faults.{fault_of}

-- none of the first so many nodes has a fault
pub record HaveNone (program : Program) (nodes : List Node) (count : ℕ) : Type 0 where
  pub none : (k : ℕ) (node : Node) → k < count → slice_get nodes k ≡ Some node → fault_of program node ≡ None

-- the fault of the first of the nodes that has one
pub record IsFirstOf (program : Program) (nodes : List Node) (fault : CodeFault) : Type 0 where
  pub place : ℕ
  pub node : Node
  pub kind : CodeKind
  pub stands : slice_get nodes place ≡ Some node
  pub has : fault_of program node ≡ Some kind
  pub is : fault ≡ At kind (Some node.context) (Some node.address)
  pub before : HaveNone program nodes place

abbrev pub IsFirst : Program → List Node → Option CodeFault → Type 0
IsFirst program nodes (Some fault) = IsFirstOf program nodes fault
IsFirst program nodes None = All (λ node. fault_of program node ≡ None) nodes
