-- How the code of a loop is come into, edge by edge.
use Rattle.std.specs.Prelude.{◌≡◌, ℕ, Bool, true, false, List, slice_get, Option, Some}
use Rattle.timing_file.specs.Costs.{lies_in}
use Rattle.flow_graph.specs.declared.edge.Edge.{Edge}
use Rattle.flow_graph.specs.declared.flow.Flow.{Flow}
use Rattle.flow_graph.specs.declared.flow.Leaving.{Leaving}
use Rattle.flow_graph.specs.declared.node.Node.{Node}
use Rattle.counted_loops.specs.declared.entering.Front.{Front}
use Rattle.counted_loops.specs.declared.entering.Span.{Span}
use Rattle.counted_loops.specs.Counted.{GoesOnTo, EntersAt}

abbrev pub has : Span → ℕ → Bool
has span address = lies_in span.from span.to address

-- an edge of a node at the address, into the span, goes on to the first word
pub record EdgeFits (nodes : List Node) (front : Front) (source : ℕ) (edge : Edge ℕ) : Type 0 where
  pub fits : (next : ℕ) (target : Node) → edge.to ≡ Some next → slice_get nodes next ≡ Some target
      → has front.here target.address ≡ true → has front.inner source ≡ false → GoesOnTo front.first source edge.kind target.address

abbrev pub EdgesFit : List Node → Front → ℕ → List (Edge ℕ) → Type 0
EdgesFit nodes front source edges = (place : ℕ) (edge : Edge ℕ) → slice_get edges place ≡ Some edge → EdgeFits nodes front source edge

-- all edges of the node with that number do
pub record NodeFits (flow : Flow) (front : Front) (number : ℕ) : Type 0 where
  pub fits : (source : Node) (leaving : Leaving) → slice_get flow.nodes number ≡ Some source
      → slice_get flow.leaving number ≡ Some leaving → EdgesFit flow.nodes front source.address leaving.edges

abbrev pub Fits : Flow → Front → Type 0
Fits flow front = EntersAt flow (has front.inner) (has front.here) front.first
