-- How a context stands at a node, and what its next step keeps: the law of the graph.
use Rattle.std.specs.Prelude.{◌≡◌, ℕ, List, slice_get, Option, Some, None, if◌then◌else◌}
use Rattle.rv32_decode.specs.declared.instruction.Insn.{Insn}
use Rattle.rv32_decode.specs.declared.instruction.Insn.TheVariants.{Branch}
use Rattle.rv32_machine.specs.declared.turns.Pair.{Pair}
use Rattle.rv32_machine.specs.declared.turns.ServiceAt.{ServiceAt}
use Rattle.rv32_machine.specs.ContextStep.{Standing, StandingFits, ContextStep, KeepsReturns}
use Rattle.rv32_machine.specs.Execution.{following, branch_holds}
use Rattle.rv32_machine.specs.Memory.{BytesFit}
use Rattle.rv32_machine.specs.Places.{service_at, pair_at}
use Rattle.rv32_machine.specs.Registers.{value_of}
use Rattle.flow_graph.specs.declared.edge.Edge.{Edge}
use Rattle.flow_graph.specs.declared.node.Node.{Node}
use Rattle.flow_graph.specs.Graph.{Program, edges_of}
use Rattle.flow_graph.specs.Faults.{fault_of}

-- What registers hold at a place by the words before it: at the second word of a service x10 holds its
-- argument, at the third one x10 holds its argument and x17 its number, and at the second word of a
-- pair the pair's register holds its upper value.
pub record PlaceFacts (code : ℕ → Option Insn) (place : ℕ) (registers : List ℕ) : Type 0 where
  pub second : (service : ServiceAt) → service_at code (following place) ≡ Some service → value_of registers 10 ≡ service.argument
  pub third : (service : ServiceAt) → service_at code place ≡ Some service
      → (value_of registers 10 ≡ service.argument) × (value_of registers 17 ≡ service.number)
  pub pair : (pair : Pair) → pair_at code place ≡ Some pair → value_of registers pair.register ≡ pair.upper

-- A context stands at a node: its place is the node's address, and its open calls are the node's.
pub record StandsAt (code : ℕ → Option Insn) (node : Node) (standing : Standing) : Type 0 where
  pub fits : StandingFits standing
  pub place_is : standing.place ≡ node.address
  pub calls_are : standing.calls ≡ node.sites
  pub facts : PlaceFacts code standing.place standing.registers

-- Which edge a step goes along: the second one of a branch whose comparison holds, else the first one.
abbrev pub edge_number : Insn → List ℕ → ℕ
edge_number (Branch op rs1 rs2 offset) registers = if branch_holds op rs1 rs2 registers then 1 else 0
edge_number insn registers = 0

-- The step of the instruction from `before` to `after` goes along an edge of the node.
pub record Follows (code : ℕ → Option Insn) (node : Node) (insn : Insn) (before after : Standing) : Type 0 where
  pub edge : Edge Node
  pub leaves : slice_get (edges_of code node) (edge_number insn before.registers) ≡ Some edge
  pub next : Node
  pub arrives : edge.to ≡ Some next
  pub context_is : next.context ≡ node.context
  pub stands : StandsAt code next after

-- From a node without a fault each step of a context that is no unpaired return follows an edge.
unfoldable pub StepsFollowEdges : Program → Type 0
StepsFollowEdges program =
    (node : Node) (device : ℕ) (memory memory' : ℕ → Option ℕ) (before after : Standing)
    → fault_of program node ≡ None → StandsAt program.code node before → BytesFit memory
    → (step : ContextStep program.code device memory memory' before after) → KeepsReturns step
    → Follows program.code node step.insn before after
