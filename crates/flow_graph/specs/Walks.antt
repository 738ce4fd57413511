-- What holds at nodes of a program without a fault, and that a context walks along the graph.
use Rattle.std.specs.Prelude.{◌≡◌, ℕ, ◌^◌, ◌<◌, ◌⊎◌, true, false, List, [], length, Option, Some, None}
use Rattle.rv32_decode.specs.declared.instruction.Insn.{Insn}
use Rattle.rv32_decode.specs.declared.instruction.Insn.TheVariants.{Ecall}
use Rattle.rv32_machine.specs.declared.turns.ServiceAt.{ServiceAt}
use Rattle.rv32_machine.specs.ContextStep.{Standing, ContextStep, KeepsReturns}
use Rattle.rv32_machine.specs.Execution.{following}
use Rattle.rv32_machine.specs.Memory.{BytesFit}
use Rattle.rv32_machine.specs.Places.{service_at}
use Rattle.rv32_machine.specs.Registers.{AreRegisters, value_of}
use Rattle.rv32_machine.specs.Steps.{IsExecutable}
use Rattle.flow_graph.specs.declared.node.Node.{Node}
use Rattle.flow_graph.specs.Graph.{Program, ends_by, next_node, edges_of}
use Rattle.flow_graph.specs.Faults.{entry_at, is_entry, is_served, fault_of, Leads, IsNode}
use Rattle.flow_graph.specs.Standing.{StandsAt}

-- no node that is reached has a fault
pub record IsFaultless (program : Program) : Type 0 where
  pub none : (node : Node) → IsNode program node → fault_of program node ≡ None

-- ---- At a node

-- A service of the table stands there, and x17 and x10 hold its number and its argument.
pub record Serves (program : Program) (place : ℕ) (registers : List ℕ) : Type 0 where
  pub service : ServiceAt
  pub stands : service_at program.code place ≡ Some service
  pub served : is_served program.system service ≡ true
  pub number_is : value_of registers 17 ≡ service.number
  pub argument_is : value_of registers 10 ≡ service.argument

unfoldable pub EcallsServe : Program → Type 0
EcallsServe program =
    (node : Node) (standing : Standing) → fault_of program node ≡ None → StandsAt program.code node standing
    → program.code standing.place ≡ Some Ecall → Serves program standing.place standing.registers

-- the instruction there can be executed
pub record Executes (program : Program) (place : ℕ) : Type 0 where
  pub insn : Insn
  pub fetched : program.code place ≡ Some insn
  pub executable : IsExecutable insn

-- A context never gets stuck: it asks for a service, or its next instruction can be executed.
unfoldable pub NoneIsStuck : Program → Type 0
NoneIsStuck program =
    (node : Node) → fault_of program node ≡ None
    → (program.code node.address ≡ Some Ecall) ⊎ Executes program node.address

-- the standing of a context that begins, or goes on behind a service
abbrev pub standing_at : List ℕ → ℕ → List ℕ → Standing
standing_at registers place calls = record { registers = registers; place = place; calls = calls }

-- A context that begins stands at its entry's node, whatever its registers hold.
unfoldable pub EntriesStand : Program → Type 0
EntriesStand program =
    (node : Node) (registers : List ℕ) → is_entry program node ≡ true → fault_of program node ≡ None
    → AreRegisters registers → node.address < 2 ^ 32 → StandsAt program.code node (standing_at registers node.address [])

-- the node behind a service, where its caller stands with any registers
pub record GoesOn (program : Program) (node : Node) (registers : List ℕ) : Type 0 where
  pub only : length (edges_of program.code node) ≡ 1
  pub leads : Leads program node (next_node node)
  pub stands : StandsAt program.code (next_node node) (standing_at registers (following node.address) node.sites)

-- Behind a service that doesn't end its caller the caller stands at the node of its one edge.
unfoldable pub ServicesGoOn : Program → Type 0
ServicesGoOn program =
    (node : Node) (service : ServiceAt) (registers : List ℕ) → fault_of program node ≡ None
    → program.code node.address ≡ Some Ecall → service_at program.code node.address ≡ Some service
    → ends_by service.number ≡ false → AreRegisters registers → GoesOn program node registers

-- Memory holds bytes after a step, if it did before.
unfoldable pub StepsKeepBytes : (ℕ → Option Insn) → Type 0
StepsKeepBytes code =
    (device : ℕ) (memory memory' : ℕ → Option ℕ) (before after : Standing) → AreRegisters before.registers
    → BytesFit memory → ContextStep code device memory memory' before after → BytesFit memory'

-- ---- Walks

-- What a context does from one standing to the next: a step over memory that holds bytes, or a service
-- that it returns from with any registers.
pub data Moves (program : Program) : Standing → Standing → Type 0 where
  steps : (device : ℕ) (memory memory' : ℕ → Option ℕ) (before after : Standing) → BytesFit memory
      → (step : ContextStep program.code device memory memory' before after) → KeepsReturns step → Moves program before after
  served : (before : Standing) (registers : List ℕ) → program.code before.place ≡ Some Ecall
      → ends_by (value_of before.registers 17) ≡ false → AreRegisters registers
      → Moves program before (standing_at registers (following before.place) before.calls)

-- The standings of a context, from its entry on.
pub data Walk (program : Program) (context : ℕ) : Standing → Type 0 where
  begins : (registers : List ℕ) (place : ℕ) → AreRegisters registers → place < 2 ^ 32 → entry_at program context ≡ Some place
      → Walk program context (standing_at registers place [])
  goes_on : (before after : Standing) → Walk program context before → Moves program before after → Walk program context after

-- a node of the context at which it stands
pub record IsOnGraph (program : Program) (context : ℕ) (standing : Standing) : Type 0 where
  pub node : Node
  pub reached : IsNode program node
  pub context_is : node.context ≡ context
  pub stands : StandsAt program.code node standing

-- Each context of a program without a fault stays on the graph.
unfoldable pub WalksStayOnGraph : Program → Type 0
WalksStayOnGraph program = (context : ℕ) (standing : Standing) → Walk program context standing → IsOnGraph program context standing
