-- The code graph: its nodes, their order and their edges.
-- All of it is said over a program: code as the decoded instruction at each address or none, with what
-- the judging of it asks of the image, the system and the timing.
use Rattle.std.specs.Prelude.{ℕ, zero, suc, ◌-◌, Bool, true, false, List, [], ◌∷◌, ◌++◌, length, take, slice_get, Option, Some, None, if◌then◌else◌}
use Rattle.std.specs.Option.{option_map_or}
use Rattle.std.specs.Ordering.{nat_cmp, then_cmp, on}
use Rattle.std.specs.declared.cmp.Ordering.{Ordering}
use Rattle.std.specs.Cmp.Lexicographic.{slice_cmp}
use Rattle.rv32_decode.specs.declared.instruction.Insn.{Insn}
use Rattle.elf_image.specs.Image.{ImageData, has_word}
use Rattle.oil_model.specs.declared.system.System.{System}
use Rattle.osek_kernel.specs.declared.service.Service.{Service}
use Rattle.osek_kernel.specs.declared.service.Service.TheVariants.{TerminateTask, ChainTask, EndIsr}
use Rattle.osek_kernel.specs.Contexts.{context_at, context_count, entry_of}
use Rattle.osek_kernel.specs.Services.{service_of}
use Rattle.rv32_machine.specs.declared.turns.ServiceAt.{ServiceAt}
use Rattle.rv32_machine.specs.declared.turns.Turn.{Turn}
use Rattle.rv32_machine.specs.declared.turns.Turn.TheVariants.{Onward, Branching, Jumping, Calling, Returning, Serving, Indirect, Breaking}
use Rattle.rv32_machine.specs.Code.{insn_at}
use Rattle.rv32_machine.specs.Execution.{following}
use Rattle.rv32_machine.specs.Places.{service_at, turn_at}
use Rattle.timing_file.specs.declared.timing.Loop.{Loop}
use Rattle.timing_file.specs.declared.timing.Timing.{Timing}
use Rattle.flow_graph.specs.declared.edge.Edge.{Edge}
use Rattle.flow_graph.specs.declared.edge.EdgeKind.{EdgeKind}
use Rattle.flow_graph.specs.declared.edge.EdgeKind.TheVariants as kinds
use Rattle.flow_graph.specs.declared.node.Node.{Node}

-- ---- Programs

pub record Program : Type 0 where
  pub code : ℕ → Option Insn
  -- whether a code word stands at the address
  pub has_word : ℕ → Bool
  -- the address at which each context begins, tasks by id, then ISRs by id; none where it has no symbol
  pub entries : List (Option ℕ)
  pub system : System
  pub loops : List Loop

-- the entries of so many contexts, from the one at a place on
abbrev pub entries_from : ImageData → System → ℕ → ℕ → List (Option ℕ)
entries_from image system place zero = []
entries_from image system place (suc more) = entry_of image system (context_at system place) ∷ entries_from image system (suc place) more

abbrev pub entries_of : ImageData → System → List (Option ℕ)
entries_of image system = entries_from image system 0 (context_count system)

abbrev pub program_of : ImageData → System → Timing → Program
program_of image system timing = record {
  code = insn_at image;
  has_word = has_word image.code;
  entries = entries_of image system;
  system = system;
  loops = timing.loops;
}

-- ---- Nodes

-- Nodes are ordered by context, then by open calls as lists (a prefix first), then by address.
abbrev pub node_cmp : Node → Node → Ordering
node_cmp = then_cmp (on (λ n. n.context) nat_cmp) (then_cmp (on (λ n. n.sites) (slice_cmp nat_cmp)) (on (λ n. n.address) nat_cmp))

-- the node of the same context with the same open calls at another address, and at the next word
abbrev pub node_at : Node → ℕ → Node
node_at node address = record node { address = address }

abbrev pub next_node : Node → Node
next_node node = node_at node (following node.address)

-- the node at a call's target, with the call among the open ones
abbrev pub called_node : Node → ℕ → Node
called_node node target = record { context = node.context; sites = node.sites ++ node.address ∷ []; address = target }

-- the node behind an innermost open call, which is open no more
abbrev pub returned_node : Node → ℕ → Node
returned_node node site = record { context = node.context; sites = take (length node.sites - 1) node.sites; address = following site }

-- ---- Edges

abbrev pub edge_to : EdgeKind → Node → Edge Node
edge_to kind node = record { to = Some node; kind = kind }

-- a service that its caller doesn't return from
abbrev pub ends_caller : Service → Bool
ends_caller TerminateTask = true
ends_caller ChainTask = true
ends_caller EndIsr = true
ends_caller service = false

-- the same of the service of a number
abbrev pub ends_by : ℕ → Bool
ends_by number = option_map_or ends_caller (service_of number) false

abbrev pub service_edge : Node → ServiceAt → Edge Node
service_edge node service = record { to = if ends_by service.number then None else Some (next_node node); kind = kinds.Service }

-- nothing, or one edge
abbrev pub edges_for : {A : Type 0} → (A → Edge Node) → Option A → List (Edge Node)
edges_for edge None = []
edges_for edge (Some a) = edge a ∷ []

-- the edges by the turn at the node's address and the service that ends there
abbrev pub edges_by : Option ServiceAt → Node → Turn → List (Edge Node)
edges_by service node Onward = edge_to kinds.Straight (next_node node) ∷ []
edges_by service node (Branching target) = edge_to kinds.Straight (next_node node) ∷ edge_to kinds.Taken (node_at node target) ∷ []
edges_by service node (Jumping target) = edge_to kinds.Jump (node_at node target) ∷ []
edges_by service node (Calling target) = edge_to kinds.Call (called_node node target) ∷ []
edges_by service node Returning =
    edges_for (λ site. edge_to kinds.Return (returned_node node site)) (slice_get node.sites (length node.sites - 1))
edges_by service node Serving = edges_for (service_edge node) service
edges_by service node Indirect = []
edges_by service node Breaking = []

-- the edges of a node, in order: a branch's untaken edge comes first
abbrev pub edges_of : (ℕ → Option Insn) → Node → List (Edge Node)
edges_of code node = option_map_or (edges_by (service_at code node.address) node) (turn_at code node.address) []
