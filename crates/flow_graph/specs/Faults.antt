-- What is wrong with one node, and the set of the nodes that are reached.
use Rattle.std.specs.Prelude.{◌≡◌, ℕ, Bool, true, false, not, ◌&&◌, ◌||◌, ◌==◌, nat_le, nat_eq, List, length, slice_get, Option, Some, None, option_and_then, if◌then◌else◌}
use Rattle.std.specs.List.{list_any}
use Rattle.std.specs.Option.{option_map_or}
use Rattle.oil_model.specs.declared.system.System.{System}
use Rattle.osek_kernel.specs.Services.{service_of, takes}
use Rattle.rv32_machine.specs.declared.turns.ServiceAt.{ServiceAt}
use Rattle.rv32_machine.specs.declared.turns.Turn.{Turn}
use Rattle.rv32_machine.specs.declared.turns.Turn.TheVariants.{Onward, Calling, Returning, Serving, Indirect, Breaking}
use Rattle.rv32_machine.specs.Places.{service_at, turn_at, is_middle}
use Rattle.timing_file.specs.declared.timing.Loop.{Loop}
use Rattle.flow_graph.specs.declared.edge.Edge.{Edge}
use Rattle.flow_graph.specs.declared.edge.EdgeKind.{EdgeKind}
use Rattle.flow_graph.specs.declared.edge.EdgeKind.TheVariants as kinds
use Rattle.flow_graph.specs.declared.fault.CodeKind.{CodeKind}
use Rattle.flow_graph.specs.declared.fault.CodeKind.TheVariants.{BadWord, IntoService, BadService, Recursion, UncoveredBack, Depth}
use Rattle.flow_graph.specs.declared.fault.CodeKind.TheVariants as faults
use Rattle.flow_graph.specs.declared.node.Node.{Node}
use Rattle.flow_graph.specs.Graph.{Program, edges_by, edges_of}

-- ---- Entries

abbrev pub entry_in : List (Option ℕ) → ℕ → Option ℕ
entry_in entries context = option_and_then (λ entry. entry) (slice_get entries context)

abbrev pub entry_at : Program → ℕ → Option ℕ
entry_at program context = entry_in program.entries context

-- the node at which its context begins
abbrev pub is_entry_of : List (Option ℕ) → Node → Bool
is_entry_of entries node = (length node.sites == 0) && option_map_or (nat_eq node.address) (entry_in entries node.context) false

abbrev pub is_entry : Program → Node → Bool
is_entry program node = is_entry_of program.entries node

-- ---- What each kind says of a node and its turn

abbrev pub is_breaking : Turn → Bool
is_breaking Breaking = true
is_breaking turn = false

abbrev pub is_indirect : Turn → Bool
is_indirect Indirect = true
is_indirect turn = false

-- a return without an open call
abbrev pub returns_from_entry : Node → Turn → Bool
returns_from_entry node Returning = length node.sites == 0
returns_from_entry node turn = false

-- an entry at a middle word
abbrev pub begins_at_middle : Program → Node → Bool
begins_at_middle program node = is_entry program node && is_middle program.code node.address

abbrev pub goes_to_middle : Program → Edge Node → Bool
goes_to_middle program edge = option_map_or (λ to. is_middle program.code to.address) edge.to false

-- an edge to a middle word, other than the one that an instruction has that just goes on
abbrev pub enters_middle : Program → Node → Turn → Bool
enters_middle program node Onward = false
enters_middle program node turn = list_any (goes_to_middle program) (edges_by (service_at program.code node.address) node turn)

-- a service of the table, with an argument that it takes
abbrev pub is_served : System → ServiceAt → Bool
is_served system at = option_map_or (λ service. takes system service at.argument) (service_of at.number) false

abbrev pub is_unserved : Program → Node → Turn → Bool
is_unserved program node Serving = not (option_map_or (is_served program.system) (service_at program.code node.address) false)
is_unserved program node turn = false

-- a call that is open already
abbrev pub calls_again : Node → Turn → Bool
calls_again node (Calling target) = list_any (nat_eq node.address) node.sites
calls_again node turn = false

-- a call on top of 16 open ones
abbrev pub calls_too_deep : Node → Turn → Bool
calls_too_deep node (Calling target) = nat_le 16 (length node.sites)
calls_too_deep node turn = false

abbrev pub is_local : EdgeKind → Bool
is_local kinds.Call = false
is_local kinds.Return = false
is_local kind = true

-- a declared loop that begins at the target and has the address in it
abbrev pub covers_back : ℕ → ℕ → Loop → Bool
covers_back address target l = (l.from == target) && (nat_le l.from address && nat_le address l.to)

-- an edge within an invocation to an address that isn't above its own, with no loop around it
abbrev pub is_uncovered : Program → ℕ → Edge Node → Bool
is_uncovered program address edge =
    is_local edge.kind
    && option_map_or
    (λ to. nat_le to.address address && not (list_any (covers_back address to.address) program.loops))
    edge.to false

abbrev pub goes_back_uncovered : Program → Node → Turn → Bool
goes_back_uncovered program node turn =
    list_any (is_uncovered program node.address) (edges_by (service_at program.code node.address) node turn)

-- ---- The fault of a node

-- The kind of fault of a node at which a code word stands, by the turn there: the first of these that
-- holds. A word that is no instruction has no turn.
abbrev pub turn_fault : Program → Node → Option Turn → Option CodeKind
turn_fault program node None = Some BadWord
turn_fault program node (Some turn) =
    if is_breaking turn then Some BadWord
    else if is_indirect turn then Some faults.Indirect
    else if returns_from_entry node turn then Some faults.Leaves
    else if begins_at_middle program node || enters_middle program node turn then Some IntoService
    else if is_unserved program node turn then Some BadService
    else if calls_again node turn then Some Recursion
    else if goes_back_uncovered program node turn then Some UncoveredBack
    else if calls_too_deep node turn then Some Depth
    else None

-- A node without a code word has left the code, and has no other fault.
abbrev pub fault_of : Program → Node → Option CodeKind
fault_of program node =
    if program.has_word node.address then turn_fault program node (turn_at program.code node.address) else Some faults.Leaves

-- ---- The nodes

-- an edge of a node without a fault leads there
pub record Leads (program : Program) (node next : Node) : Type 0 where
  pub faultless : fault_of program node ≡ None
  pub number : ℕ
  pub edge : Edge Node
  pub leaves : slice_get (edges_of program.code node) number ≡ Some edge
  pub arrives : edge.to ≡ Some next

-- The nodes are those that are reached from the entries along edges. A node with a fault has no edges.
pub data IsNode (program : Program) : Node → Type 0 where
  entry : (node : Node) → is_entry program node ≡ true → IsNode program node
  along : (node next : Node) → IsNode program node → Leads program node next → IsNode program next
