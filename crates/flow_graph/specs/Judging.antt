-- What `build` answers: the code graph of an image under a system and a timing, or the first fault.
use Rattle.std.specs.Prelude.{◌≡◌, ℕ, ◌-◌, ◌^◌, ◌<◌, ◌≤◌, Bool, true, not, ◌&&◌, ◌||◌, nat_lt, is_none, is_some, bytes_eq, position, List, length, All, Contains, slice_get, Option, Some, None, option_and_then, Result, Ok, Err, if◌then◌else◌}
use Rattle.std.specs.List.{list_any, list_all, AllZip}
use Rattle.std.specs.List.Sorted.{IsStrictlySortedBy}
use Rattle.std.specs.Option.{option_map_or}
use Rattle.std.specs.declared.cmp.Ordering.TheVariants.{Less}
use Rattle.elf_image.specs.Image.{ImageData}
use Rattle.oil_model.specs.declared.system.Alarm.{Alarm}
use Rattle.oil_model.specs.declared.system.System.{System}
use Rattle.osek_kernel.specs.Sources.{alarm_distance}
use Rattle.rv32_machine.specs.Places.{service_at}
use Rattle.timing_file.specs.declared.timing.Timing.{Timing}
use Rattle.timing_file.specs.Names.{ticks_of, distance_of}
use Rattle.flow_graph.specs.declared.edge.Edge.{Edge}
use Rattle.flow_graph.specs.declared.fault.CodeFault.{CodeFault}
use Rattle.flow_graph.specs.declared.fault.CodeFault.TheVariants.{At, Memory}
use Rattle.flow_graph.specs.declared.fault.CodeKind.{CodeKind}
use Rattle.flow_graph.specs.declared.fault.CodeKind.TheVariants.{NoEntry, Limit, Name}
use Rattle.flow_graph.specs.declared.flow.Flow.{Flow}
use Rattle.flow_graph.specs.declared.flow.Leaving.{Leaving}
use Rattle.flow_graph.specs.declared.node.Node.{Node}
use Rattle.flow_graph.specs.Graph.{Program, program_of, entries_of, node_cmp, edges_of}
use Rattle.flow_graph.specs.Faults.{fault_of, IsNode}

-- ---- Before any node

-- a fault of the whole, which no context and no address has
abbrev pub whole : CodeKind → CodeFault
whole kind = At kind None None

-- an alarm that is set at the start of a mode
abbrev pub is_set : Alarm → Bool
is_set alarm = nat_lt 0 (length alarm.modes)

-- the cycles of a tick of the alarm's counter
abbrev pub alarm_ticks : System → Timing → Alarm → Option ℕ
alarm_ticks system timing alarm = option_and_then (ticks_of timing) (slice_get system.counters alarm.counter)

-- the alarm has its ticks, if it is set and expires again and again
abbrev pub has_ticks : System → Timing → Alarm → Bool
has_ticks system timing alarm = not (is_set alarm && nat_lt 0 alarm.cycle) || is_some (alarm_ticks system timing alarm)

-- Each name in the timing is one of the system, and each number that the analysis needs is there.
abbrev pub names_fit : System → Timing → Bool
names_fit system timing =
    list_all (λ ticks. list_any (bytes_eq ticks.name) system.counters) timing.ticks
    && list_all (λ distance. list_any (λ isr. bytes_eq distance.name isr.name) system.isrs) timing.distances
    && list_all (has_ticks system timing) system.alarms
    && list_all (λ isr. is_some (distance_of timing isr.name)) system.isrs

-- an alarm that is set has at most 2^31 - 1 cycles from one expiry to the next
abbrev pub lasts_short : Alarm → Option ℕ → Bool
lasts_short alarm ticks = option_map_or (λ ticks. not (nat_lt (2 ^ 31 - 1) (alarm_distance alarm ticks))) ticks true

abbrev pub is_short : System → Timing → Alarm → Bool
is_short system timing alarm = not (is_set alarm) || lasts_short alarm (alarm_ticks system timing alarm)

abbrev pub alarms_are_short : System → Timing → Bool
alarms_are_short system timing = list_all (is_short system timing) system.alarms

abbrev pub alarm_fault : System → Timing → Option CodeFault
alarm_fault system timing = if alarms_are_short system timing then None else Some (whole Limit)

abbrev pub entry_fault : Option ℕ → Option CodeFault → Option CodeFault
entry_fault (Some context) others = Some (At NoEntry (Some context) None)
entry_fault None others = others

-- The fault before any node: a name, else the first context without its symbol, else an alarm.
abbrev pub early_fault : System → Timing → List (Option ℕ) → Option CodeFault
early_fault system timing entries =
    if names_fit system timing
    then entry_fault (position is_none entries) (alarm_fault system timing)
    else Some (whole Name)

-- ---- Nodes

-- nodes that are reached, in their order
pub record AreNodes (program : Program) (nodes : List Node) : Type 0 where
  pub order : IsStrictlySortedBy node_cmp nodes
  pub reached : All (IsNode program) nodes

-- the nodes that are reached, in their order, and there are at most 65,535
pub record AreAllNodes (program : Program) (nodes : List Node) : Type 0 where
  pub are : AreNodes program nodes
  pub all : (node : Node) → IsNode program node → Contains nodes node
  pub few : length nodes ≤ 65535

-- more than 65,535 nodes are reached
pub record IsTooLarge (program : Program) : Type 0 where
  pub nodes : List Node
  pub are : AreNodes program nodes
  pub many : 65535 < length nodes

-- the first node in order that has a fault
pub record IsFirstFault (program : Program) (node : Node) (kind : CodeKind) : Type 0 where
  pub reached : IsNode program node
  pub has : fault_of program node ≡ Some kind
  pub first : (other : Node) → IsNode program other → node_cmp other node ≡ Less → fault_of program other ≡ None

-- ---- The graph

-- where an edge leads, by the number of the node
abbrev pub IsTarget : List Node → Option Node → Option ℕ → Type 0
IsTarget nodes None None = Unit {0}
IsTarget nodes (Some node) (Some i) = slice_get nodes i ≡ Some node
IsTarget nodes to number = ⊥

pub record IsEdge (nodes : List Node) (edge : Edge Node) (numbered : Edge ℕ) : Type 0 where
  pub kind_is : numbered.kind ≡ edge.kind
  pub to_is : IsTarget nodes edge.to numbered.to

pub record IsLeaving (program : Program) (nodes : List Node) (node : Node) (leaving : Leaving) : Type 0 where
  pub service_is : leaving.service ≡ service_at program.code node.address
  pub edges_are : AllZip (IsEdge nodes) (edges_of program.code node) leaving.edges

-- The graph of a program without a fault.
pub record IsGraph (program : Program) (flow : Flow) : Type 0 where
  pub nodes : AreAllNodes program flow.nodes
  pub faultless : All (λ node. fault_of program node ≡ None) flow.nodes
  pub leaving : AllZip (IsLeaving program flow.nodes) flow.nodes flow.leaving

-- The fault of a program, by what is found before any node.
pub data IsFault (program : Program) (early : Option CodeFault) : CodeFault → Type 0 where
  earlier : (fault : CodeFault) → early ≡ Some fault → IsFault program early fault
  large : (fault : CodeFault) → early ≡ None → IsTooLarge program → fault ≡ whole Limit → IsFault program early fault
  faulty : (fault : CodeFault) (nodes : List Node) (node : Node) (kind : CodeKind) → early ≡ None → AreAllNodes program nodes
      → IsFirstFault program node kind → fault ≡ At kind (Some node.context) (Some node.address) → IsFault program early fault

-- What is answered of a program. Want of memory alone is free.
abbrev pub Answers : Program → Option CodeFault → Result Flow CodeFault → Type 0
Answers program early (Ok flow) = (early ≡ None) × IsGraph program flow
Answers program early (Err Memory) = Unit {0}
Answers program early (Err fault) = IsFault program early fault

abbrev pub IsAnswer : ImageData → System → Timing → Result Flow CodeFault → Type 0
IsAnswer image system timing answer = Answers (program_of image system timing) (early_fault system timing (entries_of image system)) answer
