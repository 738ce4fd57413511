-- Words for worked systems: images given by their words, nodes and what leaves them, blocks, states and rows.
use Rattle.std.specs.Prelude.{ℕ, ◌*◌, ◌/◌, ◌%◌, ◌^◌, Bool, false, List, [], ◌∷◌, length, map, codes, Option, Some, None, ℤ, pos, negsuc, int_le, position, option_and_then, filter_map, slice_get, option_map}
use Rattle.elf_image.specs.Image.{ImageData}
use Rattle.elf_image.specs.declared.symbol.Symbol.{Symbol}
use Rattle.oil_model.specs.declared.system.Task.{Task}
use Rattle.oil_model.specs.declared.system.Resource.{Resource}
use Rattle.flow_graph.specs.declared.edge.Edge.{Edge}
use Rattle.flow_graph.specs.declared.edge.EdgeKind.{EdgeKind}
use Rattle.flow_graph.specs.declared.edge.EdgeKind.TheVariants as kinds
use Rattle.flow_graph.specs.declared.flow.Leaving.{Leaving}
use Rattle.flow_graph.specs.declared.node.Node.{Node}
use Rattle.wcet_atomic_blocks.specs.declared.block.Beginning.{Beginning}
use Rattle.wcet_atomic_blocks.specs.declared.block.Block.{Block}
use Rattle.abstract_sched.specs.declared.states.AbsState.{AbsState}
use Rattle.abstract_sched.specs.declared.states.IsrAt.{IsrAt}
use Rattle.abstract_sched.specs.declared.states.TaskAt.{TaskAt}
use Rattle.std.specs.List.{list_all}
use Rattle.rv32_machine.specs.ContextStep.{Standing}
use Rattle.rv32_machine.specs.Registers.{zeros, with_value}
use Rattle.osek_kernel.specs.declared.context.Context.{Context}
use Rattle.osek_kernel.specs.declared.kernel.Reply.{Reply}
use Rattle.osek_kernel.specs.declared.service.Code.TheVariants.{Done}
use Rattle.osek_kernel.specs.declared.service.Service.{Service}
use Rattle.osek_machine.specs.Events.{Event, Take, Execute, Serve}
use Rattle.wcet_atomic_blocks.specs.Plants.{PlantData}
use Rattle.row_build.specs.Columns.{Column, columns}
use Rattle.row_build.specs.Families.{rows}
use Rattle.activation_windows.specs.Windows.{open_window, closed_uses}
use Rattle.activation_windows.specs.Counted.{left_side}
use Rattle.std.specs.Ordering.{is_eq}
use Rattle.rv32_machine.specs.Code.{insn_at}
use Rattle.rv32_machine.specs.Places.{service_at}
use Rattle.flow_graph.specs.declared.fault.CodeKind.{CodeKind}
use Rattle.flow_graph.specs.Faults.{fault_of}
use Rattle.flow_graph.specs.Graph.{Program, program_of, node_cmp, edges_of}
use Rattle.whole_rows.specs.declared.Term.{Term}
use Rattle.whole_rows.specs.Terms.{row_of_terms}

-- ---- Images

-- the bytes of words, the lowest byte of each first
abbrev pub bytes_of : List ℕ → List ℕ
bytes_of [] = []
bytes_of (word ∷ words) =
    word % 2 ^ 8 ∷ (word / 2 ^ 8) % 2 ^ 8 ∷ (word / 2 ^ 16) % 2 ^ 8 ∷ (word / 2 ^ 24) % 2 ^ 8 ∷ bytes_of words

abbrev pub symbol : List ℕ → ℕ → Symbol
symbol name value = record { name = name; value = value }

-- the words are code, and all that memory holds at first
abbrev pub image_at : ℕ → List ℕ → List Symbol → ImageData
image_at address words symbols = record {
  code = record { address = address; size = 4 * length words } ∷ [];
  memory = record { address = address; bytes = bytes_of words; size = 4 * length words } ∷ [];
  symbols = symbols;
}

-- ---- Systems

-- a task that names no resource, and that is active at the start of these modes
abbrev pub task : List ℕ → ℕ → List ℕ → Task
task name priority modes = record { name = name; priority = priority; resources = []; modes = modes; inner = None }

abbrev pub scheduler : ℕ → Resource
scheduler ceiling = record { name = codes "RES_SCHEDULER"; ceiling = ceiling; internal = false }

-- ---- Nodes, and what leaves them

abbrev pub node : ℕ → List ℕ → ℕ → Node
node context sites address = record { context = context; sites = sites; address = address }

abbrev pub to : EdgeKind → ℕ → Edge ℕ
to kind next = record { to = Some next; kind = kind }

abbrev pub along : EdgeKind → ℕ → Leaving
along kind next = record { service = None; edges = to kind next ∷ [] }

abbrev pub straight : ℕ → Leaving
straight next = along kinds.Straight next

abbrev pub branch : ℕ → ℕ → Leaving
branch next taken = record { service = None; edges = to kinds.Straight next ∷ to kinds.Taken taken ∷ [] }

-- a call of the service of that number, which goes on at a node or ends its caller
abbrev pub serving : ℕ → ℕ → Option ℕ → Leaving
serving number argument next = record {
  service = Some (record { number = number; argument = argument });
  edges = record { to = next; kind = kinds.Service } ∷ [];
}

abbrev pub block : Beginning → ℕ → List ℕ → Block
block begin nodes exits = record { begin = begin; nodes = nodes ∷ []; exits = exits }

-- ---- States: with mode 0 and no lock

abbrev pub state : List TaskAt → Option IsrAt → AbsState
state tasks isr = record { mode = 0; tasks = tasks; isr = isr; disabled = false; suspended = 0 }

abbrev pub isr_at : ℕ → Option IsrAt
isr_at block = Some (record { isr = 0; block = block })

-- ---- Steps, over registers that hold zeros

abbrev pub stands : ℕ → List ℕ → Standing
stands place calls = record { registers = zeros; place = place; calls = calls }

abbrev pub with_register : ℕ → ℕ → Standing → Standing
with_register register value standing = record standing { registers = with_value standing.registers register value }

abbrev pub goes : Context → Standing → Standing → Event
goes context before after =
    Execute (record { context = context; before = before; after = after; stored = None; device = 0; cycles = 1 })

abbrev pub asks : Context → Standing → Service → ℕ → Reply → ℕ → Event
asks caller before service argument reply cycles = Serve (record {
  caller = caller;
  before = with_register 10 argument before;
  service = service;
  reply = reply;
  registers = zeros;
  cycles = cycles;
})

abbrev pub takes : ℕ → Option Context → ℕ → Event
takes source started cycles = Take (record { source = source; started = started; registers = zeros; cycles = cycles })

abbrev pub ending : Context → Reply
ending caller = record { code = Done; misuse = false; ended = Some caller; activated = None }

abbrev pub activating : ℕ → Reply
activating task = record { code = Done; misuse = false; ended = None; activated = Some task }

-- ---- Rows

-- a column with a factor
abbrev pub times : ℤ → ℕ → Term
times factor column = record { column = column; entry = factor }

abbrev pub plus : ℕ → Term
plus column = times (pos 1) column

abbrev pub minus : ℕ → Term
minus column = times (negsuc 0) column

-- rows over that many columns by their terms
abbrev pub rows_over : ℕ → List (List Term) → List (List ℤ)
rows_over columns terms = map (row_of_terms columns) terms

-- the columns of these places
abbrev pub columns_at : PlantData → List AbsState → ℕ → List ℕ → List Column
columns_at plant states task places = filter_map (slice_get (columns plant states task)) places

-- the uses meet every row
abbrev pub meets_all : PlantData → List AbsState → ℕ → List Column → Bool
meets_all plant states task uses = list_all (λ row. int_le (left_side row.factor uses) (pos row.right)) (rows plant states task)

-- what the activation used that the newest of the steps ended
abbrev pub used : PlantData → ℕ → ℕ → List Event → Option (List Column)
used plant task mode [] = None
used plant task mode (event ∷ earlier) = closed_uses plant task mode event earlier

-- what the activation has used that goes on after the steps
abbrev pub used_so_far : PlantData → ℕ → ℕ → List Event → Option (List Column)
used_so_far plant task mode events = option_map (λ window. window.uses) (open_window plant task mode events)

-- ---- What the code of a plant says of its flow

abbrev pub is_node : Node → Node → Bool
is_node a b = is_eq (node_cmp a b)

abbrev pub numbered : List Node → Edge Node → Edge ℕ
numbered nodes edge = record { to = option_and_then (λ next. position (is_node next) nodes) edge.to; kind = edge.kind }

-- what leaves a node by the code, with the nodes by their numbers
abbrev pub leaving_by : PlantData → Node → Leaving
leaving_by plant from = record {
  service = service_at (insn_at plant.image) from.address;
  edges = map (numbered plant.flow.nodes) (edges_of (insn_at plant.image) from);
}

abbrev pub program_in : PlantData → Program
program_in plant = program_of plant.image plant.system plant.timing

-- the flow's leaving, the beginnings of its blocks, and no fault
abbrev pub leavings : PlantData → List Leaving
leavings plant = map (leaving_by plant) plant.flow.nodes

abbrev pub faults : PlantData → List (Option CodeKind)
faults plant = map (fault_of (program_in plant)) plant.flow.nodes
