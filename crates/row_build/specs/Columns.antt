-- The columns of the rows of a task: what is counted while an activation of the task lasts, and what each costs, in
-- cycles.
use Rattle.std.specs.Prelude.{ℕ, suc, nat_eq, not, ◌&&◌, ◌||◌, ◌==◌, Bool, true, false, List, [], ◌∷◌, ◌++◌, length, map, filter, slice_get, Option, Some, None, option_map, option_and_then, Result, Ok, Err, if◌then◌else◌}
use Rattle.std.specs.List.{list_any, range_with_len, flat_map}
use Rattle.std.specs.Option.{option_map_or}
use Rattle.rv32_decode.specs.Instructions.{class_of}
use Rattle.rv32_machine.specs.Code.{insn_at}
use Rattle.osek_kernel.specs.declared.context.Context.{Context}
use Rattle.osek_kernel.specs.declared.context.Context.TheVariants as contexts
use Rattle.osek_kernel.specs.declared.service.Service.{Service}
use Rattle.osek_kernel.specs.Contexts.{context_at}
use Rattle.osek_kernel.specs.Positions.{position_of}
use Rattle.osek_kernel.specs.Services.{service_of}
use Rattle.osek_kernel.specs.Sources.{source_at}
use Rattle.timing_file.specs.Costs.{insn_cost, service_cost}
use Rattle.osek_machine.specs.Declarations.{take_cost}
use Rattle.osek_machine.specs.Loops.{is_this}
use Rattle.flow_graph.specs.declared.edge.Edge.{Edge}
use Rattle.flow_graph.specs.declared.edge.EdgeKind.{EdgeKind}
use Rattle.flow_graph.specs.declared.edge.EdgeKind.TheVariants as kinds
use Rattle.flow_graph.specs.Graph.{ends_caller}
use Rattle.wcet_atomic_blocks.specs.Blocks.{edges_at, is_service}
use Rattle.wcet_atomic_blocks.specs.NodeSets.{holds}
use Rattle.wcet_atomic_blocks.specs.Plants.{PlantData}
use Rattle.abstract_sched.specs.declared.states.AbsState.{AbsState}
use Rattle.abstract_sched.specs.States.{kernel_of}
use Rattle.scheduler_moves.specs.declared.moves.Misuse.{Misuse}
use Rattle.scheduler_moves.specs.declared.moves.Move.{Move}
use Rattle.scheduler_moves.specs.declared.moves.MoveLabel.{MoveLabel}
use Rattle.scheduler_moves.specs.declared.moves.MoveLabel.TheVariants as labels
use Rattle.scheduler_moves.specs.Moves.{blocks_in, entry_block, initial, is_active, running_in, successors}

-- ---- What a state says of contexts

abbrev pub is_active_in : AbsState → Context → Bool
is_active_in state context = is_active (kernel_of state) context

-- the context is active in a block that holds the node
abbrev pub holds_in : PlantData → AbsState → Context → ℕ → Bool
holds_in plant state context node =
    option_map_or (λ block. holds block.nodes node)
    (option_and_then (slice_get plant.blocks.blocks) (position_of plant.system (blocks_in plant state) context)) false

-- ---- Moves out of listed states

-- a move out of a state
pub record Going : Type 0 where
  pub from : AbsState
  pub move : Move

abbrev pub moves_or_none : Result (List Move) Misuse → List Move
moves_or_none (Ok moves) = moves
moves_or_none (Err misuse) = []

abbrev pub goings_from : PlantData → AbsState → List Going
goings_from plant state = map (λ move. record { from = state; move = move }) (moves_or_none (successors plant state))

-- all moves, by state and place
abbrev pub goings : PlantData → List AbsState → List Going
goings plant states = flat_map (goings_from plant) states

-- the service that is called in a move
abbrev pub service_at_node : PlantData → ℕ → Option Service
service_at_node plant node =
    option_and_then (λ at. service_of at.number) (option_and_then (λ leaving. leaving.service) (slice_get plant.flow.leaving node))

abbrev pub service_in : PlantData → MoveLabel → Option Service
service_in plant (labels.Take source) = None
service_in plant (labels.Service node) = service_at_node plant node

abbrev pub takes_source : ℕ → MoveLabel → Bool
takes_source source (labels.Take taken) = taken == source
takes_source source (labels.Service node) = false

abbrev pub calls_at : ℕ → MoveLabel → Bool
calls_at node (labels.Take source) = false
calls_at node (labels.Service called) = called == node

-- the context runs and ends in the move
abbrev pub ends_in : PlantData → Context → Going → Bool
ends_in plant context going = is_this context (running_in plant going.from) && option_map_or ends_caller (service_in plant going.move.label) false

-- the move activates the context, which wasn't active or ends in the same move
abbrev pub activates : PlantData → Context → Going → Bool
activates plant context going = is_active_in going.move.to context && (not (is_active_in going.from context) || ends_in plant context going)

-- ---- Starts of an activation

pub data Start : Type 0 where
  -- the task is active where the mode starts
  In : ℕ → Start
  -- the move activates the task
  By : Going → Start

-- the state after a start
abbrev pub state_after : PlantData → Start → AbsState
state_after plant (In mode) = initial plant mode
state_after plant (By going) = going.move.to

-- modes in order, then moves by state and place
abbrev pub starts : PlantData → List AbsState → ℕ → List Start
starts plant states task =
    map In (filter (λ mode. is_active_in (initial plant mode) (contexts.Task task)) (range_with_len 0 (length plant.system.modes)))
    ++ map By (filter (activates plant (contexts.Task task)) (goings plant states))

-- ---- Columns

-- an edge of a node that is no ECALL, by the place of the edge
pub record Along : Type 0 where
  pub node : ℕ
  pub place : ℕ
  pub edge : Edge ℕ

pub data Column : Type 0 where
  -- whether the activation begins by this start
  Starts : Start → Column
  -- how often the move is made after the start
  Moves : Going → Column
  -- how often instructions go along the edge
  Goes : Along → Column
  -- how often the block is begun, and its context runs in it
  Begins : ℕ → Column
  -- whether a context stands at the node at the start, and runs in the block that it stands in
  Stands : ℕ → Column

abbrev pub alongs_at : ℕ → ℕ → List (Edge ℕ) → List Along
alongs_at node place [] = []
alongs_at node place (edge ∷ edges) = record { node = node; place = place; edge = edge } ∷ alongs_at node (suc place) edges

abbrev pub alongs : PlantData → List Along
alongs plant =
    flat_map (λ node. if is_service plant.flow node then [] else alongs_at node 0 (edges_at plant.flow node)) (range_with_len 0 (length plant.flow.nodes))

-- the block is that of the task's entry
abbrev pub is_own_entry : PlantData → ℕ → ℕ → Bool
is_own_entry plant task block = option_map_or (nat_eq block) (entry_block plant (contexts.Task task)) false

abbrev pub begun_blocks : PlantData → ℕ → List ℕ
begun_blocks plant task = filter (λ block. not (is_own_entry plant task block)) (range_with_len 0 (length plant.blocks.blocks))

-- the context of a node
abbrev pub owner_of : PlantData → ℕ → Option Context
owner_of plant node = option_map (λ n. context_at plant.system n.context) (slice_get plant.flow.nodes node)

-- the node is the first one of the task's entry
abbrev pub is_first_of : PlantData → ℕ → ℕ → Bool
is_first_of plant task node =
    option_map_or (λ block. block.begin.first == node)
    (option_and_then (slice_get plant.blocks.blocks) (entry_block plant (contexts.Task task))) false

-- A node may be a start position where some start leaves its context in a block that holds it; of the task's own
-- nodes only its entry.
abbrev pub may_stand : PlantData → ℕ → ℕ → Context → Start → Bool
may_stand plant task node context start =
    holds_in plant (state_after plant start) context node
    && (not (is_this context (Some (contexts.Task task))) || is_first_of plant task node)

abbrev pub is_position : PlantData → List Start → ℕ → ℕ → Bool
is_position plant begins task node = option_map_or (λ context. list_any (may_stand plant task node context) begins) (owner_of plant node) false

abbrev pub positions : PlantData → List AbsState → ℕ → List ℕ
positions plant states task = filter (is_position plant (starts plant states task) task) (range_with_len 0 (length plant.flow.nodes))

-- All columns, in their order.
abbrev pub columns : PlantData → List AbsState → ℕ → List Column
columns plant states task =
    map Starts (starts plant states task)
    ++ (map Moves (filter (λ going. is_active_in going.from (contexts.Task task)) (goings plant states))
    ++ (map Goes (alongs plant)
    ++ (map Begins (begun_blocks plant task)
    ++ map Stands (positions plant states task))))

-- ---- Costs: the most that a step of the column may take

abbrev pub address_of : PlantData → ℕ → ℕ
address_of plant node = option_map_or (λ n. n.address) (slice_get plant.flow.nodes node) 0

abbrev pub kernel_cost : PlantData → MoveLabel → ℕ
kernel_cost plant (labels.Take source) = take_cost plant.timing (source_at plant.system source)
kernel_cost plant (labels.Service node) = option_map_or (λ service. service_cost plant.timing service (address_of plant node)) (service_at_node plant node) 0

abbrev pub is_taken : EdgeKind → Bool
is_taken kinds.Taken = true
is_taken kind = false

abbrev pub edge_cost : PlantData → Along → ℕ
edge_cost plant along =
    option_map_or
    (λ insn. insn_cost plant.timing (class_of insn) (is_taken along.edge.kind) (address_of plant along.node))
    (insn_at plant.image (address_of plant along.node)) 0

abbrev pub cost : PlantData → Column → ℕ
cost plant (Starts (In mode)) = 0
cost plant (Starts (By going)) = kernel_cost plant going.move.label
cost plant (Moves going) = kernel_cost plant going.move.label
cost plant (Goes along) = edge_cost plant along
cost plant (Begins block) = 0
cost plant (Stands node) = 0
