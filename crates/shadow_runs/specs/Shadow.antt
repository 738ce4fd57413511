-- The shadow of a run: the scheduler state that covers the state of the machine after it. Its kernel is the
-- machine's, and the block of an active context is the one that it began last, by its start or by its last service
-- that went on. Runs are given by their steps, of which the newest stands first.
use Rattle.std.specs.Prelude.{ℕ, nat_eq, ◌&&◌, ◌==◌, Bool, List, [], ◌∷◌, Option, position, option_and_then}
use Rattle.std.specs.Cmp.Lexicographic.{pointwise}
use Rattle.osek_kernel.specs.declared.context.Context.{Context}
use Rattle.osek_kernel.specs.Contexts.{place_of}
use Rattle.osek_kernel.specs.Positions.{started, answered}
use Rattle.osek_kernel.specs.Taken as kernels
use Rattle.rv32_machine.specs.ContextStep.{Standing}
use Rattle.osek_machine.specs.State.{MachineState}
use Rattle.osek_machine.specs.Events.{ServiceCall, Event, Take, Serve}
use Rattle.flow_graph.specs.declared.node.Node.{Node}
use Rattle.wcet_atomic_blocks.specs.Plants.{PlantData}
use Rattle.abstract_sched.specs.declared.states.AbsState.{AbsState}
use Rattle.scheduler_moves.specs.Composed.{composed}
use Rattle.scheduler_moves.specs.Moves.{entry_block, block_behind, start_blocks}

-- ---- Nodes

-- the node of that context with these open calls and this place
abbrev pub is_node_of : ℕ → Standing → Node → Bool
is_node_of context standing node = node.context == context && pointwise nat_eq node.sites standing.calls && (node.address == standing.place)

-- the number of the node at which a context stands
abbrev pub node_of : PlantData → Context → Standing → Option ℕ
node_of plant context standing = position (is_node_of (place_of plant.system context) standing) plant.flow.nodes

-- the block that a caller begins that goes on
abbrev pub block_after : PlantData → ServiceCall → Option ℕ
block_after plant call = option_and_then (block_behind plant) (node_of plant call.caller call.before)

-- ---- The shadow

-- for each context the block that it began last, tasks by id and then ISRs by id; none where it isn't active
abbrev pub begun : PlantData → ℕ → List Event → List (Option ℕ)
begun plant mode [] = start_blocks plant (kernels.initial plant.system mode)
begun plant mode (Take taking ∷ earlier) = started plant.system (entry_block plant) taking.started (begun plant mode earlier)
begun plant mode (Serve call ∷ earlier) =
    answered plant.system (entry_block plant) call.caller (block_after plant call) call.reply (begun plant mode earlier)
begun plant mode (event ∷ earlier) = begun plant mode earlier

-- the shadow of the run that starts in the mode and leads to the state
abbrev pub shadow : PlantData → ℕ → List Event → MachineState → AbsState
shadow plant mode events state = composed plant.system state.kernel (begun plant mode events)
