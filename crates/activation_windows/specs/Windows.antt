-- The window of an activation in a run of the OSEK machine, and the columns that it uses. A window opens with the step
-- that makes the task active, or with the run, and it closes with the step that ends the task. Runs are given by their
-- steps, of which the newest stands first.
use Rattle.std.specs.Prelude.{ℕ, List, [], ◌∷◌, ◌++◌, map, slice_get, Option, Some, None, option_map, option_and_then, option_to_list, if◌then◌else◌}
use Rattle.std.specs.List.{range_with_len}
use Rattle.std.specs.Option.{option_map_or}
use Rattle.rv32_machine.specs.Code.{insn_at}
use Rattle.osek_kernel.specs.declared.context.Context.{Context}
use Rattle.osek_kernel.specs.declared.context.Context.TheVariants as contexts
use Rattle.osek_kernel.specs.declared.kernel.Kernel.{Kernel}
use Rattle.osek_kernel.specs.Contexts.{context_at, context_count}
use Rattle.osek_kernel.specs.Positions.{position_of, placed, started, answered}
use Rattle.osek_kernel.specs.Running.{runs, dispatched}
use Rattle.osek_kernel.specs.Served.{served}
use Rattle.osek_kernel.specs.Sources.{source_at}
use Rattle.osek_kernel.specs.Taken as kernels
use Rattle.osek_machine.specs.Events.{Execution, ServiceCall, Event, Take, Execute, Serve, started_by, ended_by}
use Rattle.osek_machine.specs.Loops.{is_this}
use Rattle.osek_machine.specs.Steps.{argument_in}
use Rattle.flow_graph.specs.Standing.{edge_number}
use Rattle.wcet_atomic_blocks.specs.Blocks.{edges_at, successor}
use Rattle.wcet_atomic_blocks.specs.Plants.{PlantData}
use Rattle.abstract_sched.specs.declared.states.AbsState.{AbsState}
use Rattle.scheduler_moves.specs.declared.moves.MoveLabel.{MoveLabel}
use Rattle.scheduler_moves.specs.declared.moves.MoveLabel.TheVariants as labels
use Rattle.scheduler_moves.specs.Composed.{composed}
use Rattle.scheduler_moves.specs.Moves.{entry_block, block_behind, is_active}
use Rattle.shadow_runs.specs.Shadow.{node_of, begun}
use Rattle.row_build.specs.Columns.{Going, Along, In, By, Column, Starts, Moves, Goes, Begins, Stands}

-- ---- What the steps of a run say of the kernel and of nodes

-- the kernel after them
abbrev pub kernel_after : PlantData → ℕ → List Event → Kernel
kernel_after plant mode [] = kernels.initial plant.system mode
kernel_after plant mode (Take taking ∷ earlier) =
    dispatched plant.system (kernels.taken plant.system (kernel_after plant mode earlier) (source_at plant.system taking.source)).kernel
kernel_after plant mode (Serve call ∷ earlier) =
    dispatched plant.system (served plant.system (kernel_after plant mode earlier) call.caller call.service (argument_in call.before)).kernel
kernel_after plant mode (event ∷ earlier) = kernel_after plant mode earlier

-- the shadow of the run
abbrev pub shadow_after : PlantData → ℕ → List Event → AbsState
shadow_after plant mode events = composed plant.system (kernel_after plant mode events) (begun plant mode events)

-- the context that runs then
abbrev pub running_after : PlantData → ℕ → List Event → Option Context
running_after plant mode events = runs plant.system (kernel_after plant mode events)

-- a context that starts stands at the first node of its entry's block
abbrev pub first_of_block : PlantData → ℕ → Option ℕ
first_of_block plant block = option_map (λ b. b.begin.first) (slice_get plant.blocks.blocks block)

abbrev pub entry_node : PlantData → Context → Option ℕ
entry_node plant context = option_and_then (first_of_block plant) (entry_block plant context)

abbrev pub start_node : PlantData → Kernel → Context → Option ℕ
start_node plant kernel context = if is_active kernel context then entry_node plant context else None

-- the node behind a caller that goes on
abbrev pub node_after : PlantData → ServiceCall → Option ℕ
node_after plant call = option_and_then (successor plant.flow) (node_of plant call.caller call.before)

-- for each context the node at which it stands, tasks by id and then ISRs by id; none where it isn't active
abbrev pub nodes_after : PlantData → ℕ → List Event → List (Option ℕ)
nodes_after plant mode [] =
    map (λ n. start_node plant (kernels.initial plant.system mode) (context_at plant.system n)) (range_with_len 0 (context_count plant.system))
nodes_after plant mode (Take taking ∷ earlier) = started plant.system (entry_node plant) taking.started (nodes_after plant mode earlier)
nodes_after plant mode (Execute execution ∷ earlier) =
    placed plant.system execution.context (node_of plant execution.context execution.after) (nodes_after plant mode earlier)
nodes_after plant mode (Serve call ∷ earlier) =
    answered plant.system (entry_node plant) call.caller (node_after plant call) call.reply (nodes_after plant mode earlier)
nodes_after plant mode (event ∷ earlier) = nodes_after plant mode earlier

-- ---- What a step uses

-- the move from the shadow before the step to the one after it
abbrev pub going_by : PlantData → ℕ → MoveLabel → Event → List Event → Going
going_by plant mode label event earlier =
    record { from = shadow_after plant mode earlier; move = record { label = label; to = shadow_after plant mode (event ∷ earlier) } }

abbrev pub call_label : PlantData → ServiceCall → Option MoveLabel
call_label plant call = option_map labels.Service (node_of plant call.caller call.before)

-- what the step does, where it is a move
abbrev pub label_of : PlantData → Event → Option MoveLabel
label_of plant (Take taking) = Some (labels.Take taking.source)
label_of plant (Serve call) = call_label plant call
label_of plant event = None

-- the edge along which an instruction goes
abbrev pub edge_taken : PlantData → Execution → ℕ
edge_taken plant execution =
    option_map_or (λ insn. edge_number insn execution.before.registers) (insn_at plant.image execution.before.place) 0

abbrev pub along_at : PlantData → ℕ → ℕ → Option Along
along_at plant node place = option_map (λ edge. record { node = node; place = place; edge = edge }) (slice_get (edges_at plant.flow node) place)

abbrev pub along_of : PlantData → Execution → Option Along
along_of plant execution =
    option_and_then (λ node. along_at plant node (edge_taken plant execution)) (node_of plant execution.context execution.before)

-- the column of a step: its move, or its edge; arrivals and idling have none
abbrev pub used_by : PlantData → ℕ → Event → List Event → Option Column
used_by plant mode (Execute execution) earlier = option_map Goes (along_of plant execution)
used_by plant mode event earlier = option_map (λ label. Moves (going_by plant mode label event earlier)) (label_of plant event)

-- the start that the step is
abbrev pub start_by : PlantData → ℕ → Event → List Event → Option Column
start_by plant mode event earlier = option_map (λ label. Starts (By (going_by plant mode label event earlier))) (label_of plant event)

-- ---- Visits that wait

-- The columns that a window has used, the newest first, and for each context the column of its visit of a block where
-- it hasn't run in it yet: it is used as soon as the context runs.
pub record Window : Type 0 where
  pub uses : List Column
  pub waiting : List (Option Column)

-- the visits that a step begins
abbrev pub entered : PlantData → Context → Option Column
entered plant context = option_map Begins (entry_block plant context)

abbrev pub behind : PlantData → ServiceCall → Option Column
behind plant call = option_map Begins (option_and_then (block_behind plant) (node_of plant call.caller call.before))

abbrev pub waiting_after : PlantData → Event → List (Option Column) → List (Option Column)
waiting_after plant (Take taking) waiting = started plant.system (entered plant) taking.started waiting
waiting_after plant (Serve call) waiting = answered plant.system (entered plant) call.caller (behind plant call) call.reply waiting
waiting_after plant event waiting = waiting

-- the visit of the context that runs is used
abbrev pub run_in : PlantData → Option Context → Window → Window
run_in plant None window = window
run_in plant (Some context) window =
    record { uses = option_to_list (position_of plant.system window.waiting context) ++ window.uses; waiting = placed plant.system context None window.waiting }

-- ---- Windows

-- A window that opens: its start is used, and each active context stands at its node.
abbrev pub opened : PlantData → ℕ → Option Column → List Event → Window
opened plant mode start events =
    run_in plant (running_after plant mode events)
    (record { uses = option_to_list start; waiting = map (λ node. option_map Stands node) (nodes_after plant mode events) })

-- one more step
abbrev pub gone_on : PlantData → ℕ → Event → List Event → Window → Window
gone_on plant mode event earlier window =
    run_in plant (running_after plant mode (event ∷ earlier))
    (record { uses = option_to_list (used_by plant mode event earlier) ++ window.uses; waiting = waiting_after plant event window.waiting })

-- The window of the task that is open after the steps; none where the task isn't active.
abbrev pub open_window : PlantData → ℕ → ℕ → List Event → Option Window
open_window plant task mode [] =
    if is_active (kernels.initial plant.system mode) (contexts.Task task) then Some (opened plant mode (Some (Starts (In mode))) []) else None
open_window plant task mode (event ∷ earlier) =
    if is_this (contexts.Task task) (started_by event) then Some (opened plant mode (start_by plant mode event earlier) (event ∷ earlier))
    else (if is_this (contexts.Task task) (ended_by event) then None
    else option_map (gone_on plant mode event earlier) (open_window plant task mode earlier))

-- what the window used that the newest step closed
abbrev pub closed_uses : PlantData → ℕ → ℕ → Event → List Event → Option (List Column)
closed_uses plant task mode event earlier =
    if is_this (contexts.Task task) (ended_by event)
    then option_map (λ window. option_to_list (used_by plant mode event earlier) ++ window.uses) (open_window plant task mode earlier)
    else None
