-- Moves of a scheduler state. The kernel takes a source, while interrupts are open, or the running context calls a
-- service at an exit of its block; then the running context is dispatched.
use Rattle.std.specs.Prelude.{ℕ, nat_eq, Bool, false, List, [], ◌++◌, length, map, filter, filter_map, is_some, slice_get, Option, None, option_map, option_and_then, Result, Ok, Err, if◌then◌else◌}
use Rattle.std.specs.List.{range_with_len}
use Rattle.std.specs.Option.{option_map_or}
use Rattle.listed.specs.Lists.{all_of}
use Rattle.listed.specs.Steps.{◌>>=◌}
use Rattle.listed.specs.Steps.Options as options
use Rattle.osek_kernel.specs.declared.context.Context.{Context}
use Rattle.osek_kernel.specs.declared.context.Context.TheVariants as contexts
use Rattle.osek_kernel.specs.declared.kernel.Kernel.{Kernel}
use Rattle.osek_kernel.specs.Contexts.{place_of, context_at, context_count}
use Rattle.osek_kernel.specs.Kernel.{task_state, interrupts_open}
use Rattle.osek_kernel.specs.Positions.{position_of, started, answered}
use Rattle.osek_kernel.specs.Running.{runs, dispatched}
use Rattle.osek_kernel.specs.Services.{service_of, code_number}
use Rattle.osek_kernel.specs.Served.{Served, served}
use Rattle.osek_kernel.specs.Sources.{source_count, source_at, is_live}
use Rattle.osek_kernel.specs.Taken as kernels
use Rattle.osek_kernel.specs.Taken.{Taken, taken}
use Rattle.wcet_atomic_blocks.specs.Plants.{PlantData}
use Rattle.abstract_sched.specs.declared.rules.StateRules.{StateRules}
use Rattle.abstract_sched.specs.declared.states.AbsState.{AbsState}
use Rattle.abstract_sched.specs.States.{kernel_of, positions_of}
use Rattle.scheduler_moves.specs.declared.moves.Misuse.{Misuse}
use Rattle.scheduler_moves.specs.declared.moves.Move.{Move}
use Rattle.scheduler_moves.specs.declared.moves.MoveLabel.TheVariants as labels
use Rattle.scheduler_moves.specs.Composed.{composed}

-- ---- What a plant says of states

-- what the states of a plant's system are judged by
abbrev pub rules_of : PlantData → StateRules
rules_of plant = record {
  modes = length plant.system.modes;
  isrs = length plant.system.isrs;
  resources = length plant.system.resources;
  inner = map (λ task. is_some task.inner) plant.system.tasks;
  owners = map (λ block. context_at plant.system block.begin.owner) plant.blocks.blocks;
}

-- a context that starts begins the block of its entry
abbrev pub entry_block : PlantData → Context → Option ℕ
entry_block plant context = slice_get plant.blocks.entries (place_of plant.system context)

-- the block behind a service; none where the node is no service that its caller goes on from
abbrev pub block_behind : PlantData → ℕ → Option ℕ
block_behind plant node = option_and_then (λ behind. behind) (slice_get plant.blocks.afters node)

-- the block of each context in a state, tasks by id and then ISRs by id; none where it isn't active
abbrev pub blocks_in : PlantData → AbsState → List (Option ℕ)
blocks_in plant state = positions_of (length plant.system.isrs) state

-- the context that runs in a state
abbrev pub running_in : PlantData → AbsState → Option Context
running_in plant state = runs plant.system (kernel_of state)

-- ---- The start of a mode

abbrev pub is_active : Kernel → Context → Bool
is_active kernel (contexts.Task t) = is_some (task_state kernel t)
is_active kernel (contexts.Isr i) = option_map_or (nat_eq i) kernel.isr false

-- each active context begins the block of its entry
abbrev pub start_block : PlantData → Kernel → Context → Option ℕ
start_block plant kernel context = if is_active kernel context then entry_block plant context else None

abbrev pub start_blocks : PlantData → Kernel → List (Option ℕ)
start_blocks plant kernel = map (λ n. start_block plant kernel (context_at plant.system n)) (range_with_len 0 (context_count plant.system))

-- the state in which the mode starts
abbrev pub initial : PlantData → ℕ → AbsState
initial plant mode =
    let kernel = kernels.initial plant.system mode in
    composed plant.system kernel (start_blocks plant kernel)

-- ---- A source is taken

abbrev pub taken_in : PlantData → AbsState → ℕ → Taken
taken_in plant state source = taken plant.system (kernel_of state) (source_at plant.system source)

abbrev pub after_take : PlantData → AbsState → ℕ → AbsState
after_take plant state source =
    let done = taken_in plant state source in
    composed plant.system (dispatched plant.system done.kernel) (started plant.system (entry_block plant) done.started (blocks_in plant state))

abbrev pub take_move : PlantData → AbsState → ℕ → Move
take_move plant state source = record { label = labels.Take source; to = after_take plant state source }

-- the sources that are live in the state's mode
abbrev pub live_sources : PlantData → AbsState → List ℕ
live_sources plant state =
    filter (λ source. is_live plant.system state.mode (source_at plant.system source)) (range_with_len 0 (source_count plant.system))

abbrev pub takes : PlantData → AbsState → List Move
takes plant state = if interrupts_open (kernel_of state) then map (take_move plant state) (live_sources plant state) else []

-- ---- The running context calls a service

-- what is answered where the context calls the service at a node
pub record Serving : Type 0 where
  pub node : ℕ
  pub done : Served

-- none where the node is no ECALL that asks for a service of the table
abbrev pub serving_at : PlantData → AbsState → Context → ℕ → Option Serving
serving_at plant state caller node = options.◌>>=◌ (option_and_then (λ leaving. leaving.service) (slice_get plant.flow.leaving node)) (λ at.
    option_map
    (λ service. record { node = node; done = served plant.system (kernel_of state) caller service at.argument })
    (service_of at.number))

-- the exits of the block at which the context stands, in node order
abbrev pub exits_in : PlantData → AbsState → Context → List ℕ
exits_in plant state context =
    option_map_or (λ block. block.exits) (option_and_then (slice_get plant.blocks.blocks) (position_of plant.system (blocks_in plant state) context)) []

-- the caller goes on at the block behind the service, unless the service ends it
abbrev pub after_service : PlantData → AbsState → Context → Serving → AbsState
after_service plant state caller serving =
    composed plant.system (dispatched plant.system serving.done.kernel)
    (answered plant.system (entry_block plant) caller (block_behind plant serving.node) serving.done.reply (blocks_in plant state))

-- the move, or the misuse where a rule of the service is broken
abbrev pub service_move : PlantData → AbsState → Context → Serving → Result Move Misuse
service_move plant state caller serving =
    if serving.done.reply.misuse then Err (record { context = caller; node = serving.node; code = code_number serving.done.reply.code })
    else Ok (record { label = labels.Service serving.node; to = after_service plant state caller serving })

abbrev pub servings : PlantData → AbsState → Context → List Serving
servings plant state caller = filter_map (serving_at plant state caller) (exits_in plant state caller)

abbrev pub services : PlantData → AbsState → Result (List Move) Misuse
services plant state = option_map_or (λ caller. all_of (service_move plant state caller) (servings plant state caller)) (running_in plant state) (Ok [])

-- ---- All of them

-- The moves of a state, or its first misuse.
abbrev pub successors : PlantData → AbsState → Result (List Move) Misuse
successors plant state = do
  moves ← services plant state
  Ok (takes plant state ++ moves)
