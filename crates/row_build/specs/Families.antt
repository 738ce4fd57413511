-- The seven families of rows. Each row says of the counts of an activation that a sum of columns, each with a factor,
-- is at most a number.
use Rattle.std.specs.Prelude.{ℕ, ◌*◌, nat_eq, not, ◌&&◌, ◌==◌, Bool, true, false, List, [], ◌∷◌, ◌++◌, length, map, filter, slice_get, Some, ℤ, pos, ◌+ℤ◌, ◌-ℤ◌, ◌*ℤ◌, if◌then◌else◌}
use Rattle.std.specs.List.{list_any, range_with_len, flat_map}
use Rattle.std.specs.Option.{option_map_or}
use Rattle.osek_kernel.specs.declared.context.Context.{Context}
use Rattle.osek_kernel.specs.declared.context.Context.TheVariants as contexts
use Rattle.osek_kernel.specs.Contexts.{context_at, context_count}
use Rattle.osek_kernel.specs.Positions.{position_of}
use Rattle.osek_kernel.specs.Sources.{source_count, source_at, is_live, is_one_shot}
use Rattle.osek_machine.specs.Declarations.{distance_of}
use Rattle.osek_machine.specs.Loops.{is_this}
use Rattle.wcet_atomic_blocks.specs.declared.block.Beginning.{Beginning}
use Rattle.wcet_atomic_blocks.specs.declared.block.Block.{Block}
use Rattle.wcet_atomic_blocks.specs.declared.loops.EdgeId.{EdgeId}
use Rattle.wcet_atomic_blocks.specs.declared.loops.LoopInstance.{LoopInstance}
use Rattle.wcet_atomic_blocks.specs.Loops.{loop_instances}
use Rattle.wcet_atomic_blocks.specs.Plants.{PlantData}
use Rattle.abstract_sched.specs.declared.states.AbsState.{AbsState}
use Rattle.abstract_sched.specs.States.{same_state}
use Rattle.scheduler_moves.specs.Moves.{blocks_in, running_in}
use Rattle.row_build.specs.Columns

-- what is counted with which factor, and the right side
pub record Row : Type 0 where
  pub factor : Columns.Column → ℤ
  pub right : ℕ

-- ---- Words on columns

-- the columns of a kind that pass a test count once
abbrev pub counted : Bool → ℤ
counted true = pos 1
counted false = pos 0

abbrev pub starts_that : (Columns.Start → Bool) → Columns.Column → ℤ
starts_that test (Columns.Starts start) = counted (test start)
starts_that test column = pos 0

abbrev pub moves_that : (Columns.Going → Bool) → Columns.Column → ℤ
moves_that test (Columns.Moves going) = counted (test going)
moves_that test column = pos 0

abbrev pub edges_that : (Columns.Along → Bool) → Columns.Column → ℤ
edges_that test (Columns.Goes along) = counted (test along)
edges_that test column = pos 0

abbrev pub begins_that : (ℕ → Bool) → Columns.Column → ℤ
begins_that test (Columns.Begins block) = counted (test block)
begins_that test column = pos 0

abbrev pub stands_that : (ℕ → Bool) → Columns.Column → ℤ
stands_that test (Columns.Stands node) = counted (test node)
stands_that test column = pos 0

abbrev pub all_starts : Columns.Column → ℤ
all_starts column = starts_that (λ start. true) column

-- How often the activation comes into a state that passes the test: by its start, or by a move that doesn't end it. A
-- move that ends it and starts the next one counts by that start alone.
abbrev pub into : PlantData → ℕ → (AbsState → Bool) → Columns.Column → ℤ
into plant task test column =
    starts_that (λ start. test (Columns.state_after plant start)) column
    +ℤ moves_that (λ going. test going.move.to && not (Columns.ends_in plant (contexts.Task task) going)) column

-- ---- 1: the activation has one start

abbrev pub one_start : Row
one_start = record { factor = all_starts; right = 1 }

-- ---- 2: a state is left at most as often as it is come into

abbrev pub leaves : PlantData → ℕ → AbsState → Row
leaves plant task state = record {
  factor = λ column. moves_that (λ going. same_state state going.from) column -ℤ into plant task (same_state state) column;
  right = 0;
}

-- for each listed state in which the task is active
abbrev pub leaving : PlantData → List AbsState → ℕ → List Row
leaving plant states task = map (leaves plant task) (filter (λ state. Columns.is_active_in state (contexts.Task task)) states)

-- ---- 3: a node is left at most as often as it is come to

abbrev pub leads_to : ℕ → Columns.Along → Bool
leads_to node along = option_map_or (nat_eq node) along.edge.to false

abbrev pub is_first_at : PlantData → ℕ → ℕ → Bool
is_first_at plant node block = option_map_or (λ b. b.begin.first == node) (slice_get plant.blocks.blocks block) false

-- from an ECALL lead moves, and from any other node edges
abbrev pub out_of : ℕ → Columns.Column → ℤ
out_of node column = edges_that (λ along. along.node == node) column +ℤ moves_that (λ going. Columns.calls_at node going.move.label) column

abbrev pub passes : PlantData → ℕ → Row
passes plant node = record {
  factor = λ column. out_of node column
      -ℤ (edges_that (leads_to node) column +ℤ (begins_that (is_first_at plant node) column +ℤ stands_that (nat_eq node) column));
  right = 0;
}

abbrev pub passing : PlantData → List Row
passing plant = map (passes plant) (range_with_len 0 (length plant.flow.nodes))

-- ---- 4: a context stands where the start leaves it, and runs there only in a state that is come into

-- the state after the start has the context in a block that holds the node; of the task itself each start counts
abbrev pub leaves_at : PlantData → ℕ → Context → ℕ → Columns.Start → Bool
leaves_at plant task context node start =
    if is_this context (Some (contexts.Task task)) then true else Columns.holds_in plant (Columns.state_after plant start) context node

-- the task is active, and the context runs in a block that holds the node
abbrev pub runs_at : PlantData → ℕ → Context → ℕ → AbsState → Bool
runs_at plant task context node state =
    Columns.is_active_in state (contexts.Task task) && (is_this context (running_in plant state) && Columns.holds_in plant state context node)

abbrev pub stands_by_start : PlantData → ℕ → Context → ℕ → Row
stands_by_start plant task context node = record {
  factor = λ column. stands_that (nat_eq node) column -ℤ starts_that (leaves_at plant task context node) column;
  right = 0;
}

abbrev pub stands_into : PlantData → ℕ → Context → ℕ → Row
stands_into plant task context node = record {
  factor = λ column. stands_that (nat_eq node) column -ℤ into plant task (runs_at plant task context node) column;
  right = 0;
}

abbrev pub standing_rows : PlantData → ℕ → Context → ℕ → List Row
standing_rows plant task context node = stands_by_start plant task context node ∷ stands_into plant task context node ∷ []

-- the two rows of a node's context
abbrev pub standing_at : PlantData → ℕ → ℕ → List Row
standing_at plant task node = option_map_or (λ context. standing_rows plant task context node) (Columns.owner_of plant node) []

abbrev pub is_owned : PlantData → Context → ℕ → Bool
is_owned plant context node = is_this context (Columns.owner_of plant node)

-- a context stands at one node at most
abbrev pub stands_once : PlantData → Context → Row
stands_once plant context = record { factor = λ column. stands_that (is_owned plant context) column -ℤ all_starts column; right = 0 }

abbrev pub standing : PlantData → List AbsState → ℕ → List Row
standing plant states task =
    let nodes = Columns.positions plant states task in
    flat_map (standing_at plant task) nodes
    ++ map (stands_once plant) (filter (λ context. list_any (is_owned plant context) nodes) (map (context_at plant.system) (range_with_len 0 (context_count plant.system))))

-- ---- 5: a block is begun only by its moves, and runs only in a state that is come into

-- the move begins the block: it activates the context whose entry's block it is, or calls the service in front of it
abbrev pub begins_block : PlantData → Beginning → Columns.Going → Bool
begins_block plant begin going =
    option_map_or (λ service. Columns.calls_at service going.move.label)
    begin.after (Columns.activates plant (context_at plant.system begin.owner) going)

-- the task is active, and the context runs in the block
abbrev pub runs_in_block : PlantData → ℕ → Context → ℕ → AbsState → Bool
runs_in_block plant task context block state =
    Columns.is_active_in state (contexts.Task task)
    && (is_this context (running_in plant state) && option_map_or (nat_eq block) (position_of plant.system (blocks_in plant state) context) false)

abbrev pub begins_by_move : PlantData → ℕ → Beginning → Row
begins_by_move plant number begin = record {
  factor = λ column. begins_that (nat_eq number) column -ℤ moves_that (begins_block plant begin) column;
  right = 0;
}

abbrev pub begins_into : PlantData → ℕ → ℕ → Context → Row
begins_into plant task number context = record {
  factor = λ column. begins_that (nat_eq number) column -ℤ into plant task (runs_in_block plant task context number) column;
  right = 0;
}

abbrev pub beginning_rows : PlantData → ℕ → ℕ → Block → List Row
beginning_rows plant task number block =
    begins_by_move plant number block.begin ∷ begins_into plant task number (context_at plant.system block.begin.owner) ∷ []

abbrev pub beginning_at : PlantData → ℕ → ℕ → List Row
beginning_at plant task number = option_map_or (beginning_rows plant task number) (slice_get plant.blocks.blocks number) []

abbrev pub beginning : PlantData → ℕ → List Row
beginning plant task = flat_map (beginning_at plant task) (Columns.begun_blocks plant task)

-- ---- 6: a loop is gone round at most its bound for each time that it is entered

abbrev pub is_listed_edge : List EdgeId → Columns.Along → Bool
is_listed_edge edges along = list_any (λ edge. edge.node == along.node && edge.i == along.place) edges

abbrev pub is_listed : List ℕ → ℕ → Bool
is_listed numbers number = list_any (nat_eq number) numbers

abbrev pub entered : LoopInstance → Columns.Column → ℤ
entered instance column =
    edges_that (is_listed_edge instance.entering) column
    +ℤ (begins_that (is_listed instance.blocks) column +ℤ stands_that (is_listed instance.within) column)

-- the bound of a declared loop
abbrev pub bound_of : PlantData → ℕ → ℕ
bound_of plant declared = option_map_or (λ l. l.bound) (slice_get plant.timing.loops declared) 0

abbrev pub goes_round : PlantData → LoopInstance → Row
goes_round plant instance = record {
  factor = λ column. edges_that (is_listed_edge instance.backs) column -ℤ pos (bound_of plant instance.declared) *ℤ entered instance column;
  right = 0;
}

abbrev pub going_round : PlantData → List Row
going_round plant = map (goes_round plant) (loop_instances plant.flow plant.blocks.blocks plant.timing.loops)

-- ---- 7: a source is taken no more often than it arrives

-- the source is live in some mode
abbrev pub is_ever_live : PlantData → ℕ → Bool
is_ever_live plant source = list_any (λ mode. is_live plant.system mode (source_at plant.system source)) (range_with_len 0 (length plant.system.modes))

abbrev pub is_start_by : ℕ → Columns.Start → Bool
is_start_by source (Columns.In mode) = false
is_start_by source (Columns.By going) = Columns.takes_source source going.move.label

abbrev pub taken : ℕ → Columns.Column → ℤ
taken source column = starts_that (is_start_by source) column +ℤ moves_that (λ going. Columns.takes_source source going.move.label) column

-- One arrival may be pending at the start, and the others lie at least the distance apart: the distance times all but
-- two of them is at most the cycles of all columns.
abbrev pub arrives_apart : PlantData → ℕ → Row
arrives_apart plant source =
    let distance = distance_of plant.system plant.timing (source_at plant.system source) in
    record { factor = λ column. pos distance *ℤ taken source column -ℤ pos (Columns.cost plant column); right = 2 * distance }

-- one that arrives once is taken once
abbrev pub arrives_once : ℕ → Row
arrives_once source = record { factor = taken source; right = 1 }

abbrev pub arrives : PlantData → ℕ → Row
arrives plant source = if is_one_shot plant.system (source_at plant.system source) then arrives_once source else arrives_apart plant source

abbrev pub arriving : PlantData → List Row
arriving plant = map (arrives plant) (filter (is_ever_live plant) (range_with_len 0 (source_count plant.system)))

-- ---- All of them, in their order

abbrev pub rows : PlantData → List AbsState → ℕ → List Row
rows plant states task =
    (one_start ∷ leaving plant states task)
    ++ (passing plant ++ (standing plant states task ++ (beginning plant task ++ (going_round plant ++ arriving plant))))
