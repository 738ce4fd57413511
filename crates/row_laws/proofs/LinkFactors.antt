-- The factors of rows at the column of an edge.
use Rattle.std.proofs.Common.{◌≡◌, ◌≢◌, ℕ, Bool, true, false, List, [], ◌∷◌, ◌++◌, map, filter, flat_map, get_or, slice_get, ℤ, pos, negsuc, ◌+ℤ◌, ◌-ℤ◌, ◌*ℤ◌, ◌≤ℤ◌, All, Option, Some, None, refl, arith}
use Rattle.std.specs.List.{list_any, range_with_len}
use Rattle.std.specs.Option.{option_map_or}
use Rattle.std.proofs.lemmas.Bool.{cond_both, ne_eqb}
use Rattle.std.proofs.lemmas.Int.{ints}
use Rattle.std.proofs.lemmas.List.Elements.{All-nil, All-cons, All-append, All-map}
use Rattle.osek_kernel.specs.declared.context.Context.{Context}
use Rattle.osek_kernel.specs.declared.context.Context.TheVariants as contexts
use Rattle.osek_kernel.specs.Contexts.{context_at, context_count}
use Rattle.osek_kernel.specs.Sources.{source_count, source_at, is_one_shot}
use Rattle.osek_machine.specs.Declarations.{distance_of}
use Rattle.wcet_atomic_blocks.specs.declared.block.Block.{Block}
use Rattle.wcet_atomic_blocks.specs.declared.loops.LoopInstance.{LoopInstance}
use Rattle.wcet_atomic_blocks.specs.Loops.{loop_instances}
use Rattle.wcet_atomic_blocks.specs.Plants.{PlantData}
use Rattle.abstract_sched.specs.declared.states.AbsState.{AbsState}
use Rattle.row_build.specs.Columns as words
use Rattle.row_build.specs.Columns.{Along, Goes, positions, owner_of, begun_blocks}
use Rattle.row_build.specs.Families.{Row, counted, one_start, leaves, leaving, leads_to, passes, stands_by_start, stands_into, standing_rows, standing_at, is_owned, stands_once, standing, begins_by_move, begins_into, beginning_rows, beginning_at, beginning, is_listed_edge, bound_of, goes_round, going_round, is_ever_live, arrives_apart, arrives_once, arrives, arriving}
use Rattle.row_build.specs.Links.{is_back}
use Rattle.row_laws.proofs.LinkLists.{All-map_each, All-two, All-flat_map, none_passes}

-- ---- The row of a node

-- the factor of an edge that leaves the node, or leads to it
abbrev pub edge_factor : Bool → Bool → ℤ
edge_factor leaves leads = (counted leaves +ℤ pos 0) -ℤ (counted leads +ℤ (pos 0 +ℤ pos 0))

pub one_from : (leaves leads : Bool) → edge_factor leaves leads ≡ pos 1 → (leaves ≡ true) × (leads ≡ false)
one_from true true is = absurd (omega (arith, ints))
one_from true false is = (refl, refl)
one_from false true is = absurd (omega (arith, ints))
one_from false false is = absurd (omega (arith, ints))

pub minus_one_from : (leaves leads : Bool) → edge_factor leaves leads ≡ negsuc 0 → (leaves ≡ false) × (leads ≡ true)
minus_one_from true true is = absurd (omega (arith, ints))
minus_one_from true false is = absurd (omega (arith, ints))
minus_one_from false true is = (refl, refl)
minus_one_from false false is = absurd (omega (arith, ints))

-- ---- The other rows

-- the row doesn't hold the edge back
abbrev pub Allows : Along → Row → Type 0
Allows along row = row.factor (Goes along) ≤ℤ pos 0

other_node : (leads : Bool) → edge_factor false leads ≤ℤ pos 0
other_node true = omega (arith, ints)
other_node false = omega (arith, ints)

pub other_nodes_allow : (plant : PlantData) (node : ℕ) (along : Along) → along.node ≢ node → Allows along (passes plant node)
other_nodes_allow plant node along apart = rw (ne_eqb along.node node apart) (other_node (leads_to node along))

one_start_allows : (along : Along) → Allows along one_start
one_start_allows along = omega (arith, ints)

leaving_allows : (plant : PlantData) (task : ℕ) (along : Along) (state : AbsState) → Allows along (leaves plant task state)
leaving_allows plant task along state = omega (arith, ints)

pub first_rows_allow : (plant : PlantData) (states : List AbsState) (task : ℕ) (along : Along) → All (Allows along) (one_start ∷ leaving plant states task)
first_rows_allow plant states task along =
    All-cons (Allows along) one_start (leaving plant states task) (one_start_allows along)
    (All-map_each (Allows along) (leaves plant task) (filter (λ state. words.is_active_in state (contexts.Task task)) states) (leaving_allows plant task along))

standing_allows : (plant : PlantData) (states : List AbsState) (task : ℕ) (along : Along) → All (Allows along) (standing plant states task)
standing_allows plant states task along =
    All-append (Allows along) (flat_map (standing_at plant task) nodes) (map (stands_once plant) some)
    (All-flat_map (Allows along) (standing_at plant task) nodes (λ node. by_owner node (owner_of plant node)))
    (All-map_each (Allows along) (stands_once plant) some once_allows)
  where
    nodes : List ℕ
    nodes = positions plant states task

    some : List Context
    some = filter (λ context. list_any (is_owned plant context) nodes) (map (context_at plant.system) (range_with_len 0 (context_count plant.system)))

    once_allows : (context : Context) → Allows along (stands_once plant context)
    once_allows context = omega (arith, ints)

    by_owner : (node : ℕ) (o : Option Context) → All (Allows along) (option_map_or (λ context. standing_rows plant task context node) o [])
    by_owner node None = All-nil (Allows along)
    by_owner node (Some context) =
        All-two (Allows along) (stands_by_start plant task context node) (stands_into plant task context node)
        (omega (arith, ints)) (omega (arith, ints))

beginning_allows : (plant : PlantData) (task : ℕ) (along : Along) → All (Allows along) (beginning plant task)
beginning_allows plant task along =
    All-flat_map (Allows along) (beginning_at plant task) (begun_blocks plant task) (λ number. by_block number (slice_get plant.blocks.blocks number))
  where
    by_block : (number : ℕ) (o : Option Block) → All (Allows along) (option_map_or (beginning_rows plant task number) o [])
    by_block number None = All-nil (Allows along)
    by_block number (Some block) =
        All-two (Allows along) (begins_by_move plant number block.begin) (begins_into plant task number (context_at plant.system block.begin.owner))
        (omega (arith, ints)) (omega (arith, ints))

round_factor : (bound : ℕ) (enters : Bool) → (pos 0 -ℤ pos bound *ℤ (counted enters +ℤ (pos 0 +ℤ pos 0))) ≤ℤ pos 0
round_factor bound true = omega (arith, ints)
round_factor bound false = omega (arith, ints)

going_round_allows : (plant : PlantData) (along : Along) → is_back plant along ≡ false → All (Allows along) (going_round plant)
going_round_allows plant along not_back =
    All-map (Allows along) (goes_round plant) instances
    (λ k d within. allows (get_or instances k d) (others k d within))
  where
    instances : List LoopInstance
    instances = loop_instances plant.flow plant.blocks.blocks plant.timing.loops

    others : All (λ (instance : LoopInstance). is_listed_edge instance.backs along ≡ false) instances
    others = none_passes (λ instance. is_listed_edge instance.backs along) instances not_back

    allows : (instance : LoopInstance) → is_listed_edge instance.backs along ≡ false → Allows along (goes_round plant instance)
    allows instance other = rw other (round_factor (bound_of plant instance.declared) (is_listed_edge instance.entering along))

apart_factor : (distance cost : ℕ) → (pos distance *ℤ (pos 0 +ℤ pos 0) -ℤ pos cost) ≤ℤ pos 0
apart_factor distance cost = omega (arith, ints)

arriving_allows : (plant : PlantData) (along : Along) → All (Allows along) (arriving plant)
arriving_allows plant along =
    All-map_each (Allows along) (arrives plant) (filter (is_ever_live plant) (range_with_len 0 (source_count plant.system))) allows
  where
    allows : (source : ℕ) → Allows along (arrives plant source)
    allows source =
        cond_both (is_one_shot plant.system (source_at plant.system source)) (arrives_once source) (arrives_apart plant source) (Allows along)
        (λ e. omega (arith, ints))
        (λ e. apart_factor (distance_of plant.system plant.timing (source_at plant.system source)) (words.cost plant (Goes along)))

pub last_rows_allow : (plant : PlantData) (states : List AbsState) (task : ℕ) (along : Along) → is_back plant along ≡ false
    → All (Allows along) (standing plant states task ++ (beginning plant task ++ (going_round plant ++ arriving plant)))
last_rows_allow plant states task along not_back =
    All-append (Allows along) (standing plant states task) (beginning plant task ++ (going_round plant ++ arriving plant))
    (standing_allows plant states task along)
    (All-append (Allows along) (beginning plant task) (going_round plant ++ arriving plant) (beginning_allows plant task along)
    (All-append (Allows along) (going_round plant) (arriving plant) (going_round_allows plant along not_back) (arriving_allows plant along)))
