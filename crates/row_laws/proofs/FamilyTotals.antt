-- Sums over the rows of a family, by a bound on each of its rows.
use Rattle.std.proofs.Common.{◌≡◌, ℕ, ◌+◌, ◌*◌, ◌≤◌, Bool, true, List, [], ◌∷◌, length, map, Option, Some, None, arith}
use Rattle.std.specs.Prelude.{filter, slice_get, sum_by}
use Rattle.std.specs.List.{flat_map, list_any, range_with_len}
use Rattle.std.specs.Option.{option_map_or}
use Rattle.std.proofs.lemmas.List.FromFn.{length-range_with_len}
use Rattle.std.proofs.lemmas.List.Sums.{sum_by-append, sum_by-cons, sum_by-le-sum_by}
use Rattle.listed.specs.Lists.{differ}
use Rattle.osek_kernel.specs.declared.context.Context.{Context}
use Rattle.osek_kernel.specs.declared.context.Context.TheVariants as contexts
use Rattle.osek_kernel.specs.Contexts.{context_at, context_count}
use Rattle.wcet_atomic_blocks.specs.declared.block.Beginning.{Beginning}
use Rattle.wcet_atomic_blocks.specs.declared.block.Block.{Block}
use Rattle.wcet_atomic_blocks.specs.Plants.{PlantData}
use Rattle.abstract_sched.specs.declared.states.AbsState.{AbsState}
use Rattle.abstract_sched.specs.States.{same_state}
use Rattle.row_build.specs.Columns as columns
use Rattle.row_build.specs.Columns.{Column}
use Rattle.row_build.specs.Families as families
use Rattle.row_build.specs.Families.{Row}
use Rattle.row_laws.proofs.DifferingStates.{same-once}
use Rattle.row_laws.proofs.Factors.{size_at, left_at, come_at, leaves-size}
use Rattle.row_laws.proofs.Totals.{one, sum-each, sum-filter, sum-flat, sum-map, sum-plus}

-- ---- A list of numbers, and what is made of each

over_range : {A : Type 0} (f : A → ℕ) (g : ℕ → A) (n most : ℕ) → ((i : ℕ) → f (g i) ≤ most) → sum_by f (map g (range_with_len 0 n)) ≤ n * most
over_range f g n most small =
    let whole = sum-map f g (range_with_len 0 n) in
    let sum = sum-each (λ i. f (g i)) most (range_with_len 0 n) small in
    let count = length-range_with_len 0 n in
    rw whole (rw count at sum)

over_kept : {A : Type 0} (f : A → ℕ) (g : ℕ → List A) (p : ℕ → Bool) (n most : ℕ) → ((i : ℕ) → sum_by f (g i) ≤ most)
    → sum_by f (flat_map g (filter p (range_with_len 0 n))) ≤ n * most
over_kept f g p n most small =
    let whole = sum-flat f g (filter p (range_with_len 0 n)) in
    let kept = sum-filter (λ i. sum_by f (g i)) p (range_with_len 0 n) in
    let sum = sum-each (λ i. sum_by f (g i)) most (range_with_len 0 n) small in
    let count = length-range_with_len 0 n in
    let all : sum_by (λ i. sum_by f (g i)) (range_with_len 0 n) ≤ n * most = rw count at sum in
    omega arith

two_rows : (f : Row → ℕ) (a b : Row) (most : ℕ) → f a ≤ most → f b ≤ most → sum_by f (a ∷ b ∷ []) ≤ 2 * most
two_rows f a b most first second =
    let whole = sum_by-cons f a (b ∷ []) in
    let last = sum_by-cons f b [] in
    omega arith

-- ---- 2: states that are left

pub leaving-size : (plant : PlantData) (states : List AbsState) (task : ℕ) (column : Column) → differ same_state states ≡ true
    → sum_by (size_at column) (families.leaving plant states task) ≤ 2
leaving-size plant states task column apart =
    let kept = filter (λ state. columns.is_active_in state (contexts.Task task)) states in
    let whole = sum-map (size_at column) (families.leaves plant task) kept in
    let all = sum-filter (λ state. size_at column (families.leaves plant task state)) (λ state. columns.is_active_in state (contexts.Task task)) states in
    let each = sum_by-le-sum_by (λ state. size_at column (families.leaves plant task state))
    (λ state. one (same_state state (left_at plant column)) + one (same_state state (come_at plant column))) states (leaves-size plant task column) in
    let parts = sum-plus (λ state. one (same_state state (left_at plant column))) (λ state. one (same_state state (come_at plant column))) states in
    let left = same-once states (left_at plant column) apart in
    let come = same-once states (come_at plant column) apart in
    omega arith

pub leaving-total : (plant : PlantData) (states : List AbsState) (task : ℕ) (f : Row → ℕ)
    → ((state : AbsState) → f (families.leaves plant task state) ≤ 0) → sum_by f (families.leaving plant states task) ≤ 0
leaving-total plant states task f small =
    let kept = filter (λ state. columns.is_active_in state (contexts.Task task)) states in
    let whole = sum-map f (families.leaves plant task) kept in
    let each = sum-each (λ state. f (families.leaves plant task state)) 0 kept small in
    omega arith

-- ---- 3: nodes that are left

pub passing-total : (plant : PlantData) (f : Row → ℕ) (most : ℕ) → ((node : ℕ) → f (families.passes plant node) ≤ most)
    → sum_by f (families.passing plant) ≤ length plant.flow.nodes * most
passing-total plant f most small = over_range f (families.passes plant) (length plant.flow.nodes) most small

-- ---- 4: contexts that stand

-- a bound on each of the rows
pub record AreStandingBelow (plant : PlantData) (task : ℕ) (f : Row → ℕ) (most : ℕ) : Type 0 where
  pub by_start : (context : Context) (node : ℕ) → f (families.stands_by_start plant task context node) ≤ most
  pub into : (context : Context) (node : ℕ) → f (families.stands_into plant task context node) ≤ most
  pub once : (context : Context) → f (families.stands_once plant context) ≤ most

pub standing-total : (plant : PlantData) (states : List AbsState) (task : ℕ) (f : Row → ℕ) (most : ℕ) → AreStandingBelow plant task f most
    → sum_by f (families.standing plant states task) ≤ length plant.flow.nodes * (2 * most) + context_count plant.system * most
standing-total plant states task f most small =
    let nodes = columns.positions plant states task in
    let all = map (context_at plant.system) (range_with_len 0 (context_count plant.system)) in
    let owning = (λ (context : Context). list_any (families.is_owned plant context) nodes) in
    let whole = sum_by-append f (flat_map (families.standing_at plant task) nodes) (map (families.stands_once plant) (filter owning all)) in
    let first = over_kept f (families.standing_at plant task) (columns.is_position plant (columns.starts plant states task) task)
    (length plant.flow.nodes) (2 * most) (λ node. at node (columns.owner_of plant node)) in
    let owners = sum-map f (families.stands_once plant) (filter owning all) in
    let kept = sum-filter (λ context. f (families.stands_once plant context)) owning all in
    let second = over_range (λ context. f (families.stands_once plant context)) (context_at plant.system) (context_count plant.system) most
    (λ i. small.once (context_at plant.system i)) in
    omega arith
  where
    at : (node : ℕ) (owner : Option Context) → sum_by f (option_map_or (λ context. families.standing_rows plant task context node) owner []) ≤ 2 * most
    at node None = omega arith
    at node (Some context) =
        two_rows f (families.stands_by_start plant task context node) (families.stands_into plant task context node) most
        (small.by_start context node) (small.into context node)

-- ---- 5: blocks that are begun

pub record AreBeginningBelow (plant : PlantData) (task : ℕ) (f : Row → ℕ) (most : ℕ) : Type 0 where
  pub by_move : (number : ℕ) (begin : Beginning) → f (families.begins_by_move plant number begin) ≤ most
  pub into : (number : ℕ) (context : Context) → f (families.begins_into plant task number context) ≤ most

pub beginning-total : (plant : PlantData) (task : ℕ) (f : Row → ℕ) (most : ℕ) → AreBeginningBelow plant task f most
    → sum_by f (families.beginning plant task) ≤ length plant.blocks.blocks * (2 * most)
beginning-total plant task f most small =
    over_kept f (families.beginning_at plant task) _ (length plant.blocks.blocks) (2 * most)
    (λ number. at number (slice_get plant.blocks.blocks number))
  where
    at : (number : ℕ) (block : Option Block) → sum_by f (option_map_or (families.beginning_rows plant task number) block []) ≤ 2 * most
    at number None = omega arith
    at number (Some block) =
        two_rows f (families.begins_by_move plant number block.begin) (families.begins_into plant task number (context_at plant.system block.begin.owner)) most
        (small.by_move number block.begin) (small.into number (context_at plant.system block.begin.owner))
