-- The sum over the rows of sources: each takes at most two of its distances and one cost.
use Rattle.std.proofs.Common.{◌≡◌, ℕ, ◌*◌, ◌^◌, ◌≤◌, Bool, true, false, cond, pos, ◌*ℤ◌, arith}
use Rattle.std.specs.Prelude.{filter, sum_by}
use Rattle.std.specs.List.{range_with_len}
use Rattle.std.proofs.lemmas.List.FromFn.{length-range_with_len}
use Rattle.osek_kernel.specs.Sources.{is_one_shot, source_at, source_count}
use Rattle.osek_machine.specs.Declarations.{distance_of}
use Rattle.wcet_atomic_blocks.specs.Plants.{PlantData, IsPlant}
use Rattle.row_build.specs.Columns.{Column, cost}
use Rattle.row_build.specs.Families as families
use Rattle.row_build.specs.Families.{Row}
use Rattle.row_laws.proofs.Amounts.{difference-size, times-size}
use Rattle.row_laws.proofs.Factors.{size_at, taken-size}
use Rattle.row_laws.proofs.Prices.{cost-small, distance-small}
use Rattle.row_laws.proofs.Totals.{sum-kept, sum-map}

pub arriving-total : (plant : PlantData) (f : Row → ℕ) (most : ℕ)
    → ((source : ℕ) → families.is_ever_live plant source ≡ true → f (families.arrives plant source) ≤ most)
    → sum_by f (families.arriving plant) ≤ source_count plant.system * most
arriving-total plant f most small =
    let numbers = range_with_len 0 (source_count plant.system) in
    let whole = sum-map f (families.arrives plant) (filter (families.is_ever_live plant) numbers) in
    let kept = sum-kept (λ source. f (families.arrives plant source)) (families.is_ever_live plant) most numbers small in
    let count = length-range_with_len 0 (source_count plant.system) in
    let all : sum_by (λ source. f (families.arrives plant source)) (filter (families.is_ever_live plant) numbers) ≤ source_count plant.system * most =
    rw count at kept in
    omega arith

pub arrives-size : (plant : PlantData) (column : Column) (source : ℕ) → IsPlant plant → families.is_ever_live plant source ≡ true
    → size_at column (families.arrives plant source) ≤ 2 ^ 33
arrives-size plant column source is live = by (is_one_shot plant.system (source_at plant.system source))
  where
    distance : ℕ
    distance = distance_of plant.system plant.timing (source_at plant.system source)

    by : (once : Bool) → size_at column (cond once (families.arrives_once source) (families.arrives_apart plant source)) ≤ 2 ^ 33
    by true = let few = taken-size source column in omega arith
    by false =
        let most = difference-size (pos distance *ℤ families.taken source column) (pos (cost plant column)) (2 ^ 31 * 2) (2 ^ 29)
        (times-size distance (families.taken source column) (2 ^ 31) 2 (distance-small plant source is live) (taken-size source column))
        (cost-small plant column is.timing) in
        omega arith

pub arrives-right : (plant : PlantData) (source : ℕ) → IsPlant plant → families.is_ever_live plant source ≡ true
    → (families.arrives plant source).right ≤ 2 ^ 33
arrives-right plant source is live = by (is_one_shot plant.system (source_at plant.system source))
  where
    by : (once : Bool) → (cond once (families.arrives_once source) (families.arrives_apart plant source)).right ≤ 2 ^ 33
    by true = omega arith
    by false = let most = distance-small plant source is live in omega arith
