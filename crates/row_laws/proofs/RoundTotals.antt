-- The sum over the rows of loops: few loop instances have a column, each in few loops.
use Rattle.std.proofs.Common.{◌≡◌, ℕ, ◌+◌, ◌*◌, ◌^◌, ◌≤◌, Bool, true, false, cond, List, [], length, Option, Some, None, refl, ap, ℤ, pos, ◌+ℤ◌, ◌-ℤ◌, ◌*ℤ◌, arith}
use Rattle.std.specs.Prelude.{◌&&◌, ◌||◌, nat_lt, slice_get, sum_by, option_and_then, unsigned_abs}
use Rattle.std.specs.List.{count_by, list_any, range_with_len}
use Rattle.std.specs.Option.{option_map_or}
use Rattle.std.proofs.Math.Nat.{mul-le-mul_right}
use Rattle.std.proofs.lemmas.List.FromFn.{length-range_with_len}
use Rattle.std.proofs.lemmas.List.Sums.{sum_by-le-sum_by}
use Rattle.timing_file.specs.declared.timing.Loop.{Loop}
use Rattle.timing_file.specs.Lawful.{AreLoops, IsLoop}
use Rattle.flow_graph.specs.declared.node.Node.{Node}
use Rattle.wcet_atomic_blocks.specs.declared.loops.LoopInstance.{LoopInstance}
use Rattle.wcet_atomic_blocks.specs.Loops as loops
use Rattle.wcet_atomic_blocks.specs.Loops.{same_string, is_first, instance_of, instances_at, instances_from, loop_instances}
use Rattle.wcet_atomic_blocks.specs.Plants.{PlantData}
use Rattle.wcet_atomic_blocks.proofs.GraphFacts.{at_slice}
use Rattle.row_build.specs.Columns.{Column, Starts, Moves, Goes, Begins, Stands}
use Rattle.row_build.specs.Families.{Row, bound_of, counted, entered, goes_round, going_round, is_listed, is_listed_edge}
use Rattle.row_laws.proofs.Amounts.{difference-size, times-size}
use Rattle.row_laws.proofs.Factors.{counted-size, size_at}
use Rattle.row_laws.proofs.Strings.{few_strings, has_column, has_string, heads, heads-once, strings_of}
use Rattle.row_laws.proofs.Totals.{one, one-any, sum-each, sum-filter_map, sum-flat, sum-map, sum-swap, sum-times}

-- ---- One row

abbrev size_of : PlantData → Column → LoopInstance → ℕ
size_of plant column instance = size_at column (goes_round plant instance)

-- one lap, and the most laps that a loop's bound allows
abbrev lap : ℕ
lap = 2 ^ 20 + 1

bound-small : (plant : PlantData) (declared : ℕ) → AreLoops plant.timing.loops → bound_of plant declared ≤ 2 ^ 20
bound-small plant declared are = at (slice_get plant.timing.loops declared) refl
  where
    at : (found : Option Loop) → slice_get plant.timing.loops declared ≡ found → option_map_or (λ l. l.bound) found 0 ≤ 2 ^ 20
    at None there = omega arith
    at (Some l) there = (at_slice IsLoop plant.timing.loops declared l are.each there).1

-- once for a back edge, and the bound where the loop is entered
lap-size : (a b : Bool) (bound : ℕ) (x : ℤ) → bound ≤ 2 ^ 20 → unsigned_abs x ≤ one b
    → unsigned_abs (counted a -ℤ pos bound *ℤ x) ≤ one (a || b) * lap
lap-size a b bound x few small =
    let all = difference-size (counted a) (pos bound *ℤ x) (one a) (2 ^ 20 * one b) (counted-size a) (times-size bound x (2 ^ 20) (one b) few small) in
    let most = by a b in
    omega arith
  where
    by : (a b : Bool) → one a + 2 ^ 20 * one b ≤ one (a || b) * lap
    by true true = omega arith
    by true false = omega arith
    by false true = omega arith
    by false false = omega arith

first-size : (b : Bool) → unsigned_abs (counted b +ℤ (pos 0 +ℤ pos 0)) ≤ one b
first-size true = omega arith
first-size false = omega arith

second-size : (b : Bool) → unsigned_abs (pos 0 +ℤ (counted b +ℤ pos 0)) ≤ one b
second-size true = omega arith
second-size false = omega arith

third-size : (b : Bool) → unsigned_abs (pos 0 +ℤ (pos 0 +ℤ counted b)) ≤ one b
third-size true = omega arith
third-size false = omega arith

round-size : (plant : PlantData) (head : Node) (declared : ℕ) (l : Loop) (column : Column) → AreLoops plant.timing.loops
    → size_at column (goes_round plant (instance_of plant.flow plant.blocks.blocks head declared l))
    ≤ one (has_column plant.flow plant.blocks.blocks head l column) * lap
round-size plant head declared l (Starts start) are = lap-size false false (bound_of plant declared) (pos 0) (bound-small plant declared are) (omega arith)
round-size plant head declared l (Moves going) are = lap-size false false (bound_of plant declared) (pos 0) (bound-small plant declared are) (omega arith)
round-size plant head declared l (Goes along) are =
    let instance = instance_of plant.flow plant.blocks.blocks head declared l in
    lap-size (is_listed_edge instance.backs along) (is_listed_edge instance.entering along) (bound_of plant declared) (entered instance (Goes along))
    (bound-small plant declared are) (first-size (is_listed_edge instance.entering along))
round-size plant head declared l (Begins block) are =
    let instance = instance_of plant.flow plant.blocks.blocks head declared l in
    lap-size false (is_listed instance.blocks block) (bound_of plant declared) (entered instance (Begins block))
    (bound-small plant declared are) (second-size (is_listed instance.blocks block))
round-size plant head declared l (Stands node) are =
    let instance = instance_of plant.flow plant.blocks.blocks head declared l in
    lap-size false (is_listed instance.within node) (bound_of plant declared) (entered instance (Stands node))
    (bound-small plant declared are) (third-size (is_listed instance.within node))

-- ---- The rows of a head

implied : (a b : Bool) → (a ≡ true → b ≡ true) → one a ≤ one b
implied true b then = let is = ap one (then refl) in omega arith
implied false b then = omega arith

instance-size : (plant : PlantData) (head : Node) (column : Column) (declared : ℕ) → AreLoops plant.timing.loops
    → option_map_or (size_of plant column)
    (option_and_then (loops.instance_at plant.flow plant.blocks.blocks head declared) (slice_get plant.timing.loops declared)) 0
    ≤ one (list_any (same_string head) (strings_of plant.flow plant.blocks.blocks column)) * lap
instance-size plant head column declared are = at (slice_get plant.timing.loops declared)
  where
    strings : List Node
    strings = strings_of plant.flow plant.blocks.blocks column

    with_back : (l : Loop) (back : Bool)
        → option_map_or (size_of plant column) (cond back (Some (instance_of plant.flow plant.blocks.blocks head declared l)) None) 0
        ≤ one (list_any (same_string head) strings) * lap
    with_back l true =
        let size = round-size plant head declared l column are in
        let has = implied (has_column plant.flow plant.blocks.blocks head l column) (list_any (same_string head) strings)
        (has_string plant.flow plant.blocks.blocks head l column) in
        omega arith
    with_back l false = omega arith

    at : (found : Option Loop)
        → option_map_or (size_of plant column) (option_and_then (loops.instance_at plant.flow plant.blocks.blocks head declared) found) 0
        ≤ one (list_any (same_string head) strings) * lap
    at None = omega arith
    at (Some l) = with_back l (nat_lt 0 (length (loops.passing_edges plant.flow (loops.is_back head l))))

head-total : (plant : PlantData) (head : Node) (column : Column) → AreLoops plant.timing.loops
    → sum_by (size_of plant column) (instances_at plant.flow plant.blocks.blocks plant.timing.loops head)
    ≤ 256 * (one (list_any (same_string head) (strings_of plant.flow plant.blocks.blocks column)) * lap)
head-total plant head column are =
    let of = (λ (declared : ℕ). option_and_then (loops.instance_at plant.flow plant.blocks.blocks head declared) (slice_get plant.timing.loops declared)) in
    let most = one (list_any (same_string head) (strings_of plant.flow plant.blocks.blocks column)) * lap in
    let whole = sum-filter_map (size_of plant column) of (range_with_len 0 (length plant.timing.loops)) in
    let each = sum-each (λ declared. option_map_or (size_of plant column) (of declared) 0) most (range_with_len 0 (length plant.timing.loops))
    (λ declared. instance-size plant head column declared are) in
    let count : length (range_with_len 0 (length plant.timing.loops)) ≤ 256 =
    (let few = are.few in let same = length-range_with_len 0 (length plant.timing.loops) in omega arith) in
    let all : length (range_with_len 0 (length plant.timing.loops)) * most ≤ 256 * most = mul-le-mul_right most count in
    omega arith

-- ---- The rows of all heads

number-total : (plant : PlantData) (column : Column) (number : ℕ) → AreLoops plant.timing.loops
    → sum_by (size_of plant column) (instances_from plant.flow plant.blocks.blocks plant.timing.loops number)
    ≤ count_by (λ key. heads plant.flow key number) (strings_of plant.flow plant.blocks.blocks column) * (256 * lap)
number-total plant column number are = at (slice_get plant.flow.nodes number)
  where
    strings : List Node
    strings = strings_of plant.flow plant.blocks.blocks column

    of_head : (node : Node) (first : Bool)
        → sum_by (size_of plant column) (cond first (instances_at plant.flow plant.blocks.blocks plant.timing.loops node) [])
        ≤ count_by (λ key. first && same_string node key) strings * (256 * lap)
    of_head node true =
        let all = head-total plant node column are in
        let some = one-any (same_string node) strings in
        omega arith
    of_head node false = omega arith

    at : (found : Option Node)
        → sum_by (size_of plant column) (option_map_or
        (λ node. cond (is_first plant.flow number node) (instances_at plant.flow plant.blocks.blocks plant.timing.loops node) []) found [])
        ≤ count_by (λ key. option_map_or (λ node. is_first plant.flow number node && same_string node key) found false) strings * (256 * lap)
    at None = omega arith
    at (Some node) = of_head node (is_first plant.flow number node)

pub round-total : (plant : PlantData) (column : Column) → AreLoops plant.timing.loops
    → ((number : ℕ) (node : Node) → slice_get plant.flow.nodes number ≡ Some node → length node.sites ≤ 16)
    → sum_by (size_at column) (going_round plant) ≤ 17 * (256 * (2 ^ 20 + 1))
round-total plant column are shallow =
    let strings = strings_of plant.flow plant.blocks.blocks column in
    let numbers = range_with_len 0 (length plant.flow.nodes) in
    let from = instances_from plant.flow plant.blocks.blocks plant.timing.loops in
    let keyed = (λ (number : ℕ). count_by (λ key. heads plant.flow key number) strings) in
    let rows = sum-map (size_at column) (goes_round plant) (loop_instances plant.flow plant.blocks.blocks plant.timing.loops) in
    let parts = sum-flat (size_of plant column) from numbers in
    let each = sum_by-le-sum_by (λ number. sum_by (size_of plant column) (from number)) (λ number. keyed number * (256 * lap)) numbers
    (λ number. number-total plant column number are) in
    let product = sum-times keyed (256 * lap) numbers in
    let swapped = sum-swap (λ (number : ℕ) (key : Node). one (heads plant.flow key number)) numbers strings in
    let once = sum-each (λ key. count_by (heads plant.flow key) numbers) 1 strings (λ key. heads-once plant.flow key (length plant.flow.nodes)) in
    let few = few_strings plant.flow plant.blocks.blocks column shallow in
    omega arith

-- the right sides are 0
pub round-right : (plant : PlantData) → sum_by (λ (row : Row). row.right) (going_round plant) ≤ 0
round-right plant =
    let instances = loop_instances plant.flow plant.blocks.blocks plant.timing.loops in
    let rows = sum-map (λ (row : Row). row.right) (goes_round plant) instances in
    let each = sum-each (λ instance. (goes_round plant instance).right) 0 instances (λ instance. zero) in
    omega arith
  where
    zero : 0 ≤ 0
    zero = omega arith
