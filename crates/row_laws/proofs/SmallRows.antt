-- The rows of a task are small: each family adds little to a column and to the right sides.
use Rattle.std.proofs.Common.{◌≡◌, ℕ, ◌+◌, ◌^◌, ◌<◌, ◌≤◌, true, List, ◌∷◌, ◌++◌, length, map, get_or, ap, ℤ, pos, ◌≤ℤ◌, arith}
use Rattle.std.specs.Prelude.{slice_get, Some, sum_by, unsigned_abs}
use Rattle.std.proofs.lemmas.Int.{ints}
use Rattle.std.proofs.lemmas.List.{get_or-map, length-map}
use Rattle.std.proofs.lemmas.List.Elements.{All-map}
use Rattle.std.proofs.lemmas.List.Sums.{sum_by-append, sum_by-cons, sum_by-le-sum_by}
use Rattle.listed.specs.Lists.{differ}
use Rattle.osek_kernel.specs.Contexts.{context_count}
use Rattle.osek_kernel.specs.Sources.{source_count}
use Rattle.flow_graph.specs.declared.node.Node.{Node}
use Rattle.flow_graph.specs.Faults.{IsNode}
use Rattle.flow_graph.specs.Graph.{program_of}
use Rattle.wcet_atomic_blocks.specs.declared.block.Block.{Block}
use Rattle.wcet_atomic_blocks.specs.Plants.{PlantData, IsPlant}
use Rattle.wcet_atomic_blocks.proofs.GraphFacts.{at_slice}
use Rattle.abstract_sched.specs.declared.states.AbsState.{AbsState}
use Rattle.abstract_sched.specs.States.{same_state}
use Rattle.row_build.specs.Columns.{Column, Stands, columns, cost}
use Rattle.row_build.specs.Families as families
use Rattle.row_build.specs.Families.{Row}
use Rattle.row_laws.specs.Laws.{RowsAreSmall}
use Rattle.row_laws.proofs.ArrivingTotals.{arriving-total, arrives-right, arrives-size}
use Rattle.row_laws.proofs.Depths.{shallow_node}
use Rattle.row_laws.proofs.Factors.{size_at, by_move-size, by_start-size, into_block-size, into_node-size, passes-size, stands_once-size, starts-size}
use Rattle.row_laws.proofs.FamilyTotals.{beginning-total, leaving-size, leaving-total, passing-total, standing-total}
use Rattle.row_laws.proofs.Prices.{cost-small}
use Rattle.row_laws.proofs.RoundTotals.{round-right, round-total}
use Rattle.row_laws.proofs.Totals.{sum-map}

-- ---- What there is few of in a plant

few_nodes : (plant : PlantData) → IsPlant plant → length plant.flow.nodes ≤ 65535
few_nodes plant is = is.graph.graph.nodes.few

few_blocks : (plant : PlantData) → IsPlant plant → length plant.blocks.blocks ≤ 4095
few_blocks plant is =
    let same = ap length is.blocks.cut.begin in
    let count = length-map plant.blocks.blocks (λ (block : Block). block.begin) in
    let few = is.blocks.few in
    omega arith

few_contexts : (plant : PlantData) → IsPlant plant → context_count plant.system ≤ 24
few_contexts plant is = let few = is.system.few in omega arith

few_sources : (plant : PlantData) → IsPlant plant → source_count plant.system ≤ 24
few_sources plant is = let few = is.system.few in omega arith

shallow : (plant : PlantData) → IsPlant plant → (number : ℕ) (node : Node) → slice_get plant.flow.nodes number ≡ Some node → length node.sites ≤ 16
shallow plant is number node there =
    let program = program_of plant.image plant.system plant.timing in
    shallow_node program node (at_slice (IsNode program) plant.flow.nodes number node is.graph.graph.nodes.are.reached there)

-- ---- All families

all_families : (plant : PlantData) (states : List AbsState) (task : ℕ) (f : Row → ℕ)
    → sum_by f (families.rows plant states task)
    ≡ (f families.one_start + sum_by f (families.leaving plant states task))
    + (sum_by f (families.passing plant)
    + (sum_by f (families.standing plant states task)
    + (sum_by f (families.beginning plant task)
    + (sum_by f (families.going_round plant) + sum_by f (families.arriving plant)))))
all_families plant states task f =
    let last = families.going_round plant ++ families.arriving plant in
    let fifth = families.beginning plant task ++ last in
    let fourth = families.standing plant states task ++ fifth in
    let third = families.passing plant ++ fourth in
    let a = sum_by-append f (families.one_start ∷ families.leaving plant states task) third in
    let b = sum_by-cons f families.one_start (families.leaving plant states task) in
    let c = sum_by-append f (families.passing plant) fourth in
    let d = sum_by-append f (families.standing plant states task) fifth in
    let e = sum_by-append f (families.beginning plant task) last in
    let g = sum_by-append f (families.going_round plant) (families.arriving plant) in
    omega arith

column-total : (plant : PlantData) (states : List AbsState) (task : ℕ) (column : Column) → IsPlant plant → differ same_state states ≡ true
    → sum_by (size_at column) (families.rows plant states task) < 2 ^ 40
column-total plant states task column is apart =
    let f = size_at column in
    let all = all_families plant states task f in
    let nodes = few_nodes plant is in
    let blocks = few_blocks plant is in
    let contexts = few_contexts plant is in
    let sources = few_sources plant is in
    let first : f families.one_start ≤ 1 = starts-size (λ start. true) column in
    let second = leaving-size plant states task column apart in
    let third = passing-total plant f 5 (passes-size plant column) in
    let fourth = standing-total plant states task f 5
    (record { by_start = by_start-size plant task column; into = into_node-size plant task column; once = stands_once-size plant column }) in
    let fifth = beginning-total plant task f 5 (record { by_move = by_move-size plant column; into = into_block-size plant task column }) in
    let sixth = round-total plant column is.timing.loops (shallow plant is) in
    let seventh = arriving-total plant f (2 ^ 33) (λ source live. arrives-size plant column source is live) in
    omega arith

right-total : (plant : PlantData) (states : List AbsState) (task : ℕ) → IsPlant plant
    → sum_by (λ (row : Row). row.right) (families.rows plant states task) < 2 ^ 40
right-total plant states task is =
    let f = (λ (row : Row). row.right) in
    let all = all_families plant states task f in
    let sources = few_sources plant is in
    let zero : 0 ≤ 0 = omega arith in
    let second = leaving-total plant states task f (λ state. zero) in
    let third = passing-total plant f 0 (λ node. zero) in
    let fourth = standing-total plant states task f 0 (record { by_start = λ context node. zero; into = λ context node. zero; once = λ context. zero }) in
    let fifth = beginning-total plant task f 0 (record { by_move = λ number begin. zero; into = λ number context. zero }) in
    let sixth = round-right plant in
    let seventh = arriving-total plant f (2 ^ 33) (λ source live. arrives-right plant source is live) in
    omega arith

-- ---- The columns of the rows

column-size : (all : List Column) (rows : List Row) (column : ℕ) (d : Column) → column < length all
    → sum_by unsigned_abs (map (λ (row : List ℤ). get_or row column (pos 0)) (map (λ (row : Row). map row.factor all) rows))
    ≤ sum_by (size_at (get_or all column d)) rows
column-size all rows column d within =
    let entry = (λ (row : List ℤ). get_or row column (pos 0)) in
    let dense = (λ (row : Row). map row.factor all) in
    let whole = sum-map unsigned_abs entry (map dense rows) in
    let inner = sum-map (λ row. unsigned_abs (entry row)) dense rows in
    let each = sum_by-le-sum_by (λ row. unsigned_abs (entry (dense row))) (size_at (get_or all column d)) rows at in
    omega arith
  where
    at : (row : Row) → unsigned_abs (get_or (map row.factor all) column (pos 0)) ≤ size_at (get_or all column d) row
    at row = let same = ap unsigned_abs (get_or-map row.factor all column d (pos 0) within) in omega arith

pub rows_are_small : RowsAreSmall
rows_are_small plant states task is apart = record {
  columns = λ column within.
      let all = columns plant states task in
      let count = length-map all (λ (c : Column). pos (cost plant c)) in
      let size = column-size all (families.rows plant states task) column (Stands 0) (omega arith) in
      let most = column-total plant states task (get_or all column (Stands 0)) is apart in
      omega arith;
  rights =
      let same = sum-map unsigned_abs (λ (row : Row). pos row.right) (families.rows plant states task) in
      let most = right-total plant states task is in
      omega arith;
  costs_not_negative = All-map (λ (price : ℤ). pos 0 ≤ℤ price) (λ c. pos (cost plant c)) (columns plant states task)
      (λ k d within. not_negative (cost plant (get_or (columns plant states task) k d)));
  costs_small = All-map (λ (price : ℤ). unsigned_abs price ≤ 2 ^ 29) (λ c. pos (cost plant c)) (columns plant states task)
      (λ k d within. cost-small plant (get_or (columns plant states task) k d) is.timing);
}
  where
    not_negative : (n : ℕ) → pos 0 ≤ℤ pos n
    not_negative n = omega (arith, ints)
