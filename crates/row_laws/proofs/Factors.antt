-- How large the factors of the rows are: each word on columns counts a column once or not at all.
use Rattle.std.proofs.Common.{◌≡◌, ℕ, ◌+◌, ◌≤◌, Bool, true, false, ℤ, pos, ◌+ℤ◌, ◌-ℤ◌, refl, arith}
use Rattle.std.specs.Prelude.{not, ◌&&◌, ◌==◌, nat_eq, unsigned_abs}
use Rattle.osek_kernel.specs.declared.context.Context.{Context}
use Rattle.osek_kernel.specs.declared.context.Context.TheVariants as contexts
use Rattle.wcet_atomic_blocks.specs.declared.block.Beginning.{Beginning}
use Rattle.wcet_atomic_blocks.specs.Plants.{PlantData}
use Rattle.abstract_sched.specs.declared.states.AbsState.{AbsState}
use Rattle.abstract_sched.specs.States.{same_state}
use Rattle.scheduler_moves.specs.Moves.{initial}
use Rattle.row_build.specs.Columns as columns
use Rattle.row_build.specs.Columns.{Along, Column, Going, Start, Starts, Moves, Goes, Begins, Stands}
use Rattle.row_build.specs.Families as families
use Rattle.row_build.specs.Families.{Row, counted, starts_that, moves_that, edges_that, begins_that, stands_that, into}
use Rattle.row_laws.proofs.Amounts.{sum-size, difference-size}
use Rattle.row_laws.proofs.Totals.{one}

-- the size of a row's factor at a column
abbrev pub size_at : Column → Row → ℕ
size_at column row = unsigned_abs (row.factor column)

pub counted-size : (test : Bool) → unsigned_abs (counted test) ≤ one test
counted-size true = omega arith
counted-size false = omega arith

at_most_one : (test : Bool) → unsigned_abs (counted test) ≤ 1
at_most_one true = omega arith
at_most_one false = omega arith

pub starts-size : (test : Start → Bool) (column : Column) → unsigned_abs (starts_that test column) ≤ 1
starts-size test (Starts start) = at_most_one (test start)
starts-size test (Moves going) = omega arith
starts-size test (Goes along) = omega arith
starts-size test (Begins block) = omega arith
starts-size test (Stands node) = omega arith

pub moves-size : (test : Going → Bool) (column : Column) → unsigned_abs (moves_that test column) ≤ 1
moves-size test (Starts start) = omega arith
moves-size test (Moves going) = at_most_one (test going)
moves-size test (Goes along) = omega arith
moves-size test (Begins block) = omega arith
moves-size test (Stands node) = omega arith

edges-size : (test : Along → Bool) (column : Column) → unsigned_abs (edges_that test column) ≤ 1
edges-size test (Starts start) = omega arith
edges-size test (Moves going) = omega arith
edges-size test (Goes along) = at_most_one (test along)
edges-size test (Begins block) = omega arith
edges-size test (Stands node) = omega arith

begins-size : (test : ℕ → Bool) (column : Column) → unsigned_abs (begins_that test column) ≤ 1
begins-size test (Starts start) = omega arith
begins-size test (Moves going) = omega arith
begins-size test (Goes along) = omega arith
begins-size test (Begins block) = at_most_one (test block)
begins-size test (Stands node) = omega arith

stands-size : (test : ℕ → Bool) (column : Column) → unsigned_abs (stands_that test column) ≤ 1
stands-size test (Starts start) = omega arith
stands-size test (Moves going) = omega arith
stands-size test (Goes along) = omega arith
stands-size test (Begins block) = omega arith
stands-size test (Stands node) = at_most_one (test node)

into-size : (plant : PlantData) (task : ℕ) (test : AbsState → Bool) (column : Column) → unsigned_abs (into plant task test column) ≤ 2
into-size plant task test column =
    let starts = (λ (start : Start). test (columns.state_after plant start)) in
    let moves = (λ (going : Going). test going.move.to && not (columns.ends_in plant (contexts.Task task) going)) in
    sum-size (starts_that starts column) (moves_that moves column) 1 1 (starts-size starts column) (moves-size moves column)

-- ---- Rows whose factors are at most 5

pub passes-size : (plant : PlantData) (column : Column) (node : ℕ) → size_at column (families.passes plant node) ≤ 5
passes-size plant column node =
    let along = edges_that (λ along. along.node == node) column in
    let moves = moves_that (λ going. columns.calls_at node going.move.label) column in
    let edges = edges_that (families.leads_to node) column in
    let begins = begins_that (families.is_first_at plant node) column in
    let stands = stands_that (nat_eq node) column in
    difference-size (along +ℤ moves) (edges +ℤ (begins +ℤ stands)) 2 3
    (sum-size along moves 1 1 (edges-size (λ along. along.node == node) column) (moves-size (λ going. columns.calls_at node going.move.label) column))
    (sum-size edges (begins +ℤ stands) 1 2 (edges-size (families.leads_to node) column)
    (sum-size begins stands 1 1 (begins-size (families.is_first_at plant node) column) (stands-size (nat_eq node) column)))

-- a count less another one
less-size : (row : Row) (column : Column) (a b : ℤ) (m : ℕ) → row.factor column ≡ a -ℤ b → unsigned_abs a ≤ 1 → unsigned_abs b ≤ m → m ≤ 2
    → size_at column row ≤ 5
less-size row column a b m is first second few =
    let size = difference-size a b 1 m first second in
    rw is (omega arith)

pub by_start-size : (plant : PlantData) (task : ℕ) (column : Column) (context : Context) (node : ℕ)
    → size_at column (families.stands_by_start plant task context node) ≤ 5
by_start-size plant task column context node =
    less-size (families.stands_by_start plant task context node) column (stands_that (nat_eq node) column)
    (starts_that (families.leaves_at plant task context node) column) 1 refl
    (stands-size (nat_eq node) column) (starts-size (families.leaves_at plant task context node) column) (omega arith)

pub into_node-size : (plant : PlantData) (task : ℕ) (column : Column) (context : Context) (node : ℕ)
    → size_at column (families.stands_into plant task context node) ≤ 5
into_node-size plant task column context node =
    less-size (families.stands_into plant task context node) column (stands_that (nat_eq node) column)
    (into plant task (families.runs_at plant task context node) column) 2 refl
    (stands-size (nat_eq node) column) (into-size plant task (families.runs_at plant task context node) column) (omega arith)

pub stands_once-size : (plant : PlantData) (column : Column) (context : Context) → size_at column (families.stands_once plant context) ≤ 5
stands_once-size plant column context =
    less-size (families.stands_once plant context) column (stands_that (families.is_owned plant context) column) (families.all_starts column) 1 refl
    (stands-size (families.is_owned plant context) column) (starts-size (λ start. true) column) (omega arith)

pub by_move-size : (plant : PlantData) (column : Column) (number : ℕ) (begin : Beginning)
    → size_at column (families.begins_by_move plant number begin) ≤ 5
by_move-size plant column number begin =
    less-size (families.begins_by_move plant number begin) column (begins_that (nat_eq number) column)
    (moves_that (families.begins_block plant begin) column) 1 refl
    (begins-size (nat_eq number) column) (moves-size (families.begins_block plant begin) column) (omega arith)

pub into_block-size : (plant : PlantData) (task : ℕ) (column : Column) (number : ℕ) (context : Context)
    → size_at column (families.begins_into plant task number context) ≤ 5
into_block-size plant task column number context =
    less-size (families.begins_into plant task number context) column (begins_that (nat_eq number) column)
    (into plant task (families.runs_in_block plant task context number) column) 2 refl
    (begins-size (nat_eq number) column) (into-size plant task (families.runs_in_block plant task context number) column) (omega arith)

pub taken-size : (source : ℕ) (column : Column) → unsigned_abs (families.taken source column) ≤ 2
taken-size source column =
    let starts = starts_that (families.is_start_by source) column in
    let moves = moves_that (λ going. columns.takes_source source going.move.label) column in
    sum-size starts moves 1 1 (starts-size (families.is_start_by source) column) (moves-size (λ going. columns.takes_source source going.move.label) column)

-- ---- A state is left and come into at no other columns than its own

-- the states that a column leaves and comes into
abbrev pub left_at : PlantData → Column → AbsState
left_at plant (Moves going) = going.from
left_at plant column = initial plant 0

abbrev pub come_at : PlantData → Column → AbsState
come_at plant (Starts start) = columns.state_after plant start
come_at plant (Moves going) = going.move.to
come_at plant column = initial plant 0

none : (a b : ℕ) → 0 ≤ a + b
none a b = omega arith

into_once : (a b : Bool) → unsigned_abs (pos 0 +ℤ counted (a && b)) ≤ one a
into_once true true = omega arith
into_once true false = omega arith
into_once false b = omega arith

come_only : (b : Bool) (n : ℕ) → unsigned_abs (pos 0 -ℤ (counted b +ℤ pos 0)) ≤ n + one b
come_only true n = omega arith
come_only false n = omega arith

pub leaves-size : (plant : PlantData) (task : ℕ) (column : Column) (state : AbsState)
    → size_at column (families.leaves plant task state) ≤ one (same_state state (left_at plant column)) + one (same_state state (come_at plant column))
leaves-size plant task (Starts start) state =
    come_only (same_state state (columns.state_after plant start)) (one (same_state state (initial plant 0)))
leaves-size plant task (Moves going) state =
    let ends = columns.ends_in plant (contexts.Task task) going in
    difference-size (counted (same_state state going.from)) (pos 0 +ℤ counted (same_state state going.move.to && not ends))
    (one (same_state state going.from)) (one (same_state state going.move.to))
    (counted-size (same_state state going.from)) (into_once (same_state state going.move.to) (not ends))
leaves-size plant task (Goes along) state = none (one (same_state state (initial plant 0))) (one (same_state state (initial plant 0)))
leaves-size plant task (Begins block) state = none (one (same_state state (initial plant 0))) (one (same_state state (initial plant 0)))
leaves-size plant task (Stands node) state = none (one (same_state state (initial plant 0))) (one (same_state state (initial plant 0)))
