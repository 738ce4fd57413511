-- Sums over what a window uses. A row is met where one count is at most another.
use Rattle.std.proofs.Common.{◌≡◌, ℕ, zero, suc, ◌+◌, ◌≤◌, Bool, true, false, List, [], ◌∷◌, ◌++◌, set, get_or, Option, Some, None, refl, arith}
use Rattle.std.specs.Prelude.{not, ◌&&◌, ℤ, pos, ◌+ℤ◌, ◌-ℤ◌, sum_by, option_to_list}
use Rattle.std.proofs.lemmas.Int.{ints}
use Rattle.std.proofs.lemmas.List.Sums.{sum_by-cons}
use Rattle.osek_kernel.specs.declared.context.Context.TheVariants as contexts
use Rattle.wcet_atomic_blocks.specs.Plants.{PlantData}
use Rattle.abstract_sched.specs.declared.states.AbsState.{AbsState}
use Rattle.row_build.specs.Columns.{Along, Going, Start, Column, Starts, Moves, Goes, Begins, Stands, state_after, ends_in}
use Rattle.row_build.specs.Families.{counted, starts_that, moves_that, edges_that, begins_that, stands_that, into}
use Rattle.activation_windows.specs.Counted.{left_side, Meets}

-- ---- Rows by counts

-- how often: once where a test is passed
abbrev pub one : Bool → ℕ
one true = 1
one false = 0

pub counted_one : (test : Bool) → counted test ≡ pos (one test)
counted_one true = refl
counted_one false = refl

-- the factor at each column is a difference of two numbers
abbrev pub IsDifference : (Column → ℤ) → (Column → ℕ) → (Column → ℕ) → Type 0
IsDifference factor more less = (column : Column) → factor column ≡ pos (more column) -ℤ pos (less column)

differences_add : (f g : ℕ) (m n : ℕ) → (pos f -ℤ pos g) +ℤ (pos m -ℤ pos n) ≡ pos (f + m) -ℤ pos (g + n)
differences_add f g m n = omega (arith, ints)

pub left_is : (factor : Column → ℤ) (more less : Column → ℕ) → IsDifference factor more less → (uses : List Column)
    → left_side factor uses ≡ pos (sum_by more uses) -ℤ pos (sum_by less uses)
left_is factor more less each [] = refl
left_is factor more less each (column ∷ columns) =
    rw (sum_by-cons more column columns) (rw (sum_by-cons less column columns)
    (rw (each column) (rw (left_is factor more less each columns)
    (differences_add (more column) (less column) (sum_by more columns) (sum_by less columns)))))

-- A row whose factor is such a difference is met where the one sum is at most the other and the right side.
pub meets_by : (factor : Column → ℤ) (more less : Column → ℕ) (right : ℕ) (uses : List Column) → IsDifference factor more less
    → sum_by more uses ≤ sum_by less uses + right → Meets uses (record { factor = factor; right = right })
meets_by factor more less right uses each most = rw (left_is factor more less each uses) (omega (arith, ints))

-- ---- How often each kind of column counts

abbrev pub starts_count : (Start → Bool) → Column → ℕ
starts_count test (Starts start) = one (test start)
starts_count test column = 0

abbrev pub moves_count : (Going → Bool) → Column → ℕ
moves_count test (Moves going) = one (test going)
moves_count test column = 0

abbrev pub edges_count : (Along → Bool) → Column → ℕ
edges_count test (Goes along) = one (test along)
edges_count test column = 0

abbrev pub begins_count : (ℕ → Bool) → Column → ℕ
begins_count test (Begins block) = one (test block)
begins_count test column = 0

abbrev pub stands_count : (ℕ → Bool) → Column → ℕ
stands_count test (Stands node) = one (test node)
stands_count test column = 0

abbrev pub into_count : PlantData → ℕ → (AbsState → Bool) → Column → ℕ
into_count plant task test column =
    starts_count (λ start. test (state_after plant start)) column
    + moves_count (λ going. test going.move.to && not (ends_in plant (contexts.Task task) going)) column

pub starts_counted : (test : Start → Bool) (column : Column) → starts_that test column ≡ pos (starts_count test column)
starts_counted test (Starts start) = counted_one (test start)
starts_counted test (Moves going) = refl
starts_counted test (Goes along) = refl
starts_counted test (Begins block) = refl
starts_counted test (Stands node) = refl

pub moves_counted : (test : Going → Bool) (column : Column) → moves_that test column ≡ pos (moves_count test column)
moves_counted test (Starts start) = refl
moves_counted test (Moves going) = counted_one (test going)
moves_counted test (Goes along) = refl
moves_counted test (Begins block) = refl
moves_counted test (Stands node) = refl

pub edges_counted : (test : Along → Bool) (column : Column) → edges_that test column ≡ pos (edges_count test column)
edges_counted test (Starts start) = refl
edges_counted test (Moves going) = refl
edges_counted test (Goes along) = counted_one (test along)
edges_counted test (Begins block) = refl
edges_counted test (Stands node) = refl

pub begins_counted : (test : ℕ → Bool) (column : Column) → begins_that test column ≡ pos (begins_count test column)
begins_counted test (Starts start) = refl
begins_counted test (Moves going) = refl
begins_counted test (Goes along) = refl
begins_counted test (Begins block) = counted_one (test block)
begins_counted test (Stands node) = refl

pub stands_counted : (test : ℕ → Bool) (column : Column) → stands_that test column ≡ pos (stands_count test column)
stands_counted test (Starts start) = refl
stands_counted test (Moves going) = refl
stands_counted test (Goes along) = refl
stands_counted test (Begins block) = refl
stands_counted test (Stands node) = counted_one (test node)

pub sum_counted : (a b : ℤ) (m n : ℕ) → a ≡ pos m → b ≡ pos n → a +ℤ b ≡ pos (m + n)
sum_counted a b m n e f = rw e (rw f refl)

pub difference_counted : (a b : ℤ) (m n : ℕ) → a ≡ pos m → b ≡ pos n → a -ℤ b ≡ pos m -ℤ pos n
difference_counted a b m n e f = rw e (rw f refl)

pub into_counted : (plant : PlantData) (task : ℕ) (test : AbsState → Bool) (column : Column)
    → into plant task test column ≡ pos (into_count plant task test column)
into_counted plant task test column =
    sum_counted _ _ (starts_count (λ start. test (state_after plant start)) column)
    (moves_count (λ going. test going.move.to && not (ends_in plant (contexts.Task task) going)) column)
    (starts_counted (λ start. test (state_after plant start)) column)
    (moves_counted (λ going. test going.move.to && not (ends_in plant (contexts.Task task) going)) column)

-- ---- Sums over columns that are there or not

abbrev pub sum_option : (Column → ℕ) → Option Column → ℕ
sum_option count None = 0
sum_option count (Some column) = count column

pub sum_with : (count : Column → ℕ) (new : Option Column) (uses : List Column)
    → sum_by count (option_to_list new ++ uses) ≡ sum_option count new + sum_by count uses
sum_with count None uses = omega arith
sum_with count (Some column) uses = sum_by-cons count column uses

-- the sum over the visits that wait
abbrev pub sum_waiting : (Column → ℕ) → List (Option Column) → ℕ
sum_waiting count [] = 0
sum_waiting count (visit ∷ visits) = sum_option count visit + sum_waiting count visits

-- one visit in the place of another one
pub waiting_with : (count : Column → ℕ) (waiting : List (Option Column)) (place : ℕ) (visit : Option Column)
    → sum_waiting count (set waiting place visit) ≤ sum_waiting count waiting + sum_option count visit
waiting_with count [] place visit = omega arith
waiting_with count (first ∷ waiting) zero visit = omega arith
waiting_with count (first ∷ waiting) (suc place) visit = let more = waiting_with count waiting place visit in omega arith

-- a visit that is used waits no more
pub waiting_without : (count : Column → ℕ) (waiting : List (Option Column)) (place : ℕ)
    → sum_waiting count (set waiting place None) + sum_option count (get_or waiting place None) ≡ sum_waiting count waiting
waiting_without count [] place = refl
waiting_without count (first ∷ waiting) zero = omega arith
waiting_without count (first ∷ waiting) (suc place) = let more = waiting_without count waiting place in omega arith
