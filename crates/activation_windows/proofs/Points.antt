-- Counts of uses are a point of the rows: the numbers that count columns have the left sides and the cost of the uses.
use Rattle.std.proofs.Common.{◌≡◌, ℕ, zero, suc, ◌+◌, ◌-◌, ◌<◌, ◌≤◌, List, [], ◌∷◌, ◌++◌, All, Contains, length, map, replicate, get_or, set, Some, refl, sym, ◌∙◌, ap, subst, arith}
use Rattle.std.specs.Prelude.{slice_get, ℤ, pos, ◌+ℤ◌, ◌*ℤ◌, ◌≤ℤ◌, sum_by}
use Rattle.std.proofs.lemmas.Int.{ints}
use Rattle.std.proofs.lemmas.List.{length-map, length-set, length-replicate}
use Rattle.std.proofs.lemmas.List.Elements.{All-head, All-tail, All-append, All-nil, All-cons}
use Rattle.std.proofs.lemmas.List.Sums.{sum_by-cons}
use Rattle.std.proofs.lemmas.Option.{none-some, same_Some, slice_get-get_or}
use Rattle.osek_machine.specs.Events.{Event, duration}
use Rattle.osek_machine.specs.State.{MachineState}
use Rattle.wcet_atomic_blocks.specs.Plants.{PlantData}
use Rattle.abstract_sched.specs.declared.states.AbsState.{AbsState}
use Rattle.whole_rows.specs.Rows.{IsShaped, product_sum, cost_of}
use Rattle.whole_rows.specs.Greatest.{MeetsRows}
use Rattle.row_build.specs.Columns.{Column, columns, cost}
use Rattle.row_build.specs.Families.{Row, rows, one_start, leaving, passing, standing, beginning, going_round, arriving}
use Rattle.row_build.specs.Rows.{rows_of}
use Rattle.activation_windows.specs.Counted.{IsDeclaredCase, IsUsed, Meets, left_side}
use Rattle.activation_windows.specs.Bounds.{AreCounts, UsesArePoints}
use Rattle.activation_windows.proofs.ArrivingRows.{meets_arriving}
use Rattle.activation_windows.proofs.BeginningRows.{meets_beginning}
use Rattle.activation_windows.proofs.GoingRoundRows.{meets_going_round}
use Rattle.activation_windows.proofs.LeavingRows.{meets_first, meets_leaving}
use Rattle.activation_windows.proofs.Lasting.{uses_cover_time}
use Rattle.activation_windows.proofs.PassingRows.{meets_passing}
use Rattle.activation_windows.proofs.StandingRows.{meets_standing}
use Rattle.activation_windows.proofs.Uses.{uses_are_columns}

-- ---- Sums of products over counts

no_counts : {A : Type 0} (factor : A → ℤ) (all : List A) → product_sum (map factor all) (replicate (length all) 0) ≡ pos 0
no_counts factor [] = refl
no_counts factor (x ∷ all) = omega (arith, ints, no_counts factor all)

product_by_more : (x : ℤ) (n : ℕ) → x *ℤ pos (n + 1) ≡ x +ℤ x *ℤ pos n
product_by_more x n = omega (arith, ints)

-- one more of a column
one_more : {A : Type 0} (factor : A → ℤ) (all : List A) (counts : List ℕ) (place : ℕ) (column : A) → slice_get all place ≡ Some column
    → length counts ≡ length all
    → product_sum (map factor all) (set counts place (get_or counts place 0 + 1)) ≡ factor column +ℤ product_sum (map factor all) counts
one_more factor [] counts place column at long = absurd (none-some column at)
one_more factor (x ∷ all) [] place column at long = absurd (omega arith)
one_more factor (x ∷ all) (n ∷ counts) zero column at long =
    let same : factor x ≡ factor column = ap factor (same_Some x column at) in
    omega (arith, ints, product_by_more (factor x) n)
one_more factor (x ∷ all) (n ∷ counts) (suc place) column at long =
    omega (arith, ints, one_more factor all counts place column at (omega arith))

-- ---- Counts of uses

pub counts_long : (all uses : List Column) (counts : List ℕ) → AreCounts all uses counts → length counts ≡ length all
counts_long all [] counts are = ap length are ∙ length-replicate (length all) 0
counts_long all (column ∷ uses) counts are =
    ap length are.4 ∙ (length-set are.1 are.0 (get_or are.1 are.0 0 + 1) ∙ counts_long all uses are.1 are.3)

-- The sum of products over the counts is the sum over the uses.
pub sum_over_uses : (factor : Column → ℤ) (all uses : List Column) (counts : List ℕ) → AreCounts all uses counts
    → product_sum (map factor all) counts ≡ left_side factor uses
sum_over_uses factor all [] counts are = ap (product_sum (map factor all)) are ∙ no_counts factor all
sum_over_uses factor all (column ∷ uses) counts are =
    ap (product_sum (map factor all)) are.4
    ∙ (one_more factor all are.1 are.0 column are.2 (counts_long all uses are.1 are.3)
    ∙ ap (λ (rest : ℤ). factor column +ℤ rest) (sum_over_uses factor all uses are.1 are.3))

-- where each use is among the columns, there are such counts
pub counts_of : (all uses : List Column) → All (Contains all) uses → (counts : List ℕ) × AreCounts all uses counts
counts_of all [] among = (replicate (length all) 0, refl)
counts_of all (column ∷ uses) among =
    let rest = counts_of all uses (All-tail (Contains all) column uses among) in
    let has = All-head (Contains all) column uses among in (
      set rest.0 has.0 (get_or rest.0 has.0 0 + 1),
      (has.0, rest.0, slice_get-get_or all has.0 column has.1 ∙ ap Some has.2, rest.1, refl),
    )

-- ---- Rows

no_row : {A : Type 0} (j : ℕ) → j < 0 → A
no_row j below = absurd (omega arith)

-- counts meet each row that the uses meet
meets_each : (all uses : List Column) (counts : List ℕ) → AreCounts all uses counts → (family : List Row) → All (Meets uses) family
    → (row : ℕ) → row < length (map (λ r. map r.factor all) family)
    → product_sum (get_or (map (λ r. map r.factor all) family) row []) counts ≤ℤ get_or (map (λ r. pos r.right) family) row (pos 0)
meets_each all uses counts are [] meets row below = no_row row below
meets_each all uses counts are (first ∷ family) meets zero below =
    subst (λ (sum : ℤ). sum ≤ℤ pos first.right) (sym (sum_over_uses first.factor all uses counts are)) (All-head (Meets uses) first family meets)
meets_each all uses counts are (first ∷ family) meets (suc row) below =
    meets_each all uses counts are family (All-tail (Meets uses) first family meets) row (omega arith)

pub meets_rows : (plant : PlantData) (states : List AbsState) (task : ℕ) (uses : List Column) (counts : List ℕ)
    → AreCounts (columns plant states task) uses counts → All (Meets uses) (rows plant states task)
    → MeetsRows (rows_of plant states task) counts
meets_rows plant states task uses counts are meets row below =
    meets_each (columns plant states task) uses counts are (rows plant states task) meets row below

-- ---- Costs

costs_of_uses : (plant : PlantData) (uses : List Column) → left_side (λ column. pos (cost plant column)) uses ≡ pos (sum_by (cost plant) uses)
costs_of_uses plant [] = refl
costs_of_uses plant (column ∷ uses) =
    rw (sum_by-cons (cost plant) column uses) (rw (costs_of_uses plant uses) refl)

pub cost_is : (plant : PlantData) (states : List AbsState) (task : ℕ) (uses : List Column) (counts : List ℕ)
    → AreCounts (columns plant states task) uses counts → cost_of (rows_of plant states task) counts ≡ pos (sum_by (cost plant) uses)
cost_is plant states task uses counts are =
    sum_over_uses (λ column. pos (cost plant column)) (columns plant states task) uses counts are ∙ costs_of_uses plant uses

-- ---- The shape of the rows

pub rows_are_shaped : (plant : PlantData) (states : List AbsState) (task : ℕ) → IsShaped (rows_of plant states task)
rows_are_shaped plant states task =
    record { rows_fit = all_long (rows plant states task); rights_fit = length-map (rows plant states task) _ ∙ sym (length-map (rows plant states task) _) }
  where
    is_long : List ℤ → Type 0
    is_long row = length row ≡ length (map (λ column. pos (cost plant column)) (columns plant states task))

    all_long : (family : List Row) → All is_long (map (λ r. map r.factor (columns plant states task)) family)
    all_long [] = All-nil is_long
    all_long (first ∷ family) = All-cons is_long (map first.factor (columns plant states task)) (map (λ r. map r.factor (columns plant states task)) family)
        (length-map (columns plant states task) first.factor ∙ sym (length-map (columns plant states task) (λ column. pos (cost plant column))))
        (all_long family)

pub counts_fit : (plant : PlantData) (states : List AbsState) (task : ℕ) (uses : List Column) (counts : List ℕ)
    → AreCounts (columns plant states task) uses counts → length counts ≡ length (rows_of plant states task).costs
counts_fit plant states task uses counts are =
    counts_long (columns plant states task) uses counts are ∙ sym (length-map (columns plant states task) (λ column. pos (cost plant column)))

-- ---- All families are met

-- All rows are met.
pub all_are_met : (plant : PlantData) (states : List AbsState) (task mode : ℕ) (events : List Event) (state : MachineState)
    (uses : List Column) (since : ℕ) → IsDeclaredCase plant states task mode events state → IsUsed plant task mode events uses since
    → All (Meets uses) (rows plant states task)
all_are_met plant states task mode events state uses since case used =
    both (one_start ∷ leaving plant states task) _
    (both (one_start ∷ []) (leaving plant states task)
    (meets_first plant states task mode events state uses since case used) (meets_leaving plant states task mode events state uses since case used))
    (both (passing plant) _ (meets_passing plant states task mode events state uses since case used)
    (both (standing plant states task) _ (meets_standing plant states task mode events state uses since case used)
    (both (beginning plant task) _ (meets_beginning plant states task mode events state uses since case used)
    (both (going_round plant) (arriving plant) (meets_going_round plant states task mode events state uses since case used)
    (meets_arriving plant states task mode events state uses since case used)))))
  where
    both : (xs ys : List Row) → All (Meets uses) xs → All (Meets uses) ys → All (Meets uses) (xs ++ ys)
    both xs ys first second = All-append (Meets uses) xs ys first second

-- So what a window uses is a point of the rows.
pub uses_are_points : UsesArePoints
uses_are_points plant states task mode events state uses since case used =
    let counts = counts_of (columns plant states task) uses (uses_are_columns plant states task mode events state uses since case used) in
    record {
      counts = counts.0;
      are = counts.1;
      meets = meets_rows plant states task uses counts.0 counts.1
          (all_are_met plant states task mode events state uses since case used);
      covers =
          let most : duration events - since ≤ sum_by (cost plant) uses = uses_cover_time plant states task mode events state uses since case used in
          let costs = cost_is plant states task uses counts.0 counts.1 in
          subst (λ (sum : ℤ). pos (duration events - since) ≤ℤ sum) (sym costs) (at_most most);
    }
  where
    at_most : {m n : ℕ} → m ≤ n → pos m ≤ℤ pos n
    at_most below = omega (arith, ints)
