-- The slack entries of an objective row that is negative nowhere are multipliers: they cover the columns, and the sum of
-- multiplier times right side is the objective row's right side.
use Rattle.std.proofs.Common.{◌≡◌, ◌≢◌, ℕ, suc, ◌+◌, ◌<◌, Bool, true, false, cond, ◌==◌, List, [], ◌∷◌, ◌++◌, map, length, get_or, take, drop, replicate, ℤ, pos, neg_ℤ, ◌+ℤ◌, ◌*ℤ◌, ◌≤ℤ◌, refl, sym, ap, ◌∙◌, subst, arith}
use Rattle.std.specs.Prelude.{unsigned_abs}
use Rattle.std.proofs.Math.ListN.{length-replicate}
use Rattle.std.proofs.Math.Seq.{take-add, drop-cons}
use Rattle.std.proofs.Math.IntN.{*ℤ_comm, *ℤ-zero}
use Rattle.std.proofs.lemmas.Int.{ints}
use Rattle.std.proofs.lemmas.Bool.Decides.{nat_tests}
use Rattle.std.proofs.lemmas.List.{get_or-map, take-append-drop, drop_all, length-map, length-take, length-drop, get_or-take, get_or-drop}
use Rattle.whole_rows.specs.Rows.{RowsData, AreRows, column_of, column_sum, right_sum, product_sum, cost_at}
use Rattle.whole_rows.specs.Duals.{CoversColumns}
use Rattle.whole_simplex.specs.Tables.{Table, entry, width, unit_row, first_table}
use Rattle.whole_simplex.proofs.Chain.{IsEqual}
use Rattle.whole_simplex.proofs.Dots.{dot, dot-same, dot-zero, single, dot-single_at}
use Rattle.whole_simplex.proofs.Equations.{dot-parts, line_dot, objective_dot}
use Rattle.whole_simplex.proofs.First.{length-unit_row, entry-replicate, unit_row_here, unit_row_other, part_column, part_slack, part_tail, each_first}
use Rattle.whole_simplex.proofs.Integers.{mul_neg}
use Rattle.whole_simplex.proofs.Primitive.{one_times}
use Rattle.whole_simplex.proofs.Solutions.{IsSolution}

-- ---- a row in three parts

rejoined : (n m : ℕ) (row : List ℤ) → length row ≡ n + m + 2 → row ≡ take n row ++ take m (drop n row) ++ entry row (n + m) ∷ entry row (n + m + 1) ∷ []
rejoined n m row h =
    let parts : take (n + m) row ++ drop (n + m) row ≡ row = take-append-drop (n + m) row in
    let first : take (n + m) row ≡ take n row ++ take m (drop n row) = take-add n m row in
    let one : suc (n + m) ≡ n + m + 1 = omega arith in
    let second : drop (n + m) row ≡ entry row (n + m) ∷ drop (suc (n + m)) row = drop-cons row (n + m) (pos 0) (omega arith) in
    let third : drop (suc (n + m)) row ≡ entry row (suc (n + m)) ∷ drop (suc (suc (n + m))) row = drop-cons row (suc (n + m)) (pos 0) (omega arith) in
    let last : drop (suc (suc (n + m))) row ≡ [] = drop_all (suc (suc (n + m))) row (omega arith) in
    let shifted : entry row (suc (n + m)) ≡ entry row (n + m + 1) = ap (λ k. entry row k) one in
    cc

-- ---- sums over multipliers

-- the numbers that aren't negative, times the negated ones, sum up to a negated sum of products
sum_of_negated : (start : ℕ) (multipliers xs : List ℤ) (v : ℕ → ℤ) → length multipliers ≡ length xs → ((i : ℕ) → i < length multipliers → v (start + i) ≡ neg_ℤ (entry xs i)) → ((i : ℕ) → i < length multipliers → pos 0 ≤ℤ entry multipliers i) → dot start multipliers v ≡ neg_ℤ (product_sum xs (map unsigned_abs multipliers))
sum_of_negated start [] [] v h f g = refl
sum_of_negated start [] (x ∷ xs) v h f g = absurd (omega arith)
sum_of_negated start (y ∷ multipliers) [] v h f g = absurd (omega arith)
sum_of_negated start (y ∷ multipliers) (x ∷ xs) v h f g =
    let at : start + 0 ≡ start = omega arith in
    let here : v start ≡ neg_ℤ x = ap v (sym at) ∙ f 0 (omega arith) in
    let size : pos (unsigned_abs y) ≡ y = (let above : pos 0 ≤ℤ y = g 0 (omega arith) in omega (arith, ints)) in
    let rest = sum_of_negated (suc start) multipliers xs v (omega arith)
    (λ i k. (let e : suc start + i ≡ start + suc i = omega arith in ap v e ∙ f (suc i) (omega arith))) (λ i k. g (suc i) (omega arith)) in
    omega (arith, ints, rest, ap (λ z. y *ℤ z) here, mul_neg y x, *ℤ_comm y x, ap (λ z. x *ℤ z) size)

-- ---- the columns

single_by_test : (places column k : ℕ) (b : Bool) → (k == column) ≡ b → k < places → entry (unit_row places column) k ≡ cond b (pos 1) (pos 0)
single_by_test places column k true e h =
    let same : k ≡ column = grind (arith, nat_tests) in
    ap (λ x. entry (unit_row places column) x) same ∙ unit_row_here places column (omega arith)
single_by_test places column k false e h =
    let apart : k ≢ column = grind (arith, nat_tests) in
    unit_row_other places column k (λ same. apart (sym same))

unit_is_single : (places column k : ℕ) → k < places → entry (unit_row places column) k ≡ single column (pos 1) k
unit_is_single places column k h = single_by_test places column k (k == column) refl h

abbrev pub multipliers_of : RowsData → List ℤ → List ℤ
multipliers_of d objective = take (length d.rows) (drop (length d.costs) objective)

-- a solution of table 0: 1 at a column, what takes it back at the slacks and the objective
column_solution : RowsData → ℕ → ℕ → ℤ
column_solution d column k =
    entry (unit_row (length d.costs) column ++ map neg_ℤ (column_of d column) ++ cost_at d column ∷ pos 0 ∷ []) k

-- and another one: 1 at the right side, what takes it back at the slacks
right_solution : RowsData → ℕ → ℤ
right_solution d k = entry (replicate (length d.costs) (pos 0) ++ map neg_ℤ d.rights ++ pos 0 ∷ pos 1 ∷ []) k

module _ (d : RowsData) (r : AreRows d) where
  column_of_length : (column : ℕ) → length (column_of d column) ≡ length d.rows
  column_of_length column = length-map d.rows (λ row. get_or row column (pos 0))

  entry_of_column : (column i : ℕ) → i < length d.rows → entry (column_of d column) i ≡ entry (get_or d.rows i []) column
  entry_of_column column i h = get_or-map (λ row. get_or row column (pos 0)) d.rows i [] (pos 0) h

  negated_column_length : (column : ℕ) → length (map neg_ℤ (column_of d column)) ≡ length d.rows
  negated_column_length column = length-map (column_of d column) neg_ℤ ∙ column_of_length column

  negated_rights_length : length (map neg_ℤ d.rights) ≡ length d.rows
  negated_rights_length = length-map d.rights neg_ℤ ∙ r.shape.rights_fit

  at_zero : (v : ℕ → ℤ) (k : ℕ) → v (k + 0) ≡ v k
  at_zero v k = (let e : k + 0 ≡ k = omega arith in ap v e)

  column_at : (column k : ℕ) → k < length d.costs → column_solution d column k ≡ entry (unit_row (length d.costs) column) k
  unfolding column_solution
  column_at column k h = part_column (length d.costs) (length d.rows) (unit_row (length d.costs) column) (map neg_ℤ (column_of d column)) (cost_at d column ∷ pos 0 ∷ []) (length-unit_row (length d.costs) column) (negated_column_length column) k h

  column_at_slack : (column i : ℕ) → i < length d.rows → column_solution d column (length d.costs + i) ≡ neg_ℤ (entry (column_of d column) i)
  unfolding column_solution
  column_at_slack column i h =
      part_slack (length d.costs) (length d.rows) (unit_row (length d.costs) column) (map neg_ℤ (column_of d column)) (cost_at d column ∷ pos 0 ∷ []) (length-unit_row (length d.costs) column) (negated_column_length column) i h
      ∙ get_or-map neg_ℤ (column_of d column) i (pos 0) (pos 0) (omega (arith, column_of_length column))

  column_at_tail : (column k : ℕ) → column_solution d column (width d + k) ≡ entry (cost_at d column ∷ pos 0 ∷ []) k
  unfolding column_solution
  column_at_tail column k = part_tail (length d.costs) (length d.rows) (unit_row (length d.costs) column) (map neg_ℤ (column_of d column)) (cost_at d column ∷ pos 0 ∷ []) (length-unit_row (length d.costs) column) (negated_column_length column) k

  dot_column : (row : List ℤ) (column : ℕ) → length row ≡ length d.costs → dot 0 row (column_solution d column) ≡ entry row column
  dot_column row column h =
      dot-same 0 row (column_solution d column) (single column (pos 1))
      (λ k low high. column_at column k (omega arith) ∙ unit_is_single (length d.costs) column k (omega arith))
      ∙ dot-single_at column row (pos 1)
      ∙ *ℤ_comm (entry row column) (pos 1) ∙ one_times (entry row column)

  -- it meets table 0
  column_is_solution : (column : ℕ) → column < length d.costs → IsSolution (first_table d) (column_solution d column)
  column_is_solution column h = record {
    lines = each_first d r.shape.rows_fit r.shape.rights_fit r.rights_not_negative (λ l. dot 0 l.entries (column_solution d column) ≡ pos 0)
        (λ i below. omega (
          arith,
          ints,
          line_dot d i (get_or d.rows i []) (get_or d.rights i (pos 0)) (column_solution d column) (r.shape.rows_fit i [] below) below,
          dot_column (get_or d.rows i []) column (r.shape.rows_fit i [] below),
          column_at_slack column i below,
          entry_of_column column i below,
          ap (λ x. get_or d.rights i (pos 0) *ℤ x) (column_at_tail column 1),
          *ℤ-zero (get_or d.rights i (pos 0)),
        ));
    objective = omega (
      arith,
      ints,
      objective_dot d (column_solution d column),
      dot_column d.costs column refl,
      column_at_tail column 0,
      at_zero (column_solution d column) (width d),
    );
  }

  dot_none : (row : List ℤ) → length row ≡ length d.costs → dot 0 row (right_solution d) ≡ pos 0
  unfolding right_solution
  dot_none row h =
      dot-same 0 row (right_solution d) (λ k. pos 0)
      (λ k low high. part_column (length d.costs) (length d.rows) (replicate (length d.costs) (pos 0)) (map neg_ℤ d.rights) (pos 0 ∷ pos 1 ∷ []) (length-replicate (length d.costs) (pos 0)) negated_rights_length k (omega arith) ∙ entry-replicate (length d.costs) k)
      ∙ dot-zero 0 row

  right_at_slack : (i : ℕ) → i < length d.rows → right_solution d (length d.costs + i) ≡ neg_ℤ (entry d.rights i)
  unfolding right_solution
  right_at_slack i h =
      part_slack (length d.costs) (length d.rows) (replicate (length d.costs) (pos 0)) (map neg_ℤ d.rights) (pos 0 ∷ pos 1 ∷ []) (length-replicate (length d.costs) (pos 0)) negated_rights_length i h
      ∙ get_or-map neg_ℤ d.rights i (pos 0) (pos 0) (omega (arith, r.shape.rights_fit))

  right_at_tail : (k : ℕ) → right_solution d (width d + k) ≡ entry (pos 0 ∷ pos 1 ∷ []) k
  unfolding right_solution
  right_at_tail k = part_tail (length d.costs) (length d.rows) (replicate (length d.costs) (pos 0)) (map neg_ℤ d.rights) (pos 0 ∷ pos 1 ∷ []) (length-replicate (length d.costs) (pos 0)) negated_rights_length k

  right_is_solution : IsSolution (first_table d) (right_solution d)
  right_is_solution = record {
    lines = each_first d r.shape.rows_fit r.shape.rights_fit r.rights_not_negative (λ l. dot 0 l.entries (right_solution d) ≡ pos 0)
        (λ i below. omega (
          arith,
          ints,
          line_dot d i (get_or d.rows i []) (get_or d.rights i (pos 0)) (right_solution d) (r.shape.rows_fit i [] below) below,
          dot_none (get_or d.rows i []) (r.shape.rows_fit i [] below),
          right_at_slack i below,
          ap (λ x. get_or d.rights i (pos 0) *ℤ x) (right_at_tail 1),
          *ℤ_comm (get_or d.rights i (pos 0)) (pos 1),
          one_times (get_or d.rights i (pos 0)),
        ));
    objective = omega (
      arith,
      ints,
      objective_dot d (right_solution d),
      dot_none d.costs refl,
      right_at_tail 0,
      at_zero (right_solution d) (width d),
    );
  }

  -- ---- what the objective row says

  module _ (table : Table) (equal : IsEqual (width d) (first_table d) table) (above : (k : ℕ) → k < width d → pos 0 ≤ℤ entry table.objective k) where
    pub multipliers_length : length (multipliers_of d table.objective) ≡ length d.rows
    multipliers_length =
        let whole : length table.objective ≡ width d + 2 = equal.tableau.objective_length in
        omega (arith, length-take (length d.rows) (drop (length d.costs) table.objective), length-drop (length d.costs) table.objective)

    multiplier_at : (i : ℕ) → i < length d.rows → entry (multipliers_of d table.objective) i ≡ entry table.objective (length d.costs + i)
    multiplier_at i h = get_or-take (length d.rows) (drop (length d.costs) table.objective) i (pos 0) h ∙ get_or-drop (length d.costs) table.objective i (pos 0)

    pub multipliers_above : (i : ℕ) → i < length d.rows → pos 0 ≤ℤ entry (multipliers_of d table.objective) i
    multipliers_above i h = subst (λ x. pos 0 ≤ℤ x) (sym (multiplier_at i h)) (above (length d.costs + i) (omega arith))

    objective_in_parts : (v : ℕ → ℤ) → dot 0 table.objective v ≡ dot 0 (take (length d.costs) table.objective) v +ℤ dot (length d.costs) (multipliers_of d table.objective) v +ℤ (entry table.objective (width d) *ℤ v (width d) +ℤ entry table.objective (width d + 1) *ℤ v (width d + 1))
    objective_in_parts v =
        let whole : length table.objective ≡ width d + 2 = equal.tableau.objective_length in
        ap (λ row. dot 0 row v) (rejoined (length d.costs) (length d.rows) table.objective whole)
        ∙ dot-parts (length d.costs) (length d.rows) (take (length d.costs) table.objective) (multipliers_of d table.objective) (entry table.objective (width d)) (entry table.objective (width d + 1)) v
        (omega (arith, length-take (length d.costs) table.objective)) multipliers_length

    columns_length : length (take (length d.costs) table.objective) ≡ length d.costs
    columns_length = (let whole : length table.objective ≡ width d + 2 = equal.tableau.objective_length in omega (arith, length-take (length d.costs) table.objective))

    column_sum_is : (column : ℕ) → column < length d.costs → column_sum d (map unsigned_abs (multipliers_of d table.objective)) column ≡ entry table.objective column +ℤ entry table.objective (width d) *ℤ cost_at d column
    column_sum_is column h =
        let v = column_solution d column in
        let none : dot 0 table.objective v ≡ pos 0 = (equal.forth v (column_is_solution column h)).objective in
        let first : dot 0 (take (length d.costs) table.objective) v ≡ entry table.objective column =
        dot_column (take (length d.costs) table.objective) column columns_length ∙ get_or-take (length d.costs) table.objective column (pos 0) h in
        let second : dot (length d.costs) (multipliers_of d table.objective) v ≡ neg_ℤ (product_sum (column_of d column) (map unsigned_abs (multipliers_of d table.objective))) =
        sum_of_negated (length d.costs) (multipliers_of d table.objective) (column_of d column) v (multipliers_length ∙ sym (column_of_length column))
        (λ i below. column_at_slack column i (omega (arith, multipliers_length))) (λ i below. multipliers_above i (omega (arith, multipliers_length))) in
        let third : v (width d) ≡ cost_at d column = sym (at_zero v (width d)) ∙ column_at_tail column 0 in
        let fourth : v (width d + 1) ≡ pos 0 = column_at_tail column 1 in
        omega (arith, ints, objective_in_parts v, none, first, second, ap (λ x. entry table.objective (width d) *ℤ x) third, ap (λ x. entry table.objective (width d + 1) *ℤ x) fourth, *ℤ-zero (entry table.objective (width d + 1)))

    pub right_sum_is : right_sum d (map unsigned_abs (multipliers_of d table.objective)) ≡ entry table.objective (width d + 1)
    right_sum_is =
        let v = right_solution d in
        let none : dot 0 table.objective v ≡ pos 0 = (equal.forth v right_is_solution).objective in
        let first : dot 0 (take (length d.costs) table.objective) v ≡ pos 0 = dot_none (take (length d.costs) table.objective) columns_length in
        let second : dot (length d.costs) (multipliers_of d table.objective) v ≡ neg_ℤ (product_sum d.rights (map unsigned_abs (multipliers_of d table.objective))) =
        sum_of_negated (length d.costs) (multipliers_of d table.objective) d.rights v (multipliers_length ∙ sym r.shape.rights_fit)
        (λ i below. right_at_slack i (omega (arith, multipliers_length))) (λ i below. multipliers_above i (omega (arith, multipliers_length))) in
        let third : v (width d) ≡ pos 0 = sym (at_zero v (width d)) ∙ right_at_tail 0 in
        let fourth : v (width d + 1) ≡ pos 1 = right_at_tail 1 in
        omega (
          arith,
          ints,
          objective_in_parts v,
          none,
          first,
          second,
          ap (λ x. entry table.objective (width d) *ℤ x) third,
          *ℤ-zero (entry table.objective (width d)),
          ap (λ x. entry table.objective (width d + 1) *ℤ x) fourth,
          *ℤ_comm (entry table.objective (width d + 1)) (pos 1),
          one_times (entry table.objective (width d + 1)),
        )

    pub covers_columns : (denominator : ℕ) → pos denominator ≡ entry table.objective (width d) → CoversColumns d (map unsigned_abs (multipliers_of d table.objective)) denominator
    covers_columns denominator e column h =
        let here : pos 0 ≤ℤ entry table.objective column = above column (omega arith) in
        omega (arith, ints, column_sum_is column h, ap (λ x. x *ℤ cost_at d column) e)
