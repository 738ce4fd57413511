-- Where no line has an entry above 0 at the entering place, the stated ray is a ray of the rows.
use Rattle.std.proofs.Common.{◌≡◌, ◌≢◌, ℕ, zero, suc, ◌+◌, ◌<◌, ◌≤◌, ◌==◌, inl, inr, Bool, true, false, cond, List, [], ◌∷◌, map, length, get_or, set, replicate, ℤ, pos, neg_ℤ, ◌+ℤ◌, ◌*ℤ◌, ◌≤ℤ◌, ◌<ℤ◌, refl, sym, ap, ◌∙◌, subst, arith}
use Rattle.std.specs.Prelude.{unsigned_abs}
use Rattle.std.proofs.Math.ListN.{length-replicate, length-set}
use Rattle.std.proofs.Math.IntN.{*ℤ-zero, zero-*ℤ}
use Rattle.std.proofs.lemmas.Int.{ints}
use Rattle.std.proofs.lemmas.Bool.Decides.{nat_tests}
use Rattle.std.proofs.lemmas.List.{length-map}
use Rattle.whole_rows.specs.Row.{primitive_of}
use Rattle.whole_rows.specs.Rows.{RowsData, AreRows, product_sum, left_side, cost_of}
use Rattle.whole_rows.specs.Greatest.{IsRay}
use Rattle.whole_simplex.specs.declared.line.Line.{Line}
use Rattle.whole_simplex.specs.Tables.{AreDistinct, Table, entry, width, first_line, first_table}
use Rattle.whole_simplex.specs.Outcome.{multiple_from, falling, share, with_basics, ray_of}
use Rattle.whole_simplex.proofs.Basis.{basic_part, basic_sum, dot-basic_part, basic_sum-zero, basic_sum-own, basic_part_not_negative, basic_part_elsewhere, single_not_negative, single_here, single_elsewhere, multiple_from-is, own_share, share_above}
use Rattle.whole_simplex.proofs.Chain.{IsEqual}
use Rattle.whole_simplex.proofs.Dots.{dot, dot-sum, dot-times, dot-same, single, dot-single_at}
use Rattle.whole_simplex.proofs.Equations.{line_dot, objective_dot}
use Rattle.whole_simplex.proofs.First.{first_In, entry-replicate}
use Rattle.whole_simplex.proofs.Integers.{mul_swap, mul_neg, neg_mul, mul_not_negative, mul_positive, le_of_lt, not_positive_of_mul, positive_of_mul, not_negative_of_mul}
use Rattle.whole_simplex.proofs.Members.{In, free_member}
use Rattle.whole_simplex.proofs.Primitive.{primitive_back}
use Rattle.whole_simplex.proofs.Eliminated.{entry-scaled}
use Rattle.whole_simplex.proofs.Solutions.{IsSolution}

-- ---- the list of the ray's entries

entry-set_same : (row : List ℤ) (k : ℕ) (x : ℤ) → k < length row → entry (set row k x) k ≡ x
entry-set_same [] k x h = absurd (omega arith)
entry-set_same (y ∷ row) zero x h = refl
entry-set_same (y ∷ row) (suc k) x h = entry-set_same row k x (omega arith)

entry-set_other : (row : List ℤ) (j k : ℕ) (x : ℤ) → k ≢ j → entry (set row j x) k ≡ entry row k
entry-set_other [] j k x h = refl
entry-set_other (y ∷ row) zero zero x h = absurd (h refl)
entry-set_other (y ∷ row) zero (suc k) x h = refl
entry-set_other (y ∷ row) (suc j) zero x h = refl
entry-set_other (y ∷ row) (suc j) (suc k) x h = entry-set_other row j k x (λ e. h (ap suc e))

-- one entry put in its place, where 0 was
set_by_test : (row : List ℤ) (j k : ℕ) (x : ℤ) (b : Bool) → (k == j) ≡ b → k < length row → entry row j ≡ pos 0 → entry (set row j x) k ≡ entry row k +ℤ cond b x (pos 0)
set_by_test row j k x true e h none =
    let same : k ≡ j = grind (arith, nat_tests) in
    let there : entry (set row j x) k ≡ x = ap (λ i. entry (set row j x) i) same ∙ entry-set_same row j x (omega arith) in
    let here : entry row k ≡ pos 0 = ap (λ i. entry row i) same ∙ none in
    omega (arith, ints)
set_by_test row j k x false e h none =
    let apart : k ≢ j = grind (arith, nat_tests) in
    omega (arith, ints, entry-set_other row j k x apart)

set_is : (row : List ℤ) (j k : ℕ) (x : ℤ) → k < length row → entry row j ≡ pos 0 → entry (set row j x) k ≡ entry row k +ℤ single j x k
set_is row j k x h none = set_by_test row j k x (k == j) refl h none

abbrev ray_value : ℕ → ℤ → Line → ℤ
ray_value place multiple line = falling place line *ℤ share multiple line

with_basics-is : (place : ℕ) (multiple : ℤ) (lines : List Line) (ray : List ℤ) (k : ℕ) → k < length ray → AreDistinct lines → ((line : Line) → In line lines → entry ray line.basic ≡ pos 0) → entry (with_basics place multiple lines ray) k ≡ entry ray k +ℤ basic_part (ray_value place multiple) lines k
with_basics-is place multiple [] ray k h d none = omega (arith, ints)
with_basics-is place multiple (line ∷ lines) ray k h d none =
    let x = ray_value place multiple line in
    let rest = with_basics-is place multiple lines (set ray line.basic x) k (omega (arith, length-set ray line.basic x)) d.1
    (λ other m. entry-set_other ray line.basic other.basic x (free_member line.basic lines other d.0 m) ∙ none other (inr m)) in
    omega (arith, ints, rest, set_is ray line.basic k x h (none line (inl refl)))

length-with_basics : (place : ℕ) (multiple : ℤ) (lines : List Line) (ray : List ℤ) → length (with_basics place multiple lines ray) ≡ length ray
length-with_basics place multiple [] ray = refl
length-with_basics place multiple (line ∷ lines) ray =
    length-with_basics place multiple lines (set ray line.basic (ray_value place multiple line)) ∙ length-set ray line.basic (ray_value place multiple line)

-- ---- sums of a row with sizes

product_sum-dot : (start : ℕ) (row us : List ℤ) (v : ℕ → ℤ) → length row ≡ length us → ((i : ℕ) → i < length us → v (start + i) ≡ entry us i) → ((i : ℕ) → i < length us → pos 0 ≤ℤ entry us i) → product_sum row (map unsigned_abs us) ≡ dot start row v
product_sum-dot start [] us v h f g = refl
product_sum-dot start (x ∷ row) [] v h f g = absurd (omega arith)
product_sum-dot start (x ∷ row) (u ∷ us) v h f g =
    let at : start + 0 ≡ start = omega arith in
    let here : v start ≡ u = ap v (sym at) ∙ f 0 (omega arith) in
    let size : pos (unsigned_abs u) ≡ u = (let above : pos 0 ≤ℤ u = g 0 (omega arith) in omega (arith, ints)) in
    let rest = product_sum-dot (suc start) row us v (omega arith)
    (λ i k. (let e : suc start + i ≡ start + suc i = omega arith in ap v e ∙ f (suc i) (omega arith))) (λ i k. g (suc i) (omega arith)) in
    omega (arith, ints, rest, ap (λ z. x *ℤ z) here, ap (λ z. x *ℤ z) size)

module _ (d : RowsData) (r : AreRows d) (table : Table) (equal : IsEqual (width d) (first_table d) table) (place : ℕ) (enters : place < width d) (falls : entry table.objective place <ℤ pos 0) (bounded : (line : Line) → In line table.lines → entry line.entries place ≤ℤ pos 0) where
  pub multiple : ℤ
  multiple = multiple_from (pos 1) table.lines

  denominator : ℤ
  denominator = entry table.objective (width d)

  -- the direction over columns and slacks
  direction : ℕ → ℤ
  direction k = basic_part (ray_value place multiple) table.lines k +ℤ single place multiple k

  -- the solution: the denominator times the direction, and at the objective what the cost gains
  raised : ℕ → ℤ
  raised k = denominator *ℤ direction k +ℤ single (width d) (neg_ℤ (entry table.objective place) *ℤ multiple) k

  multiple_above : pos 0 <ℤ multiple
  unfolding multiple
  multiple_above = (multiple_from-is (pos 1) table.lines (omega (arith, ints)) equal.tableau.own).above

  denominator_above : pos 0 <ℤ denominator
  unfolding denominator
  denominator_above = equal.tableau.denominator

  share_is : (line : Line) → In line table.lines → entry line.entries line.basic *ℤ share multiple line ≡ multiple
  unfolding multiple
  share_is line m = own_share (pos 1) table.lines line (omega (arith, ints)) equal.tableau.own m

  share_positive : (line : Line) → In line table.lines → pos 0 <ℤ share multiple line
  unfolding multiple
  share_positive line m = share_above (pos 1) table.lines line (omega (arith, ints)) equal.tableau.own m

  ray_value_above : (line : Line) → In line table.lines → pos 0 ≤ℤ ray_value place multiple line
  ray_value_above line m =
      let low : entry line.entries place ≤ℤ pos 0 = bounded line m in
      mul_not_negative (falling place line) (share multiple line) (omega (arith, ints)) (le_of_lt (share multiple line) (share_positive line m))

  own_value : (line : Line) → In line table.lines → entry line.entries line.basic *ℤ ray_value place multiple line ≡ neg_ℤ (entry line.entries place *ℤ multiple)
  own_value line m =
      mul_swap (entry line.entries line.basic) (falling place line) (share multiple line)
      ∙ ap (λ x. falling place line *ℤ x) (share_is line m)
      ∙ neg_mul (entry line.entries place) multiple

  dot_direction : (row : List ℤ) → dot 0 row direction ≡ basic_sum (ray_value place multiple) row table.lines +ℤ entry row place *ℤ multiple
  unfolding direction
  dot_direction row =
      omega (
        arith,
        ints,
        dot-sum 0 row (basic_part (ray_value place multiple) table.lines) (single place multiple),
        dot-basic_part (ray_value place multiple) row table.lines,
        dot-single_at place row multiple,
      )

  dot_raised : (row : List ℤ) → dot 0 row raised ≡ denominator *ℤ dot 0 row direction +ℤ entry row (width d) *ℤ (neg_ℤ (entry table.objective place) *ℤ multiple)
  unfolding raised
  dot_raised row =
      omega (
        arith,
        ints,
        dot-sum 0 row (λ k. denominator *ℤ direction k) (single (width d) (neg_ℤ (entry table.objective place) *ℤ multiple)),
        dot-times 0 row denominator direction,
        dot-single_at (width d) row (neg_ℤ (entry table.objective place) *ℤ multiple),
      )

  line_direction : (line : Line) → In line table.lines → dot 0 line.entries direction ≡ pos 0
  line_direction line m =
      omega (
        arith,
        ints,
        dot_direction line.entries,
        basic_sum-own (ray_value place multiple) line.entries line table.lines m equal.tableau.distinct (λ other n apart. equal.tableau.others other line n m apart),
        own_value line m,
      )

  objective_direction : dot 0 table.objective direction ≡ entry table.objective place *ℤ multiple
  objective_direction =
      omega (arith, ints, dot_direction table.objective, basic_sum-zero (ray_value place multiple) table.objective table.lines equal.tableau.reduced)

  raised_is_solution : IsSolution table raised
  unfolding denominator
  raised_is_solution = record {
    lines = λ line m. omega (
      arith,
      ints,
      dot_raised line.entries,
      ap (λ x. denominator *ℤ x) (line_direction line m),
      *ℤ-zero denominator,
      ap (λ x. x *ℤ (neg_ℤ (entry table.objective place) *ℤ multiple)) (equal.tableau.no_objective line m),
      zero-*ℤ (neg_ℤ (entry table.objective place) *ℤ multiple),
    );
    objective = omega (
      arith,
      ints,
      dot_raised table.objective,
      ap (λ x. denominator *ℤ x) objective_direction,
      ap (λ x. denominator *ℤ x) (neg_mul (entry table.objective place) multiple),
      mul_neg denominator (entry table.objective place *ℤ multiple),
    );
  }

  at_first : IsSolution (first_table d) raised
  at_first = equal.back raised raised_is_solution

  direction_above : (k : ℕ) → k < width d → pos 0 ≤ℤ direction k
  unfolding direction
  direction_above k h =
      omega (arith, ints, basic_part_not_negative (ray_value place multiple) table.lines k ray_value_above, single_not_negative place multiple k (le_of_lt multiple multiple_above))

  raised_at : (k : ℕ) → k ≢ width d → raised k ≡ denominator *ℤ direction k
  unfolding raised
  raised_at k h = omega (arith, ints, single_elsewhere (width d) (neg_ℤ (entry table.objective place) *ℤ multiple) k h)

  direction_past : (k : ℕ) → width d ≤ k → direction k ≡ pos 0
  unfolding direction
  direction_past k h =
      omega (
        arith,
        ints,
        basic_part_elsewhere (ray_value place multiple) table.lines k (λ line m e. (let w = equal.tableau.within line m in omega arith)),
        single_elsewhere place multiple k (λ e. omega arith),
      )

  raised_at_width : raised (width d) ≡ neg_ℤ (entry table.objective place) *ℤ multiple
  unfolding raised
  raised_at_width =
      omega (arith, ints, single_here (width d) (neg_ℤ (entry table.objective place) *ℤ multiple), ap (λ x. denominator *ℤ x) (direction_past (width d) (omega arith)), *ℤ-zero denominator)

  raised_at_right : raised (width d + 1) ≡ pos 0
  raised_at_right =
      omega (arith, ints, raised_at (width d + 1) (λ e. omega arith), ap (λ x. denominator *ℤ x) (direction_past (width d + 1) (omega arith)), *ℤ-zero denominator)

  -- over the columns the solution is the denominator times the direction
  dot_columns : (row : List ℤ) → length row ≡ length d.costs → dot 0 row raised ≡ denominator *ℤ dot 0 row direction
  dot_columns row h =
      dot-same 0 row raised (λ k. denominator *ℤ direction k) (λ k low high. raised_at k (λ e. omega arith))
      ∙ dot-times 0 row denominator direction

  row_keeps : (i : ℕ) → i < length d.rows → dot 0 (get_or d.rows i []) direction ≤ℤ pos 0
  row_keeps i below =
      let fits : length (get_or d.rows i []) ≡ length d.costs = r.shape.rows_fit i [] below in
      let slack : pos 0 ≤ℤ raised (length d.costs + i) =
      subst (λ x. pos 0 ≤ℤ x) (sym (raised_at (length d.costs + i) (λ e. omega arith)))
      (mul_not_negative denominator (direction (length d.costs + i)) (le_of_lt denominator denominator_above) (direction_above (length d.costs + i) (omega arith))) in
      not_positive_of_mul denominator (dot 0 (get_or d.rows i []) direction) denominator_above
      (omega (
        arith,
        ints,
        dot_columns (get_or d.rows i []) fits,
        line_dot d i (get_or d.rows i []) (get_or d.rights i (pos 0)) raised fits below,
        at_first.lines (first_line d i (get_or d.rows i []) (get_or d.rights i (pos 0))) (first_In d i below (omega (arith, r.shape.rights_fit))),
        ap (λ x. get_or d.rights i (pos 0) *ℤ x) raised_at_right,
        *ℤ-zero (get_or d.rights i (pos 0)),
      ))

  cost_gains : pos 0 <ℤ dot 0 d.costs direction
  cost_gains =
      positive_of_mul denominator (dot 0 d.costs direction) denominator_above
      (omega (
        arith,
        ints,
        dot_columns d.costs refl,
        objective_dot d raised,
        at_first.objective,
        raised_at_width,
        mul_positive (neg_ℤ (entry table.objective place)) multiple (omega (arith, ints)) multiple_above,
      ))

  -- ---- the stated list

  placed : List ℤ
  placed = with_basics place multiple table.lines (set (replicate (length d.costs) (pos 0)) place multiple)

  placed_length : length placed ≡ length d.costs
  unfolding placed
  placed_length =
      length-with_basics place multiple table.lines (set (replicate (length d.costs) (pos 0)) place multiple)
      ∙ length-set (replicate (length d.costs) (pos 0)) place multiple ∙ length-replicate (length d.costs) (pos 0)

  enters_apart : (line : Line) → In line table.lines → line.basic ≢ place
  enters_apart line m e =
      let none : entry table.objective place ≡ pos 0 = subst (λ b. entry table.objective b ≡ pos 0) e (equal.tableau.reduced line m) in
      omega (arith, ints)

  placed_at : (k : ℕ) → k < length d.costs → entry placed k ≡ direction k
  unfolding placed direction
  placed_at k h =
      let start : List ℤ = replicate (length d.costs) (pos 0) in
      let long : length start ≡ length d.costs = length-replicate (length d.costs) (pos 0) in
      let first : entry (set start place multiple) k ≡ entry start k +ℤ single place multiple k =
      set_is start place k multiple (omega arith) (entry-replicate (length d.costs) place) in
      let basics = with_basics-is place multiple table.lines (set start place multiple) k (omega (arith, length-set start place multiple)) equal.tableau.distinct
      (λ line m. entry-set_other start place line.basic multiple (enters_apart line m) ∙ entry-replicate (length d.costs) line.basic) in
      omega (arith, ints, basics, first, entry-replicate (length d.costs) k)

  pub ray : List ℤ
  ray = primitive_of placed

  back : (g : ℕ) × (map (λ x. pos (suc g) *ℤ x) ray ≡ placed)
  unfolding ray
  back = primitive_back placed

  pub ray_length : length ray ≡ length d.costs
  ray_length = sym (length-map ray (λ x. pos (suc back.0) *ℤ x)) ∙ ap length back.1 ∙ placed_length

  ray_scaled : (k : ℕ) → k < length d.costs → pos (suc back.0) *ℤ entry ray k ≡ direction k
  ray_scaled k h = sym (entry-scaled (pos (suc back.0)) ray k) ∙ ap (λ row. entry row k) back.1 ∙ placed_at k h

  scale_above : pos 0 <ℤ pos (suc back.0)
  scale_above = omega (arith, ints)

  pub ray_above : (k : ℕ) → k < length d.costs → pos 0 ≤ℤ entry ray k
  ray_above k h =
      not_negative_of_mul (pos (suc back.0)) (entry ray k) scale_above
      (subst (λ x. pos 0 ≤ℤ x) (sym (ray_scaled k h)) (direction_above k (omega arith)))

  -- a row on the ray, times the divisor, is the row on the direction
  row_scaled : (row : List ℤ) → length row ≡ length d.costs → pos (suc back.0) *ℤ product_sum row (map unsigned_abs ray) ≡ dot 0 row direction
  row_scaled row h =
      ap (λ x. pos (suc back.0) *ℤ x) (product_sum-dot 0 row ray (λ k. entry ray k) (h ∙ sym ray_length)
      (λ i below. (let e : 0 + i ≡ i = omega arith in ap (λ k. entry ray k) e)) (λ i below. ray_above i (omega (arith, ray_length))))
      ∙ sym (dot-times 0 row (pos (suc back.0)) (λ k. entry ray k))
      ∙ dot-same 0 row (λ k. pos (suc back.0) *ℤ entry ray k) direction (λ k low high. ray_scaled k (omega arith))

  pub ray_is : IsRay d (map unsigned_abs ray)
  ray_is = record {
    fits = length-map ray unsigned_abs ∙ ray_length;
    keeps = λ row below.
        (let fits : length (get_or d.rows row []) ≡ length d.costs = r.shape.rows_fit row [] below in
        not_positive_of_mul (pos (suc back.0)) (left_side d row (map unsigned_abs ray)) scale_above
        (omega (arith, ints, row_scaled (get_or d.rows row []) fits, row_keeps row below)));
    gains = positive_of_mul (pos (suc back.0)) (cost_of d (map unsigned_abs ray)) scale_above
        (omega (arith, ints, row_scaled d.costs refl, cost_gains));
  }

  pub ray_is_stated : ray ≡ ray_of (length d.costs) place table.lines
  unfolding ray placed multiple
  ray_is_stated = refl
