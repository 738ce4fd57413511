-- The solution of a table that has its right sides at the basic columns is a point of the rows, and its cost is the
-- objective row's right side over the denominator.
use Rattle.std.proofs.Common.{◌≡◌, ℕ, zero, suc, ◌+◌, ◌<◌, ◌≤◌, List, [], ◌∷◌, length, get_or, ℤ, pos, neg_ℤ, ◌+ℤ◌, ◌*ℤ◌, ◌≤ℤ◌, ◌<ℤ◌, refl, sym, ap, ◌∙◌, arith}
use Rattle.std.specs.Prelude.{unsigned_abs}
use Rattle.std.proofs.Math.IntN.{*ℤ_comm, zero-*ℤ}
use Rattle.std.proofs.lemmas.Int.{ints}
use Rattle.whole_rows.specs.Rows.{RowsData, AreRows, product_sum}
use Rattle.whole_rows.specs.Greatest.{IsPoint, Reaches}
use Rattle.whole_simplex.specs.declared.line.Line.{Line}
use Rattle.whole_simplex.specs.Tables.{Table, entry, width, first_line, first_table}
use Rattle.whole_simplex.specs.Outcome.{multiple_from, share}
use Rattle.whole_simplex.proofs.Basis.{basic_part, basic_sum, dot-basic_part, basic_sum-zero, basic_sum-own, basic_part_not_negative, basic_part_elsewhere, single_here, single_elsewhere, multiple_from-is, own_share, share_above}
use Rattle.whole_simplex.proofs.Chain.{IsEqual}
use Rattle.whole_simplex.proofs.Dots.{dot, dot-sum, single, dot-single_at}
use Rattle.whole_simplex.proofs.Equations.{line_dot, objective_dot}
use Rattle.whole_simplex.proofs.First.{first_In}
use Rattle.whole_simplex.proofs.Integers.{mul_swap, mul_neg, mul_not_negative, mul_positive, mul_le, le_of_lt}
use Rattle.whole_simplex.proofs.Members.{In}
use Rattle.whole_simplex.proofs.Solutions.{IsSolution}

-- ---- the numbers of a function at so many places

pub sizes : (ℕ → ℤ) → ℕ → ℕ → List ℕ
sizes v start zero = []
sizes v start (suc places) = unsigned_abs (v start) ∷ sizes v (suc start) places

pub length-sizes : (v : ℕ → ℤ) (start places : ℕ) → length (sizes v start places) ≡ places
unfolding sizes
length-sizes v start zero = refl
length-sizes v start (suc places) = ap suc (length-sizes v (suc start) places)

pub product_sum-sizes : (v : ℕ → ℤ) (start : ℕ) (row : List ℤ) → ((k : ℕ) → start ≤ k → k < start + length row → pos 0 ≤ℤ v k) → product_sum row (sizes v start (length row)) ≡ dot start row v
unfolding sizes
product_sum-sizes v start [] h = refl
product_sum-sizes v start (x ∷ row) h =
    let above : pos 0 ≤ℤ v start = h start (omega arith) (omega arith) in
    let size : pos (unsigned_abs (v start)) ≡ v start = omega (arith, ints) in
    omega (arith, ints, ap (λ y. x *ℤ y) size, product_sum-sizes v (suc start) row (λ k low high. h k (omega arith) (omega arith)))

-- a row over the columns
pub product_sum-columns : (n : ℕ) (v : ℕ → ℤ) (row : List ℤ) → length row ≡ n → ((k : ℕ) → k < n → pos 0 ≤ℤ v k) → product_sum row (sizes v 0 n) ≡ dot 0 row v
product_sum-columns n v row h above =
    ap (λ places. product_sum row (sizes v 0 places)) (sym h) ∙ product_sum-sizes v 0 row (λ k low high. above k (omega arith))

module _ (d : RowsData) (r : AreRows d) (table : Table) (equal : IsEqual (width d) (first_table d) table) where
  pub multiple : ℤ
  multiple = multiple_from (pos 1) table.lines

  pub denominator : ℤ
  denominator = entry table.objective (width d)

  pub value : ℤ
  value = entry table.objective (width d + 1)

  -- a line's value: its right side times the denominator times its share
  basic_value : Line → ℤ
  basic_value line = entry line.entries (width d + 1) *ℤ (denominator *ℤ share multiple line)

  pub point : ℕ → ℤ
  point k = basic_part basic_value table.lines k +ℤ (single (width d) (value *ℤ multiple) k +ℤ single (width d + 1) (neg_ℤ (denominator *ℤ multiple)) k)

  multiple_above : pos 0 <ℤ multiple
  unfolding multiple
  multiple_above = (multiple_from-is (pos 1) table.lines (omega (arith, ints)) equal.tableau.own).above

  denominator_above : pos 0 <ℤ denominator
  unfolding denominator
  denominator_above = equal.tableau.denominator

  share_is : (line : Line) → In line table.lines → entry line.entries line.basic *ℤ share multiple line ≡ multiple
  unfolding multiple
  share_is line m = own_share (pos 1) table.lines line (omega (arith, ints)) equal.tableau.own m

  share_positive : (line : Line) → In line table.lines → pos 0 <ℤ share multiple line
  unfolding multiple
  share_positive line m = share_above (pos 1) table.lines line (omega (arith, ints)) equal.tableau.own m

  dot_point : (row : List ℤ) → dot 0 row point ≡ basic_sum basic_value row table.lines +ℤ (entry row (width d) *ℤ (value *ℤ multiple) +ℤ entry row (width d + 1) *ℤ neg_ℤ (denominator *ℤ multiple))
  unfolding point
  dot_point row =
      omega (
        arith,
        ints,
        dot-sum 0 row (basic_part basic_value table.lines) (λ k. single (width d) (value *ℤ multiple) k +ℤ single (width d + 1) (neg_ℤ (denominator *ℤ multiple)) k),
        dot-sum 0 row (single (width d) (value *ℤ multiple)) (single (width d + 1) (neg_ℤ (denominator *ℤ multiple))),
        dot-basic_part basic_value row table.lines,
        dot-single_at (width d) row (value *ℤ multiple),
        dot-single_at (width d + 1) row (neg_ℤ (denominator *ℤ multiple)),
      )

  -- the line's own value, times its own entry
  own_value : (line : Line) → In line table.lines → entry line.entries line.basic *ℤ basic_value line ≡ entry line.entries (width d + 1) *ℤ (denominator *ℤ multiple)
  unfolding basic_value
  own_value line m =
      mul_swap (entry line.entries line.basic) (entry line.entries (width d + 1)) (denominator *ℤ share multiple line)
      ∙ ap (λ x. entry line.entries (width d + 1) *ℤ x) (mul_swap (entry line.entries line.basic) denominator (share multiple line) ∙ ap (λ x. denominator *ℤ x) (share_is line m))

  point_is_solution : IsSolution table point
  unfolding denominator value
  point_is_solution = record {
    lines = λ line m. omega (
      arith,
      ints,
      dot_point line.entries,
      basic_sum-own basic_value line.entries line table.lines m equal.tableau.distinct
          (λ other n apart. equal.tableau.others other line n m apart),
      own_value line m,
      ap (λ x. x *ℤ (value *ℤ multiple)) (equal.tableau.no_objective line m),
      zero-*ℤ (value *ℤ multiple),
      mul_neg (entry line.entries (width d + 1)) (denominator *ℤ multiple),
    );
    objective = omega (
      arith,
      ints,
      dot_point table.objective,
      basic_sum-zero basic_value table.objective table.lines equal.tableau.reduced,
      mul_swap denominator value multiple,
      mul_neg value (denominator *ℤ multiple),
    );
  }

  basic_value_above : (line : Line) → In line table.lines → pos 0 ≤ℤ basic_value line
  unfolding basic_value
  basic_value_above line m =
      mul_not_negative (entry line.entries (width d + 1)) (denominator *ℤ share multiple line) (equal.tableau.rights line m)
      (le_of_lt (denominator *ℤ share multiple line) (mul_positive denominator (share multiple line) denominator_above (share_positive line m)))

  point_above : (k : ℕ) → k < width d → pos 0 ≤ℤ point k
  unfolding point
  point_above k h =
      omega (
        arith,
        ints,
        basic_part_not_negative basic_value table.lines k basic_value_above,
        single_elsewhere (width d) (value *ℤ multiple) k (λ e. omega arith),
        single_elsewhere (width d + 1) (neg_ℤ (denominator *ℤ multiple)) k (λ e. omega arith),
      )

  point_at_width : point (width d) ≡ value *ℤ multiple
  unfolding point
  point_at_width =
      omega (
        arith,
        ints,
        basic_part_elsewhere basic_value table.lines (width d) (λ line m e. (let h = equal.tableau.within line m in omega arith)),
        single_here (width d) (value *ℤ multiple),
        single_elsewhere (width d + 1) (neg_ℤ (denominator *ℤ multiple)) (width d) (λ e. omega arith),
      )

  point_at_right : point (width d + 1) ≡ neg_ℤ (denominator *ℤ multiple)
  unfolding point
  point_at_right =
      omega (
        arith,
        ints,
        basic_part_elsewhere basic_value table.lines (width d + 1) (λ line m e. (let h = equal.tableau.within line m in omega arith)),
        single_elsewhere (width d) (value *ℤ multiple) (width d + 1) (λ e. omega arith),
        single_here (width d + 1) (neg_ℤ (denominator *ℤ multiple)),
      )

  at_first : IsSolution (first_table d) point
  at_first = equal.back point point_is_solution

  scale_above : pos 0 <ℤ (denominator *ℤ multiple)
  scale_above = mul_positive denominator multiple denominator_above multiple_above

  column_above : (k : ℕ) → k < length d.costs → pos 0 ≤ℤ point k
  column_above k h = point_above k (omega arith)

  pub point_is : IsPoint d (sizes point 0 (length d.costs)) (unsigned_abs (denominator *ℤ multiple))
  point_is = record {
    fits = length-sizes point 0 (length d.costs);
    above_zero = (let h = scale_above in omega (arith, ints));
    meets = λ row below.
        (let scale = scale_above in
        let whole : pos (unsigned_abs (denominator *ℤ multiple)) ≡ denominator *ℤ multiple = omega (arith, ints) in
        let fits : length (get_or d.rows row []) ≡ length d.costs = r.shape.rows_fit row [] below in
        let slack : pos 0 ≤ℤ point (length d.costs + row) = point_above (length d.costs + row) (omega arith) in
        omega (
          arith,
          ints,
          product_sum-columns (length d.costs) point (get_or d.rows row []) fits column_above,
          line_dot d row (get_or d.rows row []) (get_or d.rights row (pos 0)) point fits below,
          at_first.lines (first_line d row (get_or d.rows row []) (get_or d.rights row (pos 0))) (first_In d row below (omega (arith, r.shape.rights_fit))),
          ap (λ x. get_or d.rights row (pos 0) *ℤ x) point_at_right,
          mul_neg (get_or d.rights row (pos 0)) (denominator *ℤ multiple),
          ap (λ x. x *ℤ get_or d.rights row (pos 0)) whole,
          *ℤ_comm (denominator *ℤ multiple) (get_or d.rights row (pos 0)),
        ));
  }

  pub point_reaches : (bound : ℤ) → (entry table.objective (width d) *ℤ bound) ≤ℤ entry table.objective (width d + 1) → Reaches d (sizes point 0 (length d.costs)) (unsigned_abs (denominator *ℤ multiple)) bound
  unfolding denominator value
  point_reaches bound h =
      let scale = scale_above in
      let whole : pos (unsigned_abs (denominator *ℤ multiple)) ≡ denominator *ℤ multiple = omega (arith, ints) in
      omega (
        arith,
        ints,
        product_sum-columns (length d.costs) point d.costs refl column_above,
        objective_dot d point,
        at_first.objective,
        point_at_width,
        ap (λ x. x *ℤ bound) whole,
        *ℤ_comm (denominator *ℤ multiple) bound,
        mul_swap bound denominator multiple,
        mul_swap multiple denominator bound,
        ap (λ x. denominator *ℤ x) (*ℤ_comm multiple bound),
        *ℤ_comm value multiple,
        mul_le multiple (denominator *ℤ bound) value (le_of_lt multiple multiple_above) h,
      )
