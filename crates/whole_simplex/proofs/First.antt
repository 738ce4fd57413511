-- Table 0 keeps what every table keeps, and what meets its equations.
use Rattle.std.proofs.Common.{◌≡◌, ◌≢◌, ℕ, zero, suc, ◌+◌, ◌<◌, inl, inr, List, [], ◌∷◌, ◌++◌, map, length, get_or, replicate, ℤ, pos, neg_ℤ, ◌≤ℤ◌, ◌<ℤ◌, refl, sym, ap, ◌∙◌, subst, arith, length-append}
use Rattle.std.proofs.Math.ListN.{length-replicate, get_or-append}
use Rattle.std.specs.Prelude.{All}
use Rattle.std.proofs.lemmas.Int.{ints}
use Rattle.std.proofs.lemmas.List.{length-map, get_or-append-add}
use Rattle.whole_rows.specs.Rows.{RowsData}
use Rattle.whole_simplex.specs.declared.line.Line.{Line}
use Rattle.whole_simplex.specs.Tables.{IsFree, AreDistinct, entry, width, unit_row, first_line, lines_from, first_objective, first_table}
use Rattle.whole_simplex.proofs.Members.{In}
use Rattle.whole_simplex.proofs.Tableau.{IsTableau}

-- ---- the unit row

pub length-unit_row : (places place : ℕ) → length (unit_row places place) ≡ places
length-unit_row zero place = refl
length-unit_row (suc places) zero = ap suc (length-replicate places (pos 0))
length-unit_row (suc places) (suc place) = ap suc (length-unit_row places place)

pub entry-replicate : (places k : ℕ) → entry (replicate places (pos 0)) k ≡ pos 0
entry-replicate zero k = refl
entry-replicate (suc places) zero = refl
entry-replicate (suc places) (suc k) = entry-replicate places k

pub unit_row_here : (places place : ℕ) → place < places → entry (unit_row places place) place ≡ pos 1
unit_row_here zero place h = absurd (omega arith)
unit_row_here (suc places) zero h = refl
unit_row_here (suc places) (suc place) h = unit_row_here places place (omega arith)

pub unit_row_other : (places place k : ℕ) → place ≢ k → entry (unit_row places place) k ≡ pos 0
unit_row_other zero place k h = refl
unit_row_other (suc places) zero zero h = absurd (h refl)
unit_row_other (suc places) zero (suc k) h = entry-replicate places k
unit_row_other (suc places) (suc place) zero h = refl
unit_row_other (suc places) (suc place) (suc k) h = unit_row_other places place k (λ e. h (ap suc e))

-- ---- rows of three parts

module _ (n m : ℕ) (columns slacks tail : List ℤ) (columns_length : length columns ≡ n) (slacks_length : length slacks ≡ m) where
  pub parts_length : length (columns ++ slacks ++ tail) ≡ n + m + length tail
  parts_length = omega (arith, length-append (columns ++ slacks) tail, length-append columns slacks)

  pub part_column : (k : ℕ) → k < n → entry (columns ++ slacks ++ tail) k ≡ entry columns k
  part_column k h =
      get_or-append (columns ++ slacks) tail (pos 0) k (omega (arith, length-append columns slacks))
      ∙ get_or-append columns slacks (pos 0) k (omega arith)

  pub part_slack : (k : ℕ) → k < m → entry (columns ++ slacks ++ tail) (n + k) ≡ entry slacks k
  part_slack k h =
      get_or-append (columns ++ slacks) tail (pos 0) (n + k) (omega (arith, length-append columns slacks))
      ∙ ap (λ l. entry (columns ++ slacks) (l + k)) (sym columns_length)
      ∙ get_or-append-add columns slacks k (pos 0)

  pub part_tail : (k : ℕ) → entry (columns ++ slacks ++ tail) (n + m + k) ≡ entry tail k
  part_tail k =
      let e : n + m ≡ length (columns ++ slacks) = omega (arith, length-append columns slacks) in
      ap (λ l. entry (columns ++ slacks ++ tail) (l + k)) e ∙ get_or-append-add (columns ++ slacks) tail k (pos 0)

-- ---- the lines

-- a line of table 0 is that of a row
record IsFirst (d : RowsData) (number : ℕ) (rows : List (List ℤ)) (rights : List ℤ) (line : Line) : Type 0 where
  i : ℕ
  below : i < length rows
  right_there : i < length rights
  is : line ≡ first_line d (number + i) (get_or rows i []) (get_or rights i (pos 0))

first_member : (d : RowsData) (number : ℕ) (rows : List (List ℤ)) (rights : List ℤ) (line : Line) → In line (lines_from d number rows rights) → IsFirst d number rows rights line
first_member d number [] rights line h = absurd h
first_member d number (row ∷ rows) [] line h = absurd h
first_member d number (row ∷ rows) (right ∷ rights) line h = elim h [
  | inl e ↦ (let zero_more : number ≡ number + 0 = omega arith in
      record { i = 0; below = omega arith; right_there = omega arith; is = e ∙ ap (λ k. first_line d k row right) zero_more })
  | inr m ↦ (let f = first_member d (suc number) rows rights line m in
      let one_more : suc number + f.i ≡ number + suc f.i = omega arith in
      record {
        i = suc f.i;
        below = omega (arith, f.below);
        right_there = omega (arith, f.right_there);
        is = f.is ∙ ap (λ k. first_line d k (get_or rows f.i []) (get_or rights f.i (pos 0))) one_more;
      })
]

free_before : (d : RowsData) (number : ℕ) (rows : List (List ℤ)) (rights : List ℤ) (basic : ℕ) → basic < length d.costs + number → IsFree basic (lines_from d number rows rights)
free_before d number [] rights basic h = tt
free_before d number (row ∷ rows) [] basic h = tt
free_before d number (row ∷ rows) (right ∷ rights) basic h = (λ e. omega arith, free_before d (suc number) rows rights basic (omega arith))

first_distinct : (d : RowsData) (number : ℕ) (rows : List (List ℤ)) (rights : List ℤ) → AreDistinct (lines_from d number rows rights)
first_distinct d number [] rights = tt
first_distinct d number (row ∷ rows) [] = tt
first_distinct d number (row ∷ rows) (right ∷ rights) =
    (free_before d (suc number) rows rights (length d.costs + number) (omega arith), first_distinct d (suc number) rows rights)

-- ---- table 0 is a tableau

module _ (d : RowsData) (rows_fit : All (λ row. length row ≡ length d.costs) d.rows) (rights_fit : length d.rights ≡ length d.rows) (rights_above : All (λ right. pos 0 ≤ℤ right) d.rights) where
  first_is : (line : Line) → In line (first_table d).lines → (i : ℕ) × (i < length d.rows) × (line ≡ first_line d i (get_or d.rows i []) (get_or d.rights i (pos 0)))
  first_is line h =
      let f = first_member d 0 d.rows d.rights line h in
      let none : 0 + f.i ≡ f.i = omega arith in
      (f.i, f.below, f.is ∙ ap (λ k. first_line d k (get_or d.rows f.i []) (get_or d.rights f.i (pos 0))) none)

  row_length : (i : ℕ) → i < length d.rows → length (get_or d.rows i []) ≡ length d.costs
  row_length i h = rows_fit i [] h

  line_length : (i : ℕ) → i < length d.rows → length (first_line d i (get_or d.rows i []) (get_or d.rights i (pos 0))).entries ≡ width d + 2
  line_length i h = parts_length (length d.costs) (length d.rows) (get_or d.rows i []) (unit_row (length d.rows) i) (pos 0 ∷ get_or d.rights i (pos 0) ∷ []) (row_length i h) (length-unit_row (length d.rows) i)

  line_slack : (i k : ℕ) → i < length d.rows → k < length d.rows → entry (first_line d i (get_or d.rows i []) (get_or d.rights i (pos 0))).entries (length d.costs + k) ≡ entry (unit_row (length d.rows) i) k
  line_slack i k h g = part_slack (length d.costs) (length d.rows) (get_or d.rows i []) (unit_row (length d.rows) i) (pos 0 ∷ get_or d.rights i (pos 0) ∷ []) (row_length i h) (length-unit_row (length d.rows) i) k g

  line_tail : (i k : ℕ) → i < length d.rows → entry (first_line d i (get_or d.rows i []) (get_or d.rights i (pos 0))).entries (width d + k) ≡ entry (pos 0 ∷ get_or d.rights i (pos 0) ∷ []) k
  line_tail i k h = part_tail (length d.costs) (length d.rows) (get_or d.rows i []) (unit_row (length d.rows) i) (pos 0 ∷ get_or d.rights i (pos 0) ∷ []) (row_length i h) (length-unit_row (length d.rows) i) k

  negated_length : length (map neg_ℤ d.costs) ≡ length d.costs
  negated_length = length-map d.costs neg_ℤ

  objective_slack : (k : ℕ) → k < length d.rows → entry (first_objective d) (length d.costs + k) ≡ pos 0
  objective_slack k h =
      part_slack (length d.costs) (length d.rows) (map neg_ℤ d.costs) (replicate (length d.rows) (pos 0)) (pos 1 ∷ pos 0 ∷ []) negated_length (length-replicate (length d.rows) (pos 0)) k h
      ∙ entry-replicate (length d.rows) k

  objective_tail : (k : ℕ) → entry (first_objective d) (width d + k) ≡ entry (pos 1 ∷ pos 0 ∷ []) k
  objective_tail k = part_tail (length d.costs) (length d.rows) (map neg_ℤ d.costs) (replicate (length d.rows) (pos 0)) (pos 1 ∷ pos 0 ∷ []) negated_length (length-replicate (length d.rows) (pos 0)) k

  at_width : (row : List ℤ) → entry row (width d + 0) ≡ entry row (width d)
  at_width row = (let e : width d + 0 ≡ width d = omega arith in ap (λ k. entry row k) e)

  -- a fact of each line of table 0 that is proved for the line of each row
  pub each_first : (P : Line → Type 0) → ((i : ℕ) → i < length d.rows → P (first_line d i (get_or d.rows i []) (get_or d.rights i (pos 0)))) → (line : Line) → In line (first_table d).lines → P line
  each_first P h line m = (let f = first_is line m in subst P (sym f.2) (h f.0 f.1))

  -- a line's own entry is 1
  pub first_own : (line : Line) → In line (first_table d).lines → entry line.entries line.basic ≡ pos 1
  first_own = each_first (λ l. entry l.entries l.basic ≡ pos 1) (λ i h. line_slack i i h h ∙ unit_row_here (length d.rows) i h)

  first_others : (line other : Line) → In line (first_table d).lines → In other (first_table d).lines → line.basic ≢ other.basic → entry other.entries line.basic ≡ pos 0
  first_others line other m n =
      each_first (λ l. l.basic ≢ other.basic → entry other.entries l.basic ≡ pos 0)
      (λ i h. each_first (λ o. length d.costs + i ≢ o.basic → entry o.entries (length d.costs + i) ≡ pos 0)
      (λ k g apart. line_slack k i g h ∙ unit_row_other (length d.rows) k i (λ e. apart (ap (λ x. length d.costs + x) (sym e))))
      other n)
      line m

  pub first_tableau : IsTableau (width d) (first_table d)
  first_tableau = record {
    lengths = each_first (λ l. length l.entries ≡ width d + 2) line_length;
    objective_length = parts_length (length d.costs) (length d.rows) (map neg_ℤ d.costs) (replicate (length d.rows) (pos 0)) (pos 1 ∷ pos 0 ∷ []) negated_length (length-replicate (length d.rows) (pos 0));
    within = each_first (λ l. l.basic < width d) (λ i h. omega arith);
    distinct = first_distinct d 0 d.rows d.rights;
    own = each_first (λ l. pos 0 <ℤ entry l.entries l.basic)
        (λ i h. omega (arith, ints, line_slack i i h h, unit_row_here (length d.rows) i h));
    others = first_others;
    reduced = each_first (λ l. entry (first_objective d) l.basic ≡ pos 0) (λ i h. objective_slack i h);
    no_objective = each_first (λ l. entry l.entries (width d) ≡ pos 0) (λ i h. sym (at_width (first_line d i (get_or d.rows i []) (get_or d.rights i (pos 0))).entries) ∙ line_tail i 0 h);
    denominator = omega (arith, ints, objective_tail 0, at_width (first_objective d));
    rights = each_first (λ l. pos 0 ≤ℤ entry l.entries (width d + 1)) (λ i h. omega (arith, ints, line_tail i 1 h, rights_above i (pos 0) (omega arith)));
    value = omega (arith, ints, objective_tail 1);
  }

-- the line of each row is in table 0
first_In_from : (d : RowsData) (number : ℕ) (rows : List (List ℤ)) (rights : List ℤ) (i : ℕ) → i < length rows → i < length rights → In (first_line d (number + i) (get_or rows i []) (get_or rights i (pos 0))) (lines_from d number rows rights)
first_In_from d number [] rights i h g = absurd (omega arith)
first_In_from d number (row ∷ rows) [] i h g = absurd (omega arith)
first_In_from d number (row ∷ rows) (right ∷ rights) zero h g =
    (let e : number + 0 ≡ number = omega arith in inl (ap (λ k. first_line d k row right) e))
first_In_from d number (row ∷ rows) (right ∷ rights) (suc i) h g =
    let e : suc number + i ≡ number + suc i = omega arith in
    inr (subst (λ k. In (first_line d k (get_or rows i []) (get_or rights i (pos 0))) (lines_from d (suc number) rows rights)) e
    (first_In_from d (suc number) rows rights i (omega arith) (omega arith)))

pub first_In : (d : RowsData) (i : ℕ) → i < length d.rows → i < length d.rights → In (first_line d i (get_or d.rows i []) (get_or d.rights i (pos 0))) (first_table d).lines
first_In d i h g =
    let e : 0 + i ≡ i = omega arith in
    subst (λ k. In (first_line d k (get_or d.rows i []) (get_or d.rights i (pos 0))) (lines_from d 0 d.rows d.rights)) e
    (first_In_from d 0 d.rows d.rights i h g)
