-- What one table leads to.
use Rattle.std.proofs.Common.{◌≡◌, ℕ, zero, suc, ◌+◌, ◌-◌, ◌<◌, ◌≤◌, Bool, true, false, cond, List, [], ◌∷◌, ◌++◌, length, get_or, take, ℤ, pos, ◌≤ℤ◌, ◌<ℤ◌, refl, sym, ap, ◌∙◌, subst, arith, rules, inl, inr, append_assoc, ◌==◌, ◌≢◌, map}
use Rattle.std.specs.Prelude.{IsTrue, All, Option, Some, None, Result, Ok, Err, int_lt}
use Rattle.std.specs.List.{list_any, flat_map, position_from}
use Rattle.std.proofs.lemmas.Int.{ints}
use Rattle.std.proofs.lemmas.Bool.{false≢true}
use Rattle.std.proofs.Math.Nat.{eq-or-lt_of_le}
use Rattle.std.proofs.lemmas.Iterator.Adapters.{position_from-zero}
use Rattle.std.proofs.lemmas.List.Folds.{list_any_at}
use Rattle.whole_rows.specs.Row.{first_negative_of}
use Rattle.whole_rows.specs.Rows.{RowsData, AreRows}
use Rattle.whole_rows.specs.declared.row.RowFault.{RowFault}
use Rattle.whole_rows.specs.declared.row.RowFault.TheVariants.{Wide, Memory}
use Rattle.whole_simplex.specs.declared.line.Line.{Line}
use Rattle.whole_simplex.specs.declared.SolveFault.{SolveFault}
use Rattle.whole_simplex.specs.declared.Optimum.{Optimum}
use Rattle.whole_simplex.specs.declared.SolveFault.TheVariants.{Pivots, Unbounded, Wide as WideAt}
use Rattle.whole_simplex.specs.Faults.{IsFaultOf, IsAt, TurnsTable, FindsDirection, Pivots as PivotsLines, fault_of, ratio_fault_of}
use Rattle.whole_simplex.specs.Outcome.{Pair, Outcome, Limit, TooWide, Direction, AreNarrow, HasWide, is_wide, leaving_pairs, line_pairs, elimination_pairs, pivot_pairs, ray_pairs, ray_of, ray_outcome, optimal_outcome, outcome_of_entering, outcome_of_leaving, outcome_from, SaysOutcome}
use Rattle.whole_simplex.specs.Tables.{entry, width, entering, leaving, after_entering, after_leaving, pivoted, pivoted_line, eliminated, table_at, lesser_of, AreDistinct}
use Rattle.whole_simplex.proofs.FaultLemmas.{fault_right}
use Rattle.whole_simplex.proofs.Integers.{le_of_lt}
use Rattle.whole_simplex.proofs.Leaving.{none_by_test}
use Rattle.whole_simplex.proofs.Members.{In}
use Rattle.whole_simplex.proofs.Pairs.{narrow_append, wide_left}
use Rattle.whole_simplex.proofs.Chain.{table_equal}
use Rattle.whole_simplex.proofs.Entering.{entering-some}
use Rattle.whole_simplex.proofs.Tableau.{IsTableau}
use Rattle.std.proofs.lemmas.Bool.Decides.{nat_tests}

-- ---- the entering place is the first negative one of the whole row

none_negative : (start : ℕ) (row : List ℤ) → ((k : ℕ) → k < length row → pos 0 ≤ℤ entry row k) → position_from (λ x. int_lt x (pos 0)) start row ≡ None
none_negative start [] h = refl
none_negative start (x ∷ row) h =
    let here : int_lt x (pos 0) ≡ false = not_below x (h 0 (omega arith)) in
    rw here (none_negative (start + 1) row (λ k below. h (suc k) (omega arith)))
  where
    not_below : (z : ℤ) → pos 0 ≤ℤ z → int_lt z (pos 0) ≡ false
    not_below z g = grind (arith, ints)

position_of_take : (start w : ℕ) (row : List ℤ) → ((k : ℕ) → w ≤ k → k < length row → pos 0 ≤ℤ entry row k) → position_from (λ x. int_lt x (pos 0)) start (take w row) ≡ position_from (λ x. int_lt x (pos 0)) start row
position_of_take start zero row h = sym (none_negative start row (λ k below. h k (omega arith) below))
position_of_take start (suc w) [] h = refl
position_of_take start (suc w) (x ∷ row) h =
    ap (λ o. cond (int_lt x (pos 0)) (Some start) o) (position_of_take (start + 1) w row (λ k above below. h (suc k) (omega arith) (omega arith)))

pub entering_whole : (w : ℕ) (objective : List ℤ) → length objective ≡ w + 2 → pos 0 <ℤ entry objective w → pos 0 ≤ℤ entry objective (w + 1) → first_negative_of objective ≡ entering w objective
entering_whole w objective long denominator value =
    position_from-zero (λ x. int_lt x (pos 0)) objective
    ∙ sym (position_of_take 0 w objective (λ k above below. at k above below))
    ∙ sym (position_from-zero (λ x. int_lt x (pos 0)) (take w objective))
  where
    at : (k : ℕ) → w ≤ k → k < length objective → pos 0 ≤ℤ entry objective k
    at k above below = elim (eq-or-lt_of_le above) [
      | inl e ↦ subst (λ n. pos 0 ≤ℤ entry objective n) e (le_of_lt (entry objective w) denominator)
      | inr l ↦ (let next : w + 1 ≡ k = omega arith in subst (λ n. pos 0 ≤ℤ entry objective n) next value)
    ]

-- ---- facts of each line, by places

in_place : (lines : List Line) (k : ℕ) (d : Line) → k < length lines → In (get_or lines k d) lines
in_place [] k d h = absurd (omega arith)
in_place (line ∷ lines) zero d h = inl refl
in_place (line ∷ lines) (suc k) d h = inr (in_place lines k d (omega arith))

pub each_line : (P : Line → Type 0) (lines : List Line) → ((line : Line) → In line lines → P line) → All P lines
each_line P lines h = λ k d below. h (get_or lines k d) (in_place lines k d below)

-- ---- a table and its outcome

module _ (d : RowsData) (left number : ℕ) where
  from_entering : (o : Option ℕ) → entering (width d) (table_at d number).objective ≡ o → (Q : Outcome → Type 0) → ((otherwise : ℕ → Line → Outcome) → Q (outcome_of_entering d number (table_at d number) otherwise o)) → Q (outcome_from d left number)
  from_entering o e Q h = by_left left
    where
      by_left : (n : ℕ) → Q (outcome_from d n number)
      by_left zero = subst (λ p. Q (outcome_of_entering d number (table_at d number) (λ place pivot. Limit) p)) (sym e) (h (λ place pivot. Limit))
      by_left (suc n) =
          subst (λ p. Q (outcome_of_entering d number (table_at d number) (λ place pivot. cond (list_any is_wide (pivot_pairs (width d) place pivot (table_at d number))) (TooWide number (pivot_pairs (width d) place pivot (table_at d number))) (outcome_from d n (suc number))) p)) (sym e)
          (h (λ place pivot. cond (list_any is_wide (pivot_pairs (width d) place pivot (table_at d number))) (TooWide number (pivot_pairs (width d) place pivot (table_at d number))) (outcome_from d n (suc number))))

  pub turn_optimal : entering (width d) (table_at d number).objective ≡ None → outcome_from d left number ≡ optimal_outcome d number (table_at d number).objective
  turn_optimal e = from_entering None e (λ o. o ≡ optimal_outcome d number (table_at d number).objective) (λ otherwise. refl)

  pub turn_ray : (place : ℕ) → entering (width d) (table_at d number).objective ≡ Some place → leaving (width d) place (table_at d number).lines ≡ None → outcome_from d left number ≡ ray_outcome d number place (table_at d number).lines
  turn_ray place e f =
      from_entering (Some place) e (λ o. o ≡ ray_outcome d number place (table_at d number).lines)
      (λ otherwise. ap (λ o. outcome_of_leaving d number place (table_at d number).lines otherwise o) f)

  -- what a pivot leads to
  pub turn_pivot : (place : ℕ) (pivot : Line) → entering (width d) (table_at d number).objective ≡ Some place → leaving (width d) place (table_at d number).lines ≡ Some pivot → (left ≡ 0 → outcome_from d left number ≡ Limit) × (0 < left → outcome_from d left number ≡ cond (list_any is_wide (pivot_pairs (width d) place pivot (table_at d number))) (TooWide number (pivot_pairs (width d) place pivot (table_at d number))) (outcome_from d (left - 1) (number + 1)))
  turn_pivot place pivot e f = (at_limit left, on left)
    where
      with : (otherwise : ℕ → Line → Outcome) → outcome_of_entering d number (table_at d number) otherwise (entering (width d) (table_at d number).objective) ≡ otherwise place pivot
      with otherwise = ap (λ o. outcome_of_entering d number (table_at d number) otherwise o) e ∙ ap (λ o. outcome_of_leaving d number place (table_at d number).lines otherwise o) f

      at_limit : (n : ℕ) → n ≡ 0 → outcome_from d n number ≡ Limit
      at_limit zero h = with (λ p q. Limit)
      at_limit (suc n) h = absurd (omega arith)

      on : (n : ℕ) → 0 < n → outcome_from d n number ≡ cond (list_any is_wide (pivot_pairs (width d) place pivot (table_at d number))) (TooWide number (pivot_pairs (width d) place pivot (table_at d number))) (outcome_from d (n - 1) (number + 1))
      on zero h = absurd (omega arith)
      on (suc n) h =
          let less : n ≡ suc n - 1 = omega arith in
          let more : suc number ≡ number + 1 = omega arith in
          with (λ p q. cond (list_any is_wide (pivot_pairs (width d) p q (table_at d number))) (TooWide number (pivot_pairs (width d) p q (table_at d number))) (outcome_from d n (suc number)))
          ∙ ap (λ m. cond (list_any is_wide (pivot_pairs (width d) place pivot (table_at d number))) (TooWide number (pivot_pairs (width d) place pivot (table_at d number))) (outcome_from d m (suc number))) less
          ∙ ap (λ m. cond (list_any is_wide (pivot_pairs (width d) place pivot (table_at d number))) (TooWide number (pivot_pairs (width d) place pivot (table_at d number))) (outcome_from d (suc n - 1) m)) more

-- ---- the answers

-- an outcome with pairs, of which one is wide
says_wide : (d : RowsData) (limit number : ℕ) (pairs : List Pair) (otherwise : Outcome) (fault : RowFault) → IsFaultOf pairs fault → SaysOutcome d limit (cond (list_any is_wide pairs) (TooWide number pairs) otherwise) (Err (fault_of number fault))
says_wide d limit number pairs otherwise Memory h = memory (cond (list_any is_wide pairs) (TooWide number pairs) otherwise)
  where
    memory : (o : Outcome) → SaysOutcome d limit o (Err (fault_of number Memory))
    memory o = tt
says_wide d limit number pairs otherwise (Wide a b) h = by_test (list_any is_wide pairs) (list_any_at is_wide pairs h.1.0 h.0 h.1.1 (ap is_wide h.1.2 ∙ true_of h.3))
  where
    true_of : {t : Bool} → IsTrue t → t ≡ true
    true_of h = search (rules, h)

    by_test : (t : Bool) → t ≡ true → SaysOutcome d limit (cond t (TooWide number pairs) otherwise) (Err (fault_of number (Wide a b)))
    by_test true e = (refl, h)
    by_test false e = absurd (false≢true e)

narrow_goes : (number : ℕ) (pairs : List Pair) (otherwise : Outcome) → AreNarrow pairs → cond (list_any is_wide pairs) (TooWide number pairs) otherwise ≡ otherwise
narrow_goes number pairs otherwise h = ap (λ t. cond t (TooWide number pairs) otherwise) h

pub says_direction : (d : RowsData) (columns number place : ℕ) (lines : List Line) (ray : List ℤ) → columns ≡ length d.costs → FindsDirection columns place lines (Ok ray) → (limit : ℕ) → SaysOutcome d limit (ray_outcome d number place lines) (Err (Unbounded ray))
says_direction d columns number place lines ray e h limit =
    let f : FindsDirection (length d.costs) place lines (Ok ray) = subst (λ n. FindsDirection n place lines (Ok ray)) e h in
    subst (λ o. SaysOutcome d limit o (Err (Unbounded ray))) (sym (narrow_goes number (ray_pairs (length d.costs) place lines) (Direction (ray_of (length d.costs) place lines)) f.1)) f.0

pub says_direction_wide : (d : RowsData) (columns number place : ℕ) (lines : List Line) (fault : RowFault) → columns ≡ length d.costs → FindsDirection columns place lines (Err fault) → (limit : ℕ) → SaysOutcome d limit (ray_outcome d number place lines) (Err (fault_of number fault))
says_direction_wide d columns number place lines fault e h limit =
    says_wide d limit number (ray_pairs (length d.costs) place lines) (Direction (ray_of (length d.costs) place lines)) fault
    (subst (λ n. FindsDirection n place lines (Err fault)) e h)

-- a line of a tableau for each fact
module _ (d : RowsData) (r : AreRows d) (number : ℕ) (lines : List Line) (objective : List ℤ) (at : IsAt d number lines objective) where
  tableau : IsTableau (width d) (table_at d number)
  tableau = (table_equal d number r).tableau

  pub lines_long : All (λ line. length line.entries ≡ width d + 2) lines
  lines_long = subst (λ l. All (λ line. length line.entries ≡ width d + 2) l) (sym at.lines_are) (each_line (λ line. length line.entries ≡ width d + 2) (table_at d number).lines tableau.lengths)

  pub objective_long : length objective ≡ width d + 2
  objective_long = ap length at.objective_is ∙ tableau.objective_length

  pub lines_same : All (λ line. length line.entries ≡ length objective) lines
  lines_same = λ k e below. lines_long k e below ∙ sym objective_long

  pub lines_within : All (λ line. line.basic < length line.entries) lines
  lines_within =
      subst (λ l. All (λ line. line.basic < length line.entries) l) (sym at.lines_are)
      (each_line (λ line. line.basic < length line.entries) (table_at d number).lines
      (λ line m. (let w = tableau.within line m in let long = tableau.lengths line m in omega arith)))

  pub lines_own : All (λ line. pos 0 <ℤ entry line.entries line.basic) lines
  lines_own = subst (λ l. All (λ line. pos 0 <ℤ entry line.entries line.basic) l) (sym at.lines_are) (each_line (λ line. pos 0 <ℤ entry line.entries line.basic) (table_at d number).lines tableau.own)

  pub lines_distinct : AreDistinct lines
  lines_distinct = subst AreDistinct (sym at.lines_are) tableau.distinct

  pub objective_denominator : pos 0 <ℤ entry objective (width d)
  objective_denominator = subst (λ o. pos 0 <ℤ entry o (width d)) (sym at.objective_is) tableau.denominator

  pub objective_value : pos 0 ≤ℤ entry objective (width d + 1)
  objective_value = subst (λ o. pos 0 ≤ℤ entry o (width d + 1)) (sym at.objective_is) tableau.value

  pub enters_whole : first_negative_of objective ≡ entering (width d) (table_at d number).objective
  enters_whole = entering_whole (width d) objective objective_long objective_denominator objective_value ∙ ap (λ o. entering (width d) o) at.objective_is

  pub enters_within : (place : ℕ) → entering (width d) (table_at d number).objective ≡ Some place → place < width d
  enters_within place e = (entering-some (width d) (table_at d number).objective place e).0

  pub place_within : (place : ℕ) → entering (width d) (table_at d number).objective ≡ Some place → All (λ line. place < length line.entries) lines
  place_within place e = λ k x below. (let long = lines_long k x below in let w = enters_within place e in omega arith)

  -- the answers of one turn
  pub says_optimal : (left : ℕ) (answer : Result Optimum SolveFault) → first_negative_of objective ≡ None → ((limit : ℕ) → SaysOutcome d limit (optimal_outcome d number objective) answer) → SaysOutcome d (number + left) (outcome_from d left number) answer
  says_optimal left answer e h =
      subst (λ o. SaysOutcome d (number + left) o answer) (sym (turn_optimal d left number (sym enters_whole ∙ e)))
      (subst (λ o. SaysOutcome d (number + left) (optimal_outcome d number o) answer) at.objective_is (h (number + left)))

  pub says_ray : (left place : ℕ) (answer : Result Optimum SolveFault) → entering (width d) (table_at d number).objective ≡ Some place → leaving (width d) place lines ≡ None → ((limit : ℕ) → SaysOutcome d limit (ray_outcome d number place lines) answer) → SaysOutcome d (number + left) (outcome_from d left number) answer
  says_ray left place answer e f h =
      subst (λ o. SaysOutcome d (number + left) o answer) (sym (turn_ray d left number place e (ap (λ l. leaving (width d) place l) (sym at.lines_are) ∙ f)))
      (subst (λ l. SaysOutcome d (number + left) (ray_outcome d number place l) answer) at.lines_are (h (number + left)))

  leaves_table : (place : ℕ) (pivot : Line) → leaving (width d) place lines ≡ Some pivot → leaving (width d) place (table_at d number).lines ≡ Some pivot
  leaves_table place pivot f = ap (λ l. leaving (width d) place l) (sym at.lines_are) ∙ f

  pub says_limit : (left place : ℕ) (pivot : Line) → entering (width d) (table_at d number).objective ≡ Some place → leaving (width d) place lines ≡ Some pivot → left ≡ 0 → SaysOutcome d (number + left) (outcome_from d left number) (Err (Pivots number))
  says_limit left place pivot e f h =
      subst (λ o. SaysOutcome d (number + left) o (Err (Pivots number))) (sym ((turn_pivot d left number place pivot e (leaves_table place pivot f)).0 h)) (omega arith)

  -- the pairs of a pivot are those of the ratios, then those of the rows
  pairs_are : (place : ℕ) (pivot : Line) → pivot_pairs (width d) place pivot (table_at d number) ≡ leaving_pairs (width d) place None lines ++ (flat_map (line_pairs place pivot) lines ++ elimination_pairs place pivot.entries objective)
  pairs_are place pivot =
      append_assoc (leaving_pairs (width d) place None (table_at d number).lines) (flat_map (line_pairs place pivot) (table_at d number).lines) (elimination_pairs place pivot.entries (table_at d number).objective)
      ∙ ap (λ l. leaving_pairs (width d) place None l ++ (flat_map (line_pairs place pivot) l ++ elimination_pairs place pivot.entries (table_at d number).objective)) (sym at.lines_are)
      ∙ ap (λ o. leaving_pairs (width d) place None lines ++ (flat_map (line_pairs place pivot) lines ++ elimination_pairs place pivot.entries o)) (sym at.objective_is)

  pub says_too_wide : (left place : ℕ) (pivot : Line) (fault : RowFault) → entering (width d) (table_at d number).objective ≡ Some place → leaving (width d) place lines ≡ Some pivot → 0 < left → IsFaultOf (leaving_pairs (width d) place None lines ++ (flat_map (line_pairs place pivot) lines ++ elimination_pairs place pivot.entries objective)) fault → SaysOutcome d (number + left) (outcome_from d left number) (Err (fault_of number fault))
  says_too_wide left place pivot fault e f h k =
      subst (λ o. SaysOutcome d (number + left) o (Err (fault_of number fault))) (sym ((turn_pivot d left number place pivot e (leaves_table place pivot f)).1 h))
      (says_wide d (number + left) number (pivot_pairs (width d) place pivot (table_at d number)) (outcome_from d (left - 1) (number + 1)) fault
      (subst (λ pairs. IsFaultOf pairs fault) (sym (pairs_are place pivot)) k))

  pub says_pivot_wide : (left place : ℕ) (pivot : Line) (fault : RowFault) → entering (width d) (table_at d number).objective ≡ Some place → leaving (width d) place lines ≡ Some pivot → 0 < left → IsFaultOf (flat_map (line_pairs place pivot) lines ++ elimination_pairs place pivot.entries objective) fault → SaysOutcome d (number + left) (outcome_from d left number) (Err (fault_of number fault))
  says_pivot_wide left place pivot fault e f h k =
      says_too_wide left place pivot fault e f h (fault_right (leaving_pairs (width d) place None lines) (flat_map (line_pairs place pivot) lines ++ elimination_pairs place pivot.entries objective) fault k)

  pub turns_on : (left place : ℕ) (pivot : Line) (new : List Line) (row : List ℤ) → entering (width d) (table_at d number).objective ≡ Some place → leaving (width d) place lines ≡ Some pivot → 0 < left → AreNarrow (leaving_pairs (width d) place None lines) → PivotsLines place pivot (record { lines = lines; objective = objective }) (record { lines = new; objective = row }) (Ok tt) → TurnsTable d number left new row None
  turns_on left place pivot new row e f h narrow p =
      let step : table_at d (suc number) ≡ pivoted place pivot (table_at d number) =
      ap (λ o. after_entering (width d) (table_at d number) o) e ∙ ap (λ o. after_leaving place (table_at d number) o) (leaves_table place pivot f) in
      let one : suc number ≡ number + 1 = omega arith in
      let next : table_at d (number + 1) ≡ pivoted place pivot (table_at d number) = ap (λ n. table_at d n) (sym one) ∙ step in
      let all : AreNarrow (pivot_pairs (width d) place pivot (table_at d number)) =
      subst AreNarrow (sym (pairs_are place pivot)) (narrow_append (leaving_pairs (width d) place None lines) (flat_map (line_pairs place pivot) lines ++ elimination_pairs place pivot.entries objective) narrow p.2) in (
        h,
        record {
          lines_are = p.0 ∙ ap (λ l. map (pivoted_line place pivot) l) at.lines_are ∙ sym (ap (λ t. t.lines) next);
          objective_is = p.1 ∙ ap (λ o. eliminated place pivot.entries o) at.objective_is ∙ sym (ap (λ t. t.objective) next);
        },
        (turn_pivot d left number place pivot e (leaves_table place pivot f)).1 h ∙ narrow_goes number (pivot_pairs (width d) place pivot (table_at d number)) (outcome_from d (left - 1) (number + 1)) all,
      )

  -- ---- ratios that are too wide

  -- where no line leaves, no ratios are compared
  none_compared : (place : ℕ) (ls : List Line) → leaving (width d) place ls ≡ None → leaving_pairs (width d) place None ls ≡ []
  none_compared place [] h = refl
  none_compared place (first ∷ rest) h =
      let parts = none_by_test (width d) place first rest (int_lt (pos 0) (entry first.entries place)) refl h in
      ap (λ o. leaving_pairs (width d) place o rest) (stays parts.0) ∙ none_compared place rest parts.1
    where
      not_above : (x : ℤ) → x ≤ℤ pos 0 → int_lt (pos 0) x ≡ false
      not_above x g = grind (arith, ints)

      stays : entry first.entries place ≤ℤ pos 0 → lesser_of (width d) place None first ≡ None
      stays g = ap (λ t. cond t (Some first) None) (not_above (entry first.entries place) g)

  some_leaves : (place : ℕ) (a b : ℤ) (o : Option Line) → leaving (width d) place lines ≡ o → HasWide (leaving_pairs (width d) place None lines) a b → (pivot : Line) × (leaving (width d) place lines ≡ Some pivot)
  some_leaves place a b None e h =
      let none : leaving_pairs (width d) place None lines ≡ [] = none_compared place lines e in
      let empty : HasWide [] a b = subst (λ pairs. HasWide pairs a b) none h in
      absurd (let below = empty.1.1 in omega arith)
  some_leaves place a b (Some pivot) e h = (pivot, e)

  pub says_ratio : (left place : ℕ) (fault : RowFault) → entering (width d) (table_at d number).objective ≡ Some place → IsFaultOf (leaving_pairs (width d) place None lines) fault → SaysOutcome d (number + left) (outcome_from d left number) (Err (ratio_fault_of number left fault))
  says_ratio left place Memory e h = memory (outcome_from d left number)
    where
      memory : (o : Outcome) → SaysOutcome d (number + left) o (Err (ratio_fault_of number left Memory))
      memory o = tt
  says_ratio left place (Wide a b) e h =
      let some = some_leaves place a b (leaving (width d) place lines) refl h in
      by_left some.0 some.1 (left == 0) refl
    where
      by_left : (pivot : Line) → leaving (width d) place lines ≡ Some pivot → (t : Bool) → (left == 0) ≡ t → SaysOutcome d (number + left) (outcome_from d left number) (Err (cond t (Pivots number) (WideAt number a b)))
      by_left pivot f true g = says_limit left place pivot e f (grind (arith, nat_tests))
      by_left pivot f false g =
          let more : left ≢ 0 = grind (arith, nat_tests) in
          says_too_wide left place pivot (Wide a b) e f (omega arith)
          (wide_left (leaving_pairs (width d) place None lines) (flat_map (line_pairs place pivot) lines ++ elimination_pairs place pivot.entries objective) a b h)
