-- The first failing condition on multipliers: Yes exactly where they are good, and what each other answer says.
use Rattle.std.proofs.Common.{◌≡◌, ℕ, zero, suc, ◌+◌, ◌*◌, ◌<◌, true, false, List, [], ◌∷◌, length, get_or, ℤ, pos, ◌*ℤ◌, ◌≤ℤ◌, ◌<ℤ◌, Some, None, refl, sym, ◌∙◌, ap, add-zero, zero-add, arith, int_le, int_lt, ◌⊎◌, inl, inr}
use Rattle.std.proofs.lemmas.Int.{ints, by_lt_z}
use Rattle.std.proofs.lemmas.Bool.{eq-eqb, ne_eqb, cases_eq}
use borrow.Author.Count.{below_more}
use Rattle.whole_rows.specs.declared.DualVerdict.{DualVerdict}
use Rattle.whole_rows.specs.declared.DualVerdict.TheVariants.{Yes, Count, Column, Bound}
use Rattle.whole_rows.specs.Rows.{RowsData, cost_at, column_sum, right_sum}
use Rattle.whole_rows.specs.Duals.{AreGood, CoversColumns, CoversBelow, IsFirstFailing, first_uncovered, first_failing_of}

-- every column from `column` on is covered, for the costs from there on
abbrev CoversFrom : RowsData → List ℕ → ℕ → ℕ → List ℤ → Type 0
CoversFrom d multipliers denominator column costs =
    (j : ℕ) → j < length costs → (pos denominator *ℤ get_or costs j (pos 0)) ≤ℤ column_sum d multipliers (column + j)

covers_next : (d : RowsData) (multipliers : List ℕ) (denominator column : ℕ) (cost : ℤ) (costs : List ℤ) → CoversFrom d multipliers denominator column (cost ∷ costs) → CoversFrom d multipliers denominator (column + 1) costs
covers_next d multipliers denominator column cost costs covers j h =
    let e : column + suc j ≡ column + 1 + j = omega arith in rw e at (covers (suc j) (omega arith))

none_from : (d : RowsData) (multipliers : List ℕ) (denominator column : ℕ) (costs : List ℤ) → CoversFrom d multipliers denominator column costs → first_uncovered d multipliers denominator column costs ≡ None
none_from d multipliers denominator column [] covers = refl
none_from d multipliers denominator column (cost ∷ costs) covers =
    let here : (pos denominator *ℤ cost) ≤ℤ column_sum d multipliers column = rw add-zero at (covers 0 (omega arith)) in
    let test : true ≡ int_le (pos denominator *ℤ cost) (column_sum d multipliers column) = omega (arith, ints) in
    rw (← test) (none_from d multipliers denominator (column + 1) costs (covers_next d multipliers denominator column cost costs covers))

some_from : (d : RowsData) (multipliers : List ℕ) (denominator column : ℕ) (costs : List ℤ) (k : ℕ) → k < length costs → ((j : ℕ) → j < k → (pos denominator *ℤ get_or costs j (pos 0)) ≤ℤ column_sum d multipliers (column + j)) → column_sum d multipliers (column + k) <ℤ (pos denominator *ℤ get_or costs k (pos 0)) → first_uncovered d multipliers denominator column costs ≡ Some (column + k)
some_from d multipliers denominator column [] k h covers short = absurd (omega arith)
some_from d multipliers denominator column (cost ∷ costs) zero h covers short =
    let e : column + 0 ≡ column = omega arith in
    let here : column_sum d multipliers column <ℤ (pos denominator *ℤ cost) = rw e at short in
    let test : false ≡ int_le (pos denominator *ℤ cost) (column_sum d multipliers column) = omega (arith, ints) in
    rw (← test) (ap Some (sym e))
some_from d multipliers denominator column (cost ∷ costs) (suc k) h covers short =
    let here : (pos denominator *ℤ cost) ≤ℤ column_sum d multipliers column = rw add-zero at (covers 0 (omega arith)) in
    let test : true ≡ int_le (pos denominator *ℤ cost) (column_sum d multipliers column) = omega (arith, ints) in
    let e : column + suc k ≡ column + 1 + k = omega arith in
    rw (← test, e) (some_from d multipliers denominator (column + 1) costs k (omega arith) (λ j l. next j l (covers (suc j) (omega arith))) (rw e at short))
  where
    next : (j : ℕ) → j < k → (pos denominator *ℤ get_or costs j (pos 0)) ≤ℤ column_sum d multipliers (column + suc j) → (pos denominator *ℤ get_or costs j (pos 0)) ≤ℤ column_sum d multipliers (column + 1 + j)
    next j l c = let e : column + suc j ≡ column + 1 + j = omega arith in rw e at c

-- where every column is covered, none is found
pub uncovered_none : (d : RowsData) (multipliers : List ℕ) (denominator : ℕ) → CoversColumns d multipliers denominator → first_uncovered d multipliers denominator 0 d.costs ≡ None
uncovered_none d multipliers denominator covers =
    none_from d multipliers denominator 0 d.costs (λ j h. rw zero-add (covers j h))

-- the first column that isn't covered is found
pub uncovered_some : (d : RowsData) (multipliers : List ℕ) (denominator column : ℕ) → column < length d.costs → ((j : ℕ) → j < column → (pos denominator *ℤ cost_at d j) ≤ℤ column_sum d multipliers j) → column_sum d multipliers column <ℤ (pos denominator *ℤ cost_at d column) → first_uncovered d multipliers denominator 0 d.costs ≡ Some column
uncovered_some d multipliers denominator column h covers short =
    some_from d multipliers denominator 0 d.costs column h (λ j l. rw zero-add (covers j l)) (rw zero-add short) ∙ ap Some (zero-add column)

-- ---- the first failing condition is the one whose answer holds of the multipliers

-- the answer that holds is the one that is computed
pub first_failing_is : (d : RowsData) (multipliers : List ℕ) (denominator bound : ℕ) (v : DualVerdict) → IsFirstFailing d multipliers denominator bound v → first_failing_of d multipliers denominator bound ≡ v
first_failing_is d multipliers denominator bound Yes good =
    let below = good.below in
    let test : true ≡ int_lt (right_sum d multipliers) (pos (denominator * (bound + 1))) = omega (arith, ints) in
    rw (eq-eqb (length multipliers) (length d.rows) good.counted, uncovered_none d multipliers denominator good.covers, ← test) refl
first_failing_is d multipliers denominator bound (Count given wanted) fails =
    rw (ne_eqb (length multipliers) (length d.rows) (λ e. fails.2 (fails.0 ∙ e ∙ sym fails.1)), fails.0, fails.1) refl
first_failing_is d multipliers denominator bound (Column column) fails =
    rw (eq-eqb (length multipliers) (length d.rows) fails.0, uncovered_some d multipliers denominator column fails.1 fails.2 fails.3) refl
first_failing_is d multipliers denominator bound Bound fails =
    let above = fails.2 in
    let test : false ≡ int_lt (right_sum d multipliers) (pos (denominator * (bound + 1))) = omega (arith, ints) in
    rw (eq-eqb (length multipliers) (length d.rows) fails.0, uncovered_none d multipliers denominator fails.1, ← test) refl

-- a column before `n` that is the first one not covered
abbrev ShortBelow : RowsData → List ℕ → ℕ → ℕ → Type 0
ShortBelow d multipliers denominator n =
    (column : ℕ) × (column < n) × CoversBelow d multipliers denominator column × (column_sum d multipliers column <ℤ (pos denominator *ℤ cost_at d column))

covers_or_short : (d : RowsData) (multipliers : List ℕ) (denominator n : ℕ) → CoversBelow d multipliers denominator n ⊎ ShortBelow d multipliers denominator n
covers_or_short d multipliers denominator zero = inl (λ j l. absurd (omega arith))
covers_or_short d multipliers denominator (suc n) = step (covers_or_short d multipliers denominator n)
  where
    step : CoversBelow d multipliers denominator n ⊎ ShortBelow d multipliers denominator n → CoversBelow d multipliers denominator (suc n) ⊎ ShortBelow d multipliers denominator (suc n)
    step (inr short) = inr (short.0, omega (arith, short.1), short.2, short.3)
    step (inl covers) =
        by_lt_z (column_sum d multipliers n) (pos denominator *ℤ cost_at d n) (λ short. inr (n, omega arith, covers, short)) (λ here. inl (λ j l. below_more (λ j. (pos denominator *ℤ cost_at d j) ≤ℤ column_sum d multipliers j) n covers here j (omega arith)))

some_answer : (d : RowsData) (multipliers : List ℕ) (denominator bound : ℕ) → (v : DualVerdict) × IsFirstFailing d multipliers denominator bound v
some_answer d multipliers denominator bound = by_count (cases_eq (length multipliers) (length d.rows))
  where
    by_bound : length multipliers ≡ length d.rows → CoversColumns d multipliers denominator → (v : DualVerdict) × IsFirstFailing d multipliers denominator bound v
    by_bound counted covers =
        by_lt_z (right_sum d multipliers) (pos (denominator * (bound + 1))) (λ below. (Yes, record { counted = counted; covers = covers; below = below })) (λ above. (Bound, (counted, covers, above)))

    by_columns : length multipliers ≡ length d.rows → CoversBelow d multipliers denominator (length d.costs) ⊎ ShortBelow d multipliers denominator (length d.costs) → (v : DualVerdict) × IsFirstFailing d multipliers denominator bound v
    by_columns counted (inl covers) = by_bound counted covers
    by_columns counted (inr short) = (Column short.0, (counted, short.1, short.2, short.3))

    by_count : (length multipliers ≡ length d.rows) ⊎ (length multipliers ≡ length d.rows → ⊥) → (v : DualVerdict) × IsFirstFailing d multipliers denominator bound v
    by_count (inl counted) = by_columns counted (covers_or_short d multipliers denominator (length d.costs))
    by_count (inr other) = (Count (length multipliers) (length d.rows), (refl, refl, other))

-- the answer that is computed holds
pub first_failing_holds : (d : RowsData) (multipliers : List ℕ) (denominator bound : ℕ) → IsFirstFailing d multipliers denominator bound (first_failing_of d multipliers denominator bound)
first_failing_holds d multipliers denominator bound =
    let answer = some_answer d multipliers denominator bound in
    rw (first_failing_is d multipliers denominator bound answer.0 answer.1) answer.1

-- Yes exactly where the multipliers are good
pub good_from_yes : (d : RowsData) (multipliers : List ℕ) (denominator bound : ℕ) → first_failing_of d multipliers denominator bound ≡ Yes → AreGood d multipliers denominator bound
good_from_yes d multipliers denominator bound e = rw e at (first_failing_holds d multipliers denominator bound)

pub yes_from_good : (d : RowsData) (multipliers : List ℕ) (denominator bound : ℕ) → AreGood d multipliers denominator bound → first_failing_of d multipliers denominator bound ≡ Yes
yes_from_good d multipliers denominator bound good = first_failing_is d multipliers denominator bound Yes good
