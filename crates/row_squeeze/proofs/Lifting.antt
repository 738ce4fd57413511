-- Lifted multipliers: the sum over a left column is exactly the denominator times its cost, so they cover all columns.
use Rattle.std.proofs.Common.{◌≡◌, ◌≢◌, ℕ, zero, suc, ◌<◌, Bool, true, false, cond, List, [], ◌∷◌, map, length, get_or, set, ℤ, pos, negsuc, ◌+ℤ◌, ◌*ℤ◌, ◌≤ℤ◌, unsigned_abs, Option, Some, None, Ok, Err, All, refl, sym, ap, ◌∙◌, subst, inl, inr, ◌⊎◌, arith}
use Rattle.std.proofs.lemmas.Bool.{cases_eq}
use Rattle.std.proofs.lemmas.Int.{ints}
use Rattle.std.proofs.lemmas.List.{length-map, length-set}
use Rattle.std.proofs.lemmas.List.Elements.{All-nil, All-cons, All-head, All-tail, All-set}
use Rattle.whole_rows.specs.Rows.{RowsData, entry_at, cost_at, column_of, column_sum}
use Rattle.whole_simplex.specs.Answers.{IsSmall}
use Rattle.whole_simplex.specs.Outcome.{is_large}
use Rattle.row_squeeze.specs.declared.Link.{Link}
use Rattle.row_squeeze.specs.Links.{HasLink, AreLinks}
use Rattle.row_squeeze.specs.Squeezed.{kept}
use Rattle.row_squeeze.specs.Lift.{unlifted, outgoing_at, outgoing_of, lifted_value, lifted, lifted_of, lift_order}
use Rattle.row_squeeze.proofs.Products.{zero_times, one_times, sum_set}
use Rattle.row_squeeze.proofs.Kept.{kept-unlifted, unlifted-length}
use Rattle.row_squeeze.proofs.Points.{has_row}
use Rattle.row_squeeze.proofs.Value.{column-at, abs-set, value-not_negative, not_large}
use Rattle.row_squeeze.proofs.Order.{In, onto, ComesNow, AreInOrder, lift_order-order}

-- ---- multipliers of which some rows are lifted

pub record AreLifted (d : RowsData) (links : List (Option Link)) (denominator : ℤ) (given : List ℤ) (done : List ℕ) (ms : List ℤ) : Type 0 where
  pub counted : length ms ≡ length d.rows
  pub small : All IsSmall ms
  pub kept_same : kept links ms ≡ given
  pub met : (row : ℕ) (link : Link) → In row done → HasLink links row link → column_sum d (map unsigned_abs ms) link.outgoing ≡ denominator *ℤ cost_at d link.outgoing
  pub backward : (row other : ℕ) (a b : Link) → HasLink links row a → HasLink links other b → a.incoming ≡ b.outgoing → In other done → In row done

kept-set : (links : List (Option Link)) (ms : List ℤ) (row : ℕ) (link : Link) (v : ℤ) → HasLink links row link → kept links (set ms row v) ≡ kept links ms
kept-set [] ms row link v has = refl
kept-set (first ∷ links) [] row link v has = refl
kept-set (None ∷ links) (m ∷ ms) zero link v has = cc
kept-set (Some other ∷ links) (m ∷ ms) zero link v has = refl
kept-set (None ∷ links) (m ∷ ms) (suc row) link v has = ap (λ ns. m ∷ ns) (kept-set links ms row link v has)
kept-set (Some other ∷ links) (m ∷ ms) (suc row) link v has = kept-set links ms row link v has

-- ---- the sums over columns, once one multiplier is lifted

-- the sum over a column with one multiplier changed
sum-changed : (d : RowsData) (ms : List ℤ) (row column : ℕ) (v : ℤ) → row < length ms → column_sum d (map unsigned_abs (set ms row v)) column +ℤ entry_at d row column *ℤ pos (get_or (map unsigned_abs ms) row 0) ≡ column_sum d (map unsigned_abs ms) column +ℤ entry_at d row column *ℤ pos (unsigned_abs v)
sum-changed d ms row column v h =
    rw (abs-set, ← column-at) (sum_set (column_of d column) (map unsigned_abs ms) row (unsigned_abs v) (rw length-map h))

-- at the outgoing column the lifted multiplier makes the sum exact
lifted-here : (d : RowsData) (denominator : ℤ) (ms : List ℤ) (row column : ℕ) → row < length ms → entry_at d row column ≡ pos 1 → pos 0 ≤ℤ lifted_value d denominator ms row column → column_sum d (map unsigned_abs (set ms row (lifted_value d denominator ms row column))) column ≡ denominator *ℤ cost_at d column
lifted-here d denominator ms row column h one above =
    let v = lifted_value d denominator ms row column in
    let zero_sum = sum-changed d ms row column (pos 0) h in
    let next_sum = sum-changed d ms row column (lifted_value d denominator ms row column) h in
    let first = one_times (entry_at d row column) (get_or (map unsigned_abs ms) row 0) one in
    let second = one_times (entry_at d row column) (unsigned_abs (pos 0)) one in
    let third = one_times (entry_at d row column) (unsigned_abs (lifted_value d denominator ms row column)) one in
    let same : pos (unsigned_abs (lifted_value d denominator ms row column)) ≡ lifted_value d denominator ms row column = abs_of (lifted_value d denominator ms row column) above in
    omega (arith, ints)
  where
    abs_of : (z : ℤ) → pos 0 ≤ℤ z → pos (unsigned_abs z) ≡ z
    abs_of (pos n) k = refl
    abs_of (negsuc n) k = absurd (omega (arith, ints))

-- where the sum was exact before, the lifted multiplier is the one that was there
lifted-again : (d : RowsData) (denominator : ℤ) (ms : List ℤ) (row column : ℕ) → row < length ms → entry_at d row column ≡ pos 1 → column_sum d (map unsigned_abs ms) column ≡ denominator *ℤ cost_at d column → unsigned_abs (lifted_value d denominator ms row column) ≡ get_or (map unsigned_abs ms) row 0
lifted-again d denominator ms row column h one exact =
    let zero_sum = sum-changed d ms row column (pos 0) h in
    let first = one_times (entry_at d row column) (get_or (map unsigned_abs ms) row 0) one in
    let second = one_times (entry_at d row column) (unsigned_abs (pos 0)) one in
    let same : lifted_value d denominator ms row column ≡ pos (get_or (map unsigned_abs ms) row 0) = omega (arith, ints) in
    ap unsigned_abs same

-- no other column that is exact changes
lifted-there : (d : RowsData) (links : List (Option Link)) (denominator : ℤ) (given : List ℤ) (done : List ℕ) (ms : List ℤ) (row other : ℕ) (a b : Link) → AreLinks d links → AreLifted d links denominator given done ms → HasLink links row a → HasLink links other b → b.outgoing ≢ a.outgoing → In other done → column_sum d (map unsigned_abs (set ms row (lifted_value d denominator ms row a.outgoing))) b.outgoing ≡ denominator *ℤ cost_at d b.outgoing
lifted-there d links denominator given done ms row other a b are so_far has hasb n is =
    sum ∙ so_far.met other b is hasb
  where
    within : row < length ms
    within = let h = has_row links row a has in let long = are.counted in let count = so_far.counted in omega arith

    changed : column_sum d (map unsigned_abs (set ms row (lifted_value d denominator ms row a.outgoing))) b.outgoing +ℤ entry_at d row b.outgoing *ℤ pos (get_or (map unsigned_abs ms) row 0) ≡ column_sum d (map unsigned_abs ms) b.outgoing +ℤ entry_at d row b.outgoing *ℤ pos (unsigned_abs (lifted_value d denominator ms row a.outgoing))
    changed = sum-changed d ms row b.outgoing (lifted_value d denominator ms row a.outgoing) within

    by_column : (b.outgoing ≡ a.incoming) ⊎ (b.outgoing ≡ a.incoming → ⊥) → entry_at d row b.outgoing *ℤ pos (unsigned_abs (lifted_value d denominator ms row a.outgoing)) ≡ entry_at d row b.outgoing *ℤ pos (get_or (map unsigned_abs ms) row 0)
    by_column (inl e) =
        let before = so_far.backward row other a b has hasb (sym e) is in
        ap (λ (m : ℕ). entry_at d row b.outgoing *ℤ pos m) (lifted-again d denominator ms row a.outgoing within (are.each row a has).outgoing_entry (so_far.met row a before has))
    by_column (inr m) =
        let none = (are.each row a has).no_other_entry b.outgoing n m in
        zero_times (entry_at d row b.outgoing) (unsigned_abs (lifted_value d denominator ms row a.outgoing)) none ∙ sym (zero_times (entry_at d row b.outgoing) (get_or (map unsigned_abs ms) row 0) none)

    sum : column_sum d (map unsigned_abs (set ms row (lifted_value d denominator ms row a.outgoing))) b.outgoing ≡ column_sum d (map unsigned_abs ms) b.outgoing
    sum = let same = by_column (cases_eq b.outgoing a.incoming) in let sums = changed in omega (arith, ints)

-- ---- one more row

lifted-one : (d : RowsData) (links : List (Option Link)) (denominator : ℤ) (given : List ℤ) (done : List ℕ) (ms : List ℤ) (row : ℕ) (now : ComesNow links done row) → AreLinks d links → IsSmall denominator → AreLifted d links denominator given done ms → is_large (lifted_value d denominator ms row now.link.outgoing) ≡ false → AreLifted d links denominator given (row ∷ done) (set ms row (lifted_value d denominator ms row now.link.outgoing))
lifted-one d links denominator given done ms row now are small so_far large = record {
  counted = length-set ms row (lifted_value d denominator ms row now.link.outgoing) ∙ so_far.counted;
  small = All-set IsSmall ms row (lifted_value d denominator ms row now.link.outgoing) (above, not_large (lifted_value d denominator ms row now.link.outgoing) large) so_far.small;
  kept_same = kept-set links ms row now.link (lifted_value d denominator ms row now.link.outgoing) now.has ∙ so_far.kept_same;
  met = λ other b is hasb. by_column other b is hasb (cases_eq b.outgoing now.link.outgoing);
  backward = λ first other a b hasa hasb e is. by_row first other a b hasa hasb e is;
}
  where
    within : row < length ms
    within = let h = has_row links row now.link now.has in let long = are.counted in let count = so_far.counted in omega arith

    above : pos 0 ≤ℤ lifted_value d denominator ms row now.link.outgoing
    above = let is = are.each row now.link now.has in value-not_negative d denominator ms row now.link.outgoing small is.outgoing_cost within is.other_rows

    by_column : (other : ℕ) (b : Link) → In other (row ∷ done) → HasLink links other b → (b.outgoing ≡ now.link.outgoing) ⊎ (b.outgoing ≡ now.link.outgoing → ⊥) → column_sum d (map unsigned_abs (set ms row (lifted_value d denominator ms row now.link.outgoing))) b.outgoing ≡ denominator *ℤ cost_at d b.outgoing
    by_column other b is hasb (inl e) =
        rw e (lifted-here d denominator ms row now.link.outgoing within (are.each row now.link now.has).outgoing_entry above)
    by_column other b (inl e) hasb (inr n) =
        let there : HasLink links row b = ap (λ (i : ℕ). get_or links i None) e ∙ hasb in
        let has = now.has in
        let same : now.link ≡ b = same_link now.link b (sym has ∙ there) in
        absurd (n (ap (λ (l : Link). l.outgoing) (sym same)))
      where
        same_link : (a c : Link) → Some a ≡ Some c → a ≡ c
        same_link a c q = cc
    by_column other b (inr is) hasb (inr n) =
        lifted-there d links denominator given done ms row other now.link b are so_far now.has hasb n is

    by_row : (first other : ℕ) (a b : Link) → HasLink links first a → HasLink links other b → a.incoming ≡ b.outgoing → In other (row ∷ done) → In first (row ∷ done)
    by_row first other a b hasa hasb e (inl q) =
        let there : HasLink links row b = ap (λ (i : ℕ). get_or links i None) q ∙ hasb in
        let has = now.has in
        let same : now.link ≡ b = same_link now.link b (sym has ∙ there) in
        inr (now.entered first a hasa (e ∙ ap (λ (l : Link). l.outgoing) (sym same)))
      where
        same_link : (x y : Link) → Some x ≡ Some y → x ≡ y
        same_link x y p = cc
    by_row first other a b hasa hasb e (inr is) = inr (so_far.backward first other a b hasa hasb e is)

-- ---- all rows

lifted-all : (d : RowsData) (links : List (Option Link)) (denominator : ℤ) (given after : List ℤ) → AreLinks d links → IsSmall denominator → (done : List ℕ) (ms : List ℤ) (rows : List ℕ) → AreLifted d links denominator given done ms → AreInOrder links done rows → lifted d links denominator ms rows ≡ Ok after → AreLifted d links denominator given (onto done rows) after
lifted-all d links denominator given after are small done ms [] so_far order e =
    let same : ms ≡ after = cc in subst (AreLifted d links denominator given done) same so_far
lifted-all d links denominator given after are small done ms (row ∷ rows) so_far order e =
    by_test (λ next. lifted-all d links denominator given after are small (row ∷ done) (set ms row (lifted_value d denominator ms row (outgoing_at links row))) rows next order.1) (is_large (lifted_value d denominator ms row (outgoing_at links row))) refl e
  where
    by_test : (AreLifted d links denominator given (row ∷ done) (set ms row (lifted_value d denominator ms row (outgoing_at links row))) → lifted d links denominator (set ms row (lifted_value d denominator ms row (outgoing_at links row))) rows ≡ Ok after → AreLifted d links denominator given (onto (row ∷ done) rows) after) → (t : Bool) → is_large (lifted_value d denominator ms row (outgoing_at links row)) ≡ t → cond t (Err (lifted_value d denominator ms row (outgoing_at links row))) (lifted d links denominator (set ms row (lifted_value d denominator ms row (outgoing_at links row))) rows) ≡ Ok after → AreLifted d links denominator given (onto (row ∷ done) rows) after
    by_test later true is q = cc
    by_test later false is q =
        let now = order.0 in
        let out : outgoing_at links row ≡ now.link.outgoing = ap outgoing_of now.has in
        let not_so = rw out at is in
        let one = lifted-one d links denominator given done ms row now are small so_far not_so in
        later (rw out one) q

pub unlifted-small : (links : List (Option Link)) (ms : List ℤ) → All IsSmall ms → All IsSmall (unlifted links ms)
unlifted-small [] ms small = All-nil IsSmall
unlifted-small (Some link ∷ links) ms small = All-cons IsSmall (pos 0) (unlifted links ms) (omega (arith, ints), omega (arith, ints)) (unlifted-small links ms small)
unlifted-small (None ∷ links) [] small = All-cons IsSmall (pos 0) (unlifted links []) (omega (arith, ints), omega (arith, ints)) (unlifted-small links [] small)
unlifted-small (None ∷ links) (m ∷ ms) small = All-cons IsSmall m (unlifted links ms) (All-head IsSmall m ms small) (unlifted-small links ms (All-tail IsSmall m ms small))

lifted-none : (d : RowsData) (links : List (Option Link)) (denominator : ℤ) (given : List ℤ) → AreLinks d links → All IsSmall given → length given ≡ length (kept links d.rows) → AreLifted d links denominator given [] (unlifted links given)
lifted-none d links denominator given are small e = record {
  counted = unlifted-length links given ∙ are.counted;
  small = unlifted-small links given small;
  kept_same = kept-xs links given are.counted e;
  met = λ row link is has. absurd is;
  backward = λ row other a b has hasb e is. absurd is;
}
  where
    kept-xs : (ls : List (Option Link)) (ms : List ℤ) → length ls ≡ length d.rows → length ms ≡ length (kept ls d.rows) → kept ls (unlifted ls ms) ≡ ms
    kept-xs ls ms h k = kept-unlifted ls d.rows ms h k

-- the lifted multipliers keep those of the squeezed rows, and make the sum over each left column exact
pub lifted_are : (d : RowsData) (links : List (Option Link)) (denominator : ℤ) (given after : List ℤ) → AreLinks d links → IsSmall denominator → All IsSmall given → length given ≡ length (kept links d.rows) → lifted_of d links denominator given ≡ Ok after → AreLifted d links denominator given (onto [] (lift_order (length d.costs) links)) after
lifted_are d links denominator given after are small each e is =
    lifted-all d links denominator given after are small [] (unlifted links given) (lift_order (length d.costs) links) (lifted-none d links denominator given are each e) (lift_order-order d links are (length d.costs)) is
