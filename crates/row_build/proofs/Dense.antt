-- The entries of a row that aren't 0, and the row that they are of.
use Rattle.std.proofs.Common.{◌≡◌, ◌≢◌, ℕ, zero, suc, ◌+◌, ◌<◌, ◌≤◌, Bool, true, false, cond, List, [], ◌∷◌, ◌++◌, map, length, get_or, ℤ, pos, negsuc, All, refl, sym, ◌∙◌, ap, subst, arith}
use Rattle.std.specs.List.{range_with_len, AllAdjacentBelow}
use Rattle.std.proofs.lemmas.Bool.{eq-eqb, ne_eqb, eqb-true}
use Rattle.std.proofs.lemmas.List.Elements.{All-nil, All-append, All-cons, All-head, All-tail, All-weaker}
use Rattle.whole_rows.specs.Row.{IsInRange, AreInRange, is_zero}
use Rattle.whole_rows.specs.Terms.{IsTerm, entry_of}
use Rattle.whole_rows.specs.declared.Term.{Term}
use Rattle.row_build.specs.Working.Pushed.{AreOf, terms_from}

true_false : true ≡ false → ⊥
true_false e = absurd cc

zero_from : (x : ℤ) → is_zero x ≡ true → x ≡ pos 0
zero_from (pos zero) is = refl
zero_from (pos (suc n)) is = absurd (omega (arith, eqb-true (suc n) 0 is))
zero_from (negsuc n) is = absurd (omega (arith, eqb-true (suc n) 0 is))

not_zero_from : (x : ℤ) → is_zero x ≡ false → x ≢ pos 0
not_zero_from x is e = true_false (sym (ap is_zero e) ∙ is)

-- ---- One more entry

pub terms_more : (k j : ℕ) (xs : List ℤ) (x : ℤ) → k + length xs ≡ j → terms_from k (xs ++ x ∷ []) ≡ terms_from k xs ++ terms_from j (x ∷ [])
terms_more k j [] x at = let e : k ≡ j = omega (arith, at) in ap (λ n. terms_from n (x ∷ [])) e
terms_more k j (y ∷ xs) x at = by (is_zero y) (terms_more (k + 1) j xs x (omega (arith, at)))
  where
    by : (b : Bool) → terms_from (k + 1) (xs ++ x ∷ []) ≡ terms_from (k + 1) xs ++ terms_from j (x ∷ [])
        → cond b (terms_from (k + 1) (xs ++ x ∷ [])) (record { column = k; entry = y } ∷ terms_from (k + 1) (xs ++ x ∷ []))
        ≡ cond b (terms_from (k + 1) xs) (record { column = k; entry = y } ∷ terms_from (k + 1) xs) ++ terms_from j (x ∷ [])
    by true rest = rest
    by false rest = ap (λ ts. record { column = k; entry = y } ∷ ts) rest

-- ---- The row of the terms

map-range_from : {X : Type 0} (f g : ℕ → X) (a n : ℕ) → ((i : ℕ) → a ≤ i → f i ≡ g i) → map f (range_with_len a n) ≡ map g (range_with_len a n)
map-range_from f g a zero h = refl
map-range_from f g a (suc n) h = rw (h a (omega arith), map-range_from f g (a + 1) n (λ i l. h i (omega arith))) refl

absent : (k i : ℕ) (xs : List ℤ) → i < k → entry_of (terms_from k xs) i ≡ pos 0
absent k i [] below = refl
absent k i (x ∷ xs) below = by (is_zero x) (absent (k + 1) i xs (omega (arith, below)))
  where
    by : (b : Bool) → entry_of (terms_from (k + 1) xs) i ≡ pos 0
        → entry_of (cond b (terms_from (k + 1) xs) (record { column = k; entry = x } ∷ terms_from (k + 1) xs)) i ≡ pos 0
    by true rest = rest
    by false rest = ap (λ c. cond c x (entry_of (terms_from (k + 1) xs) i)) (ne_eqb k i (λ e. absurd (omega (arith, e, below)))) ∙ rest

dense_from : (k : ℕ) (xs : List ℤ) → map (entry_of (terms_from k xs)) (range_with_len k (length xs)) ≡ xs
dense_from k [] = refl
dense_from k (x ∷ xs) = by (is_zero x) refl (dense_from (k + 1) xs)
  where
    by : (b : Bool) → is_zero x ≡ b → map (entry_of (terms_from (k + 1) xs)) (range_with_len (k + 1) (length xs)) ≡ xs
        → map (entry_of (terms_from k (x ∷ xs))) (range_with_len k (suc (length xs))) ≡ x ∷ xs
    by true is rest =
        let terms_is : terms_from k (x ∷ xs) ≡ terms_from (k + 1) xs = rw is refl in
        ap (λ ts. map (entry_of ts) (range_with_len k (suc (length xs)))) terms_is
        ∙ rw (rest, absent (k + 1) k xs (omega arith)) (ap (λ y. y ∷ xs) (sym (zero_from x is)))
    by false is rest =
        let terms_is : terms_from k (x ∷ xs) ≡ record { column = k; entry = x } ∷ terms_from (k + 1) xs = rw is refl in
        let later : map (entry_of (record { column = k; entry = x } ∷ terms_from (k + 1) xs)) (range_with_len (k + 1) (length xs)) ≡ map (entry_of (terms_from (k + 1) xs)) (range_with_len (k + 1) (length xs)) =
        map-range_from (entry_of (record { column = k; entry = x } ∷ terms_from (k + 1) xs)) (entry_of (terms_from (k + 1) xs)) (k + 1) (length xs)
        (λ i l. ap (λ c. cond c x (entry_of (terms_from (k + 1) xs) i)) (ne_eqb k i (λ e. absurd (omega (arith, e, l))))) in
        ap (λ ts. map (entry_of ts) (range_with_len k (suc (length xs)))) terms_is
        ∙ rw (later, rest, eq-eqb k k refl) refl

-- ---- Terms that rise

record IsFrom (k n : ℕ) (term : Term) : Type 0 where
  from : k ≤ term.column
  before : term.column < k + n
  not_zero : term.entry ≢ pos 0
  in_range : IsInRange term.entry

each_from : (k : ℕ) (xs : List ℤ) → AreInRange xs → All (IsFrom k (length xs)) (terms_from k xs)
each_from k [] all = All-nil (IsFrom k 0)
each_from k (x ∷ xs) all = by (is_zero x) refl
    (All-weaker (IsFrom (k + 1) (length xs)) (IsFrom k (suc (length xs)))
    (λ t is. record { from = omega (arith, is.from); before = omega (arith, is.before); not_zero = is.not_zero; in_range = is.in_range })
    (terms_from (k + 1) xs) (each_from (k + 1) xs (All-tail IsInRange x xs all)))
  where
    by : (b : Bool) → is_zero x ≡ b → All (IsFrom k (suc (length xs))) (terms_from (k + 1) xs) → All (IsFrom k (suc (length xs))) (terms_from k (x ∷ xs))
    by true is rest = rw is rest
    by false is rest = rw is (All-cons (IsFrom k (suc (length xs))) (record { column = k; entry = x }) (terms_from (k + 1) xs)
        (record { from = omega arith; before = omega arith; not_zero = not_zero_from x is; in_range = All-head IsInRange x xs all }) rest)

abbrev Rises : List Term → Type 0
Rises terms = AllAdjacentBelow (λ before after. before.column < after.column) terms (length terms)

rises_cons : (t : Term) (ts : List Term) → All (λ u. t.column < u.column) ts → Rises ts → Rises (t ∷ ts)
rises_cons t ts above rest zero d within = above 0 d (omega (arith, within))
rises_cons t ts above rest (suc k) d within =
    let e : suc k + 1 ≡ suc (k + 1) = omega arith in
    subst (λ (j : ℕ). (get_or ts k d).column < (get_or (t ∷ ts) j d).column) (sym e) (rest k d (omega (arith, within)))

rises_from : (k : ℕ) (xs : List ℤ) → AreInRange xs → Rises (terms_from k xs)
rises_from k [] all = λ i d within. absurd (omega (arith, within))
rises_from k (x ∷ xs) all = by (is_zero x) refl (rises_from (k + 1) xs (All-tail IsInRange x xs all))
  where
    above : All (λ u. k < u.column) (terms_from (k + 1) xs)
    above = All-weaker (IsFrom (k + 1) (length xs)) (λ u. k < u.column) (λ t is. omega (arith, is.from)) (terms_from (k + 1) xs) (each_from (k + 1) xs (All-tail IsInRange x xs all))

    by : (b : Bool) → is_zero x ≡ b → Rises (terms_from (k + 1) xs) → Rises (terms_from k (x ∷ xs))
    by true is rest = rw is rest
    by false is rest = rw is (rises_cons (record { column = k; entry = x }) (terms_from (k + 1) xs) above rest)

-- the terms of entries in range are those of the row
pub are_of : (xs : List ℤ) (terms : List Term) → terms ≡ terms_from 0 xs → AreInRange xs → AreOf xs terms
are_of xs terms is all = rw is (record {
  dense = dense_from 0 xs;
  are = record {
    rising = rises_from 0 xs all;
    each = All-weaker (IsFrom 0 (length xs)) (IsTerm (length xs)) (λ t from. record { within = omega (arith, from.before); not_zero = from.not_zero; in_range = from.in_range }) (terms_from 0 xs) (each_from 0 xs all);
  };
})

-- one more entry, and its term if it isn't 0
pub step : (before after : List ℤ) (i : ℕ) (x : ℤ) (terms terms' : List Term) → after ≡ before ++ x ∷ [] → length before ≡ i → IsInRange x
    → terms ≡ terms_from 0 before → AreInRange before → terms' ≡ terms ++ terms_from i (x ∷ [])
    → (terms' ≡ terms_from 0 after) × AreInRange after
step before after i x terms terms' is count in_range was all pushed = (
  pushed ∙ ap (λ ts. ts ++ terms_from i (x ∷ [])) was ∙ sym (terms_more 0 i before x (omega (arith, count))) ∙ ap (terms_from 0) (sym is),
  rw is (All-append IsInRange before (x ∷ []) all (All-cons IsInRange x [] in_range (All-nil IsInRange))),
)
