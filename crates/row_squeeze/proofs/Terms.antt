-- The terms of a row given by its entries.
use Rattle.std.proofs.Common.{◌≡◌, ◌≢◌, ℕ, zero, suc, ◌+◌, ◌<◌, ◌≤◌, Bool, true, false, cond, List, [], ◌∷◌, ◌++◌, length, get_or, take, ℤ, pos, unsigned_abs, All, refl, sym, ap, ◌∙◌, zero-add, arith}
use Rattle.std.proofs.lemmas.Bool.{eq-eqb, ne_eqb, eqb-true}
use Rattle.std.proofs.lemmas.Int.{ints}
use Rattle.std.proofs.lemmas.List.{take_more, length-take-le}
use Rattle.std.proofs.lemmas.List.Elements.{All-nil, All-cons, All-head, All-tail, All-weaker, All-get_or}
use Rattle.std.proofs.lemmas.List.FromFn.{fill_by_all}
use Rattle.std.specs.List.{AllAdjacentBelow}
use Rattle.whole_rows.specs.Row.{IsInRange, AreInRange, is_zero}
use Rattle.whole_rows.specs.Terms.{entry_of, row_of_terms, IsTerm, AreTerms}
use Rattle.whole_rows.specs.Rows.{RowsData, with_row}
use Rattle.whole_rows.specs.declared.Term.{Term}
use Rattle.row_squeeze.specs.Working.Parts.{terms_from, one_row_more}

-- ---- one entry more

abbrev one_term : ℕ → ℤ → List Term
one_term column x = cond (is_zero x) [] (record { column = column; entry = x } ∷ [])

terms_push : (column : ℕ) (xs : List ℤ) (x : ℤ) → terms_from column (xs ++ x ∷ []) ≡ terms_from column xs ++ one_term (column + length xs) x
terms_push column [] x = by_test (is_zero x)
  where
    by_test : (t : Bool) → cond t [] (let term : Term = record { column = column; entry = x } in term ∷ []) ≡ cond t [] (let term : Term = record { column = column + 0; entry = x } in term ∷ [])
    by_test true = refl
    by_test false = let e : column ≡ column + 0 = omega arith in ap (λ (n : ℕ). let term : Term = record { column = n; entry = x } in term ∷ []) e
terms_push column (y ∷ xs) x =
    let e : column + suc (length xs) ≡ column + 1 + length xs = omega arith in
    rw (e, terms_push (column + 1) xs x) (by_test (is_zero y))
  where
    by_test : (t : Bool) → cond t (terms_from (column + 1) xs ++ one_term (column + 1 + length xs) x) (let term : Term = record { column = column; entry = y } in term ∷ (terms_from (column + 1) xs ++ one_term (column + 1 + length xs) x)) ≡ cond t (terms_from (column + 1) xs) (let term : Term = record { column = column; entry = y } in term ∷ terms_from (column + 1) xs) ++ one_term (column + 1 + length xs) x
    by_test true = refl
    by_test false = refl

pub terms_more : (xs : List ℤ) (i : ℕ) → i < length xs → terms_from 0 (take (i + 1) xs) ≡ terms_from 0 (take i xs) ++ cond (is_zero (get_or xs i (pos 0))) [] (record { column = i; entry = get_or xs i (pos 0) } ∷ [])
terms_more xs i h =
    let long : 0 + length (take i xs) ≡ i = zero-add (length (take i xs)) ∙ length-take-le i xs (omega arith) in
    rw (take_more xs i (pos 0) h) (terms_push 0 (take i xs) (get_or xs i (pos 0)) ∙ ap (λ (n : ℕ). terms_from 0 (take i xs) ++ one_term n (get_or xs i (pos 0))) long)

-- ---- what the terms are

-- a term's column lies from `column` on and below `column + n`, and its entry isn't 0 and is in range
record LiesFrom (column n : ℕ) (term : Term) : Type 0 where
  from : column ≤ term.column
  before : term.column < column + n
  not_zero : term.entry ≢ pos 0
  in_range : IsInRange term.entry

later : (column n : ℕ) (terms : List Term) → All (LiesFrom (column + 1) n) terms → All (LiesFrom column (suc n)) terms
later column n terms each = All-weaker (LiesFrom (column + 1) n) (LiesFrom column (suc n)) (λ term is. let from = is.from in let before = is.before in record { from = omega arith; before = omega arith; not_zero = is.not_zero; in_range = is.in_range }) terms each

is_zero-nonzero : (x : ℤ) → is_zero x ≡ false → x ≢ pos 0
is_zero-nonzero x e q = let none : is_zero x ≡ true = rw q refl in cc

is_zero-zero : (x : ℤ) → is_zero x ≡ true → x ≡ pos 0
is_zero-zero x e = let none : unsigned_abs x ≡ 0 = eqb-true (unsigned_abs x) 0 e in omega (arith, ints)

terms-lie : (column : ℕ) (xs : List ℤ) → AreInRange xs → All (LiesFrom column (length xs)) (terms_from column xs)
terms-lie column [] range = All-nil (LiesFrom column 0)
terms-lie column (x ∷ xs) range =
    by_test (later column (length xs) (terms_from (column + 1) xs) (terms-lie (column + 1) xs (All-tail IsInRange x xs range))) (is_zero x) refl
  where
    by_test : All (LiesFrom column (suc (length xs))) (terms_from (column + 1) xs) → (t : Bool) → is_zero x ≡ t → All (LiesFrom column (suc (length xs))) (cond t (terms_from (column + 1) xs) (let term : Term = record { column = column; entry = x } in term ∷ terms_from (column + 1) xs))
    by_test rest true e = rest
    by_test rest false e =
        All-cons (LiesFrom column (suc (length xs))) (let term : Term = record { column = column; entry = x } in term) (terms_from (column + 1) xs) (record { from = omega arith; before = omega arith; not_zero = is_zero-nonzero x e; in_range = All-head IsInRange x xs range }) rest

abbrev Rises : List Term → Type 0
Rises terms = AllAdjacentBelow (λ before after. before.column < after.column) terms (length terms)

rises-cons : (column n : ℕ) (x : ℤ) (terms : List Term) → All (LiesFrom (column + 1) n) terms → Rises terms → Rises (record { column = column; entry = x } ∷ terms)
rises-cons column n x terms each rise zero d h =
    let first = (All-get_or (LiesFrom (column + 1) n) terms 0 d (omega arith) each).from in omega arith
rises-cons column n x terms each rise (suc k) d h = let e : suc k + 1 ≡ suc (k + 1) = omega arith in rw e (rise k d (omega arith))

terms-rise : (column : ℕ) (xs : List ℤ) → AreInRange xs → Rises (terms_from column xs)
terms-rise column [] range = λ k d h. absurd (omega arith)
terms-rise column (x ∷ xs) range =
    by_test (terms-rise (column + 1) xs (All-tail IsInRange x xs range)) (is_zero x)
  where
    by_test : Rises (terms_from (column + 1) xs) → (t : Bool) → Rises (cond t (terms_from (column + 1) xs) (let term : Term = record { column = column; entry = x } in term ∷ terms_from (column + 1) xs))
    by_test rest true = rest
    by_test rest false = rises-cons column (length xs) x (terms_from (column + 1) xs) (terms-lie (column + 1) xs (All-tail IsInRange x xs range)) rest

pub terms-are : (xs : List ℤ) → AreInRange xs → AreTerms (length xs) (terms_from 0 xs)
terms-are xs range = record {
  rising = terms-rise 0 xs range;
  each = All-weaker (LiesFrom 0 (length xs)) (IsTerm (length xs)) (λ term is. let before = is.before in record { within = omega arith; not_zero = is.not_zero; in_range = is.in_range }) (terms_from 0 xs) (terms-lie 0 xs range);
}

-- the entry at a column before all terms
entry_of-before : (column n start : ℕ) (terms : List Term) → All (LiesFrom start n) terms → column < start → entry_of terms column ≡ pos 0
entry_of-before column n start [] each h = refl
entry_of-before column n start (term ∷ terms) each h =
    let from = (All-head (LiesFrom start n) term terms each).from in
    rw (ne_eqb term.column column (λ e. absurd (omega arith))) (entry_of-before column n start terms (All-tail (LiesFrom start n) term terms each) h)

entry_of-terms : (column : ℕ) (xs : List ℤ) (i j : ℕ) → AreInRange xs → column + i ≡ j → entry_of (terms_from column xs) j ≡ get_or xs i (pos 0)
entry_of-terms column [] i j range e = refl
entry_of-terms column (x ∷ xs) zero j range e = by_test (is_zero x) refl
  where
    rest : entry_of (terms_from (column + 1) xs) j ≡ pos 0
    rest = entry_of-before j (length xs) (column + 1) (terms_from (column + 1) xs) (terms-lie (column + 1) xs (All-tail IsInRange x xs range)) (omega arith)

    by_test : (t : Bool) → is_zero x ≡ t → entry_of (cond t (terms_from (column + 1) xs) (let term : Term = record { column = column; entry = x } in term ∷ terms_from (column + 1) xs)) j ≡ x
    by_test true z = rest ∙ sym (is_zero-zero x z)
    by_test false z = rw (eq-eqb column j (omega arith)) refl
entry_of-terms column (x ∷ xs) (suc i) j range e =
    by_test (entry_of-terms (column + 1) xs i j (All-tail IsInRange x xs range) (omega arith)) (is_zero x)
  where
    by_test : entry_of (terms_from (column + 1) xs) j ≡ get_or xs i (pos 0) → (t : Bool) → entry_of (cond t (terms_from (column + 1) xs) (let term : Term = record { column = column; entry = x } in term ∷ terms_from (column + 1) xs)) j ≡ get_or xs i (pos 0)
    by_test rest true = rest
    by_test rest false = rw (ne_eqb column j (λ q. absurd (omega arith))) rest

pub terms-row : (xs : List ℤ) → AreInRange xs → row_of_terms (length xs) (terms_from 0 xs) ≡ xs
terms-row xs range =
    sym (fill_by_all (entry_of (terms_from 0 xs)) xs (length xs) (pos 0) refl (λ k h. sym (entry_of-terms 0 xs k k range (zero-add k))))

-- the row with these terms is the row with these entries
pub with_row-is : (d : RowsData) (terms : List Term) (row : List ℤ) (right : ℤ) → length row ≡ length d.costs → row_of_terms (length row) terms ≡ row → with_row d terms right ≡ one_row_more d row right
with_row-is d terms row right e f =
    ap (λ (entries : List ℤ). one_row_more d entries right) (ap (λ (n : ℕ). row_of_terms n terms) (sym e) ∙ f)
