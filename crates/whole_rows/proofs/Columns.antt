-- Columns that keep only the entries that aren't 0: what they say of the rows, and what one more row adds.
use Rattle.std.proofs.Common.{◌≡◌, ◌≢◌, ℕ, zero, suc, ◌+◌, ◌<◌, ◌≤◌, ◌==◌, Bool, true, false, cond, List, [], ◌∷◌, ◌++◌, map, length, get_or, set, take, ℤ, pos, ◌≤ℤ◌, All, refl, sym, ◌∙◌, ap, subst, length-set, append_assoc, zero-add, arith}
use Rattle.std.proofs.lemmas.Bool.{eq-eqb, ne_eqb, cases_eq}
use Rattle.std.proofs.lemmas.List.{append-nil, get_or-set_same, get_or-set_other, get_or-map, get_or_read, length-map, same_lists, set-set, set-get_or}
use Rattle.std.proofs.lemmas.List.Sums.{fold_more}
use Rattle.std.proofs.lemmas.List.Elements.{All-nil, All-cons, All-head, All-tail, All-weaker, All-push, All-append, All-get_or, All-from_get_or}
use Rattle.std.proofs.lemmas.List.FromFn.{length-map-range_with_len, get_or-map-range_with_len, map-range_with_len_more}
use Rattle.std.specs.List.{range_with_len, AllAdjacentBelow}
use Rattle.std.proofs.Common.{inl, inr, ◌⊎◌}
use Rattle.whole_rows.specs.Row.{IsInRange}
use Rattle.whole_rows.specs.Rows.{with_row}
use Rattle.whole_rows.specs.Terms.{entry_of, row_of_terms, IsTerm, AreTerms}
use Rattle.whole_rows.specs.Columns.{entry_in, RowsRise, IsRowTerm, IsColumn, row_in, rows_kept, IsKept, with_term, with_terms}
use Rattle.std.proofs.lemmas.List.{length_push}
use Rattle.whole_rows.specs.declared.Term.{Term}
use Rattle.whole_rows.specs.declared.RowTerm.{RowTerm}

-- ---- the entry at a row

-- no term names the row
abbrev pub IsAbsent : List RowTerm → ℕ → Type 0
IsAbsent terms row = All (λ term. term.row ≢ row) terms

pub entry_in-absent : (terms : List RowTerm) (row : ℕ) → IsAbsent terms row → entry_in terms row ≡ pos 0
entry_in-absent [] row h = refl
entry_in-absent (term ∷ terms) row h =
    rw (ne_eqb term.row row (All-head (λ t. t.row ≢ row) term terms h)) (entry_in-absent terms row (All-tail (λ t. t.row ≢ row) term terms h))

-- terms of other rows after a column change nothing
pub entry_in-append_other : (terms more : List RowTerm) (row : ℕ) → IsAbsent more row → entry_in (terms ++ more) row ≡ entry_in terms row
entry_in-append_other [] more row h = entry_in-absent more row h
entry_in-append_other (term ∷ terms) more row h = ap (cond (term.row == row) term.entry) (entry_in-append_other terms more row h)

-- where the row is absent, the terms after a column decide
pub entry_in-append_absent : (terms more : List RowTerm) (row : ℕ) → IsAbsent terms row → entry_in (terms ++ more) row ≡ entry_in more row
entry_in-append_absent [] more row h = refl
entry_in-append_absent (term ∷ terms) more row h =
    rw (ne_eqb term.row row (All-head (λ t. t.row ≢ row) term terms h)) (entry_in-append_absent terms more row (All-tail (λ t. t.row ≢ row) term terms h))

pub absent_from_below : (rows : ℕ) (terms : List RowTerm) (row : ℕ) → All (IsRowTerm rows) terms → rows ≤ row → IsAbsent terms row
absent_from_below rows terms row each h = All-weaker (IsRowTerm rows) (λ t. t.row ≢ row) (λ t is. apart t is.within) terms each
  where
    apart : (t : RowTerm) → t.row < rows → t.row ≢ row
    apart t l = omega arith

-- ---- what one more row adds to a column

abbrev pub added : ℕ → List Term → ℕ → List RowTerm
added row [] column = []
added row (term ∷ terms) column = cond (term.column == column) (record { row = row; entry = term.entry } ∷ added row terms column) (added row terms column)

length-with_terms : (row : ℕ) (columns : List (List RowTerm)) (terms : List Term) → length (with_terms row columns terms) ≡ length columns
length-with_terms row columns [] = refl
length-with_terms row columns (term ∷ terms) =
    length-with_terms row (with_term row columns term) terms ∙ length-set columns term.column (get_or columns term.column [] ++ record { row = row; entry = term.entry } ∷ [])

-- the first of the terms
one_more : (row : ℕ) (columns : List (List RowTerm)) (term : Term) (rest : List RowTerm) (column : ℕ) → column < length columns → (whole : List RowTerm) → whole ≡ get_or (with_term row columns term) column [] ++ rest → whole ≡ get_or columns column [] ++ cond (term.column == column) (record { row = row; entry = term.entry } ∷ rest) rest
one_more row columns term rest column h whole is = by_column (cases_eq term.column column)
  where
    by_column : (term.column ≡ column) ⊎ (term.column ≡ column → ⊥) → whole ≡ get_or columns column [] ++ cond (term.column == column) (record { row = row; entry = term.entry } ∷ rest) rest
    by_column (inl e) =
        let here : get_or (with_term row columns term) column [] ≡ get_or columns column [] ++ record { row = row; entry = term.entry } ∷ [] =
        subst (λ (k : ℕ). get_or (with_term row columns term) k [] ≡ get_or columns k [] ++ record { row = row; entry = term.entry } ∷ []) e (get_or-set_same columns term.column (get_or columns term.column [] ++ record { row = row; entry = term.entry } ∷ []) [] (rw e h)) in
        rw (eq-eqb term.column column e) (is ∙ ap (λ (front : List RowTerm). front ++ rest) here ∙ append_assoc (get_or columns column []) (record { row = row; entry = term.entry } ∷ []) rest)
    by_column (inr n) =
        let here : get_or (with_term row columns term) column [] ≡ get_or columns column [] =
        get_or-set_other columns term.column column (get_or columns term.column [] ++ record { row = row; entry = term.entry } ∷ []) [] (λ e. n (sym e)) in
        rw (ne_eqb term.column column n) (is ∙ ap (λ (front : List RowTerm). front ++ rest) here)

pub get_or-with_terms : (row : ℕ) (columns : List (List RowTerm)) (terms : List Term) (column : ℕ) → column < length columns → get_or (with_terms row columns terms) column [] ≡ get_or columns column [] ++ added row terms column
get_or-with_terms row columns [] column h = sym (append-nil (get_or columns column []))
get_or-with_terms row columns (term ∷ terms) column h =
    one_more row columns term (added row terms column) column h (get_or (with_terms row (with_term row columns term) terms) column []) (get_or-with_terms row (with_term row columns term) terms column (rw (length-set columns term.column (get_or columns term.column [] ++ record { row = row; entry = term.entry } ∷ [])) h))

-- what is added stands in the new row, with the term's entry
added-rows : (row : ℕ) (terms : List Term) (column : ℕ) → All (λ t. t.row ≡ row) (added row terms column)
added-rows row [] column = All-nil (λ t. t.row ≡ row)
added-rows row (term ∷ terms) column = by_test (added-rows row terms column) (term.column == column)
  where
    by_test : All (λ t. t.row ≡ row) (added row terms column) → (t : Bool) → All (λ t. t.row ≡ row) (cond t (record { row = row; entry = term.entry } ∷ added row terms column) (added row terms column))
    by_test rest true = All-cons (λ t. t.row ≡ row) (record { row = row; entry = term.entry }) (added row terms column) refl rest
    by_test rest false = rest

entry_in-added : (row : ℕ) (terms : List Term) (column : ℕ) → entry_in (added row terms column) row ≡ entry_of terms column
entry_in-added row [] column = refl
entry_in-added row (term ∷ terms) column = by_test (entry_in-added row terms column) (term.column == column)
  where
    by_test : entry_in (added row terms column) row ≡ entry_of terms column → (t : Bool) → entry_in (cond t (record { row = row; entry = term.entry } ∷ added row terms column) (added row terms column)) row ≡ cond t term.entry (entry_of terms column)
    by_test rest true = rw (eq-eqb row row refl) refl
    by_test rest false = rest

-- ---- the rows after one more row

row_in-kept : (rows : ℕ) (columns : List (List RowTerm)) (terms : List Term) (row : ℕ) → row < rows → row_in (with_terms rows columns terms) row ≡ row_in columns row
row_in-kept rows columns terms row h =
    same_lists (row_in (with_terms rows columns terms) row) (row_in columns row) (length-map (with_terms rows columns terms) (λ ts. entry_in ts row) ∙ length-with_terms rows columns terms ∙ sym (length-map columns (λ ts. entry_in ts row))) (λ k d l. at k d (rw (← length-with_terms rows columns terms, ← length-map (with_terms rows columns terms) (λ ts. entry_in ts row)) l))
  where
    apart : (t : RowTerm) → t.row ≡ rows → t.row ≢ row
    apart t e = omega arith

    at : (k : ℕ) (d : ℤ) → k < length columns → get_or (row_in (with_terms rows columns terms) row) k d ≡ get_or (row_in columns row) k d
    at k d l =
        get_or-map (λ ts. entry_in ts row) (with_terms rows columns terms) k [] d (rw (length-with_terms rows columns terms) l)
        ∙ ap (λ ts. entry_in ts row) (get_or-with_terms rows columns terms k l)
        ∙ entry_in-append_other (get_or columns k []) (added rows terms k) row (All-weaker (λ t. t.row ≡ rows) (λ t. t.row ≢ row) (λ t e. apart t e) (added rows terms k) (added-rows rows terms k))
        ∙ sym (get_or-map (λ ts. entry_in ts row) columns k [] d l)

row_in-new : (rows : ℕ) (columns : List (List RowTerm)) (terms : List Term) → ((k : ℕ) → k < length columns → IsAbsent (get_or columns k []) rows) → row_in (with_terms rows columns terms) rows ≡ row_of_terms (length columns) terms
row_in-new rows columns terms absent =
    same_lists (row_in (with_terms rows columns terms) rows) (row_of_terms (length columns) terms) (length-map (with_terms rows columns terms) (λ ts. entry_in ts rows) ∙ length-with_terms rows columns terms ∙ sym (length-map-range_with_len (entry_of terms) 0 (length columns))) (λ k d l. at k d (rw (← length-with_terms rows columns terms, ← length-map (with_terms rows columns terms) (λ ts. entry_in ts rows)) l))
  where
    at : (k : ℕ) (d : ℤ) → k < length columns → get_or (row_in (with_terms rows columns terms) rows) k d ≡ get_or (row_of_terms (length columns) terms) k d
    at k d l =
        get_or-map (λ ts. entry_in ts rows) (with_terms rows columns terms) k [] d (rw (length-with_terms rows columns terms) l)
        ∙ ap (λ ts. entry_in ts rows) (get_or-with_terms rows columns terms k l)
        ∙ entry_in-append_absent (get_or columns k []) (added rows terms k) rows (absent k l)
        ∙ entry_in-added rows terms k
        ∙ sym (get_or-map-range_with_len (entry_of terms) 0 (length columns) k k d l (omega arith))

map-range_same : {X : Type 0} (f g : ℕ → X) (a n : ℕ) → ((i : ℕ) → i < a + n → f i ≡ g i) → map f (range_with_len a n) ≡ map g (range_with_len a n)
map-range_same f g a zero h = refl
map-range_same f g a (suc n) h =
    rw (h a (omega arith), map-range_same f g (a + 1) n (λ i l. h i (omega arith))) refl

-- one more row: the terms as a row, and its right side
pub rows_kept_more : (costs : List ℤ) (columns : List (List RowTerm)) (rights : List ℤ) (terms : List Term) (right : ℤ) → IsKept costs columns rights → rows_kept costs (with_terms (length rights) columns terms) (rights ++ right ∷ []) ≡ with_row (rows_kept costs columns rights) terms right
rows_kept_more costs columns rights terms right kept =
    let n = length rights in
    let after = with_terms n columns terms in
    let older : map (row_in after) (range_with_len 0 (length rights)) ≡ map (row_in columns) (range_with_len 0 (length rights)) =
    map-range_same (row_in after) (row_in columns) 0 n (λ i l. row_in-kept n columns terms i (rw (← zero-add n) l)) in
    let newest : row_in after (length rights) ≡ row_of_terms (length costs) terms =
    rw (← kept.columns_fit) (row_in-new n columns terms (λ k l. absent_from_below n (get_or columns k []) n (All-get_or (IsColumn n) columns k [] l kept.each_column).each (omega arith))) in
    let split : map (row_in after) (range_with_len 0 (length rights + 1)) ≡ map (row_in after) (range_with_len 0 (length rights)) ++ row_in after (length rights) ∷ [] =
    map-range_with_len_more (row_in after) 0 n n (zero-add n) in
    rw (length_push rights right, split, older, newest) refl

-- ---- what the columns keep after one more row

-- each column is below those that follow
ColumnsRise : List Term → Type 0
ColumnsRise [] = Unit {0}
ColumnsRise (term ∷ terms) = All (λ later. term.column < later.column) terms × ColumnsRise terms

rise_from_adjacent : (terms : List Term) → AllAdjacentBelow (λ before after. before.column < after.column) terms (length terms) → ColumnsRise terms
unfolding ColumnsRise
rise_from_adjacent [] h = tt
rise_from_adjacent (term ∷ []) h = (All-nil (λ later. term.column < later.column), tt)
rise_from_adjacent (term ∷ next ∷ terms) h =
    let rest = rise_from_adjacent (next ∷ terms) (λ k d l. let e : suc k + 1 ≡ suc (k + 1) = omega arith in rw e at (h (suc k) d (omega arith))) in
    let first : term.column < next.column = h 0 term (omega arith) in
    (All-cons (λ later. term.column < later.column) next terms first (All-weaker (λ later. next.column < later.column) (λ later. term.column < later.column) (λ later l. chain first l) terms rest.0), rest)
  where
    chain : {a b c : ℕ} → a < b → b < c → a < c
    chain h k = omega arith

added-none : (row : ℕ) (terms : List Term) (column : ℕ) → All (λ later. column < later.column) terms → added row terms column ≡ []
added-none row [] column h = refl
added-none row (term ∷ terms) column h =
    rw (ne_eqb term.column column (apart (All-head (λ later. column < later.column) term terms h))) (added-none row terms column (All-tail (λ later. column < later.column) term terms h))
  where
    apart : {a b : ℕ} → a < b → b ≡ a → ⊥
    apart h e = omega arith

added-rise : (row : ℕ) (terms : List Term) (column : ℕ) → ColumnsRise terms → RowsRise (added row terms column)
unfolding ColumnsRise
added-rise row [] column h = tt
added-rise row (term ∷ terms) column h = by_column (added-rise row terms column h.1) (cases_eq term.column column)
  where
    by_column : RowsRise (added row terms column) → (term.column ≡ column) ⊎ (term.column ≡ column → ⊥) → RowsRise (added row (term ∷ terms) column)
    by_column rest (inr n) = rw (ne_eqb term.column column n) rest
    by_column rest (inl e) =
        let none : added row terms column ≡ [] = added-none row terms column (subst (λ (k : ℕ). All (λ later. k < later.column) terms) e h.0) in
        rw (eq-eqb term.column column e, none) (All-nil (λ later. row < later.row), tt)

added-each : (row columns : ℕ) (terms : List Term) (column : ℕ) → All (IsTerm columns) terms → All (IsRowTerm (row + 1)) (added row terms column)
added-each row columns [] column h = All-nil (IsRowTerm (row + 1))
added-each row columns (term ∷ terms) column h =
    by_test (All-head (IsTerm columns) term terms h) (added-each row columns terms column (All-tail (IsTerm columns) term terms h)) (term.column == column)
  where
    by_test : IsTerm columns term → All (IsRowTerm (row + 1)) (added row terms column) → (t : Bool) → All (IsRowTerm (row + 1)) (cond t (record { row = row; entry = term.entry } ∷ added row terms column) (added row terms column))
    by_test is rest true = All-cons (IsRowTerm (row + 1)) (record { row = row; entry = term.entry }) (added row terms column) (record { within = omega arith; not_zero = is.not_zero; in_range = is.in_range }) rest
    by_test is rest false = rest

RowsRise-append : (row : ℕ) (front back : List RowTerm) → RowsRise front → All (λ t. t.row < row) front → RowsRise back → All (λ t. t.row ≡ row) back → RowsRise (front ++ back)
RowsRise-append row [] back h below k at = k
RowsRise-append row (term ∷ front) back h below k at =
    (All-append (λ later. term.row < later.row) front back h.0 (All-weaker (λ t. t.row ≡ row) (λ later. term.row < later.row) (λ later e. under (All-head (λ t. t.row < row) term front below) e) back at), RowsRise-append row front back h.1 (All-tail (λ t. t.row < row) term front below) k at)
  where
    under : {a b c : ℕ} → a < b → c ≡ b → a < c
    under h e = omega arith

column_more : (row columns : ℕ) (front : List RowTerm) (terms : List Term) (column : ℕ) → IsColumn row front → AreTerms columns terms → IsColumn (row + 1) (front ++ added row terms column)
column_more row columns front terms column kept are = record {
  rising = RowsRise-append row front (added row terms column) kept.rising (All-weaker (IsRowTerm row) (λ t. t.row < row) (λ t is. is.within) front kept.each) (added-rise row terms column (rise_from_adjacent terms are.rising)) (added-rows row terms column);
  each = All-append (IsRowTerm (row + 1)) front (added row terms column) (All-weaker (IsRowTerm row) (IsRowTerm (row + 1)) (λ t is. record { within = later is.within; not_zero = is.not_zero; in_range = is.in_range }) front kept.each) (added-each row columns terms column are.each);
}
  where
    later : {a : ℕ} → a < row → a < row + 1
    later h = omega arith

-- one more row keeps what the parts keep
pub IsKept_more : (costs : List ℤ) (columns : List (List RowTerm)) (rights : List ℤ) (terms : List Term) (right : ℤ) → IsKept costs columns rights → AreTerms (length costs) terms → IsInRange right → pos 0 ≤ℤ right → IsKept costs (with_terms (length rights) columns terms) (rights ++ right ∷ [])
IsKept_more costs columns rights terms right kept are in_range not_negative = record {
  columns_fit = length-with_terms (length rights) columns terms ∙ kept.columns_fit;
  costs_in_range = kept.costs_in_range;
  each_column = rw (length_push rights right) (All-from_get_or (IsColumn (length rights + 1)) (with_terms (length rights) columns terms) [] (λ k l. at k (rw (← length-with_terms (length rights) columns terms) l)));
  rights_in_range = All-push IsInRange rights right kept.rights_in_range in_range;
  rights_not_negative = All-push (λ r. pos 0 ≤ℤ r) rights right kept.rights_not_negative not_negative;
}
  where
    at : (k : ℕ) → k < length columns → IsColumn (length rights + 1) (get_or (with_terms (length rights) columns terms) k [])
    at k l =
        rw (get_or-with_terms (length rights) columns terms k l) (column_more (length rights) (length costs) (get_or columns k []) terms k (All-get_or (IsColumn (length rights)) columns k [] l kept.each_column) are)

-- ---- a term that is taken back

pub taken_back : (row : ℕ) (before items : List (List RowTerm)) (terms : List Term) (k : ℕ) (term : Term) (column new : List RowTerm) → k < length terms → term ≡ get_or terms k term → items ≡ with_terms row before (take (k + 1) terms) → term.column < length items → column ≡ get_or items term.column column → ((front : List RowTerm) (last : RowTerm) → column ≡ front ++ last ∷ [] → new ≡ front) → set items term.column new ≡ with_terms row before (take k terms)
taken_back row before items terms k term column new h at_term is within at_column dropped =
    let last : RowTerm = record { row = row; entry = term.entry } in
    let base = with_terms row before (take k terms) in
    let step : items ≡ with_term row (with_terms row before (take k terms)) term =
    is ∙ fold_more (with_term row) before terms k term h ∙ ap (with_term row base) (sym at_term) in
    let fits : term.column < length (with_terms row before (take k terms)) =
    rw (← length-set base term.column (get_or base term.column [] ++ last ∷ []), ← step) within in
    let read : column ≡ get_or (with_terms row before (take k terms)) term.column [] ++ last ∷ [] =
    get_or_read items term.column column within at_column [] ∙ ap (λ (columns : List (List RowTerm)). get_or columns term.column []) step ∙ get_or-set_same base term.column (get_or base term.column [] ++ last ∷ []) [] fits in
    rw (dropped (get_or base term.column []) last read, step, set-set, set-get_or) refl
