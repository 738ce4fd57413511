-- The rows that columns keep, entry by entry: what the calls that read them answer.
use Rattle.std.proofs.Common.{◌≡◌, ◌≢◌, ℕ, zero, suc, ◌+◌, ◌<◌, ◌≤◌, ◌==◌, Bool, true, false, cond, List, [], ◌∷◌, map, length, get_or, drop, ℤ, pos, negsuc, ◌+ℤ◌, ◌*ℤ◌, ◌≤ℤ◌, unsigned_abs, All, refl, sym, ◌∙◌, ap, subst, zero-add, inl, inr, ◌⊎◌, arith}
use Rattle.std.proofs.lemmas.Bool.{eq-eqb, ne_eqb, eqb-true, cases_eq, cases_lt}
use Rattle.std.proofs.lemmas.Int.{ints}
use Rattle.std.proofs.lemmas.List.{get_or-map, get_or_read, get_or_default, length-map, drop_more}
use Rattle.std.proofs.lemmas.List.Elements.{All-nil, All-cons, All-head, All-tail, All-weaker, All-get_or, All-map}
use Rattle.std.proofs.lemmas.List.FromFn.{length-map-range_with_len, get_or-map-range_with_len}
use Rattle.std.proofs.lemmas.List.Sums.{sum_by-cons}
use lib.IntN.{zero-*ℤ, +ℤ_idl}
use Rattle.std.specs.List.{range_with_len, sum_by}
use Rattle.whole_rows.specs.Row.{IsInRange, AreInRange, is_zero}
use Rattle.whole_rows.specs.Rows.{AreRows, row_at, column_of, column_terms_of, terms_from, entry_at, product_sum}
use Rattle.whole_rows.specs.Columns.{terms_sum, entry_in, RowsRise, IsRowTerm, IsColumn, row_in, rows_kept, IsKept}
use Rattle.whole_rows.specs.declared.RowTerm.{RowTerm}
use Rattle.whole_rows.proofs.Columns.{entry_in-absent}

-- ---- a column's terms are the entries that aren't 0

map-range_from : {X : Type 0} (f g : ℕ → X) (a n : ℕ) → ((i : ℕ) → a ≤ i → f i ≡ g i) → map f (range_with_len a n) ≡ map g (range_with_len a n)
map-range_from f g a zero h = refl
map-range_from f g a (suc n) h = rw (h a (omega arith), map-range_from f g (a + 1) n (λ i l. h i (omega arith))) refl

is_zero-no : (x : ℤ) → x ≢ pos 0 → is_zero x ≡ false
is_zero-no (pos zero) h = absurd (h refl)
is_zero-no (pos (suc n)) h = ne_eqb (suc n) 0 (λ e. absurd (omega arith))
is_zero-no (negsuc n) h = ne_eqb (suc n) 0 (λ e. absurd (omega arith))

-- a term's row lies from k on and below k + n, and its entry isn't 0
record IsTermFrom (k n : ℕ) (term : RowTerm) : Type 0 where
  from : k ≤ term.row
  before : term.row < k + n
  not_zero : term.entry ≢ pos 0

next_from : (k n : ℕ) (terms : List RowTerm) → All (λ t. k < t.row) terms → All (IsTermFrom k (suc n)) terms → All (IsTermFrom (k + 1) n) terms
next_from k n terms above each = λ i d l. let a = above i d l in let is = each i d l in record { from = omega arith; before = omega arith; not_zero = is.not_zero }

terms_from-column : (k n : ℕ) (terms : List RowTerm) → RowsRise terms → All (IsTermFrom k n) terms → terms_from k (map (entry_in terms) (range_with_len k n)) ≡ terms
terms_from-column k zero [] rising each = refl
terms_from-column k zero (term ∷ terms) rising each =
    let is = All-head (IsTermFrom k 0) term terms each in absurd (omega arith)
terms_from-column k (suc n) [] rising each = terms_from-column (k + 1) n [] tt (All-nil (IsTermFrom (k + 1) n))
terms_from-column k (suc n) (term ∷ terms) rising each =
    by_row (cases_eq term.row k) (λ above. terms_from-column (k + 1) n terms rising.1 (next_from k n terms above (All-tail (IsTermFrom k (suc n)) term terms each))) (λ above. terms_from-column (k + 1) n (term ∷ terms) rising (next_from k n (term ∷ terms) above each))
  where
    is : IsTermFrom k (suc n) term
    is = All-head (IsTermFrom k (suc n)) term terms each

    by_row : (term.row ≡ k) ⊎ (term.row ≡ k → ⊥) → (All (λ t. k < t.row) terms → terms_from (k + 1) (map (entry_in terms) (range_with_len (k + 1) n)) ≡ terms) → (All (λ t. k < t.row) (term ∷ terms) → terms_from (k + 1) (map (entry_in (term ∷ terms)) (range_with_len (k + 1) n)) ≡ term ∷ terms) → terms_from k (map (entry_in (term ∷ terms)) (range_with_len k (suc n))) ≡ term ∷ terms
    by_row (inl e) rest whole =
        let later : map (entry_in (term ∷ terms)) (range_with_len (k + 1) n) ≡ map (entry_in terms) (range_with_len (k + 1) n) =
        map-range_from (entry_in (term ∷ terms)) (entry_in terms) (k + 1) n (λ i l. let other : term.row ≡ i → ⊥ = λ q. absurd (omega arith) in rw (ne_eqb term.row i other) refl) in
        let after = rest (subst (λ (r : ℕ). All (λ t. r < t.row) terms) e rising.0) in
        rw (eq-eqb term.row k e, is_zero-no term.entry is.not_zero, later, after) (ap (λ (r : ℕ). record { row = r; entry = term.entry } ∷ terms) (sym e))
    by_row (inr n') rest whole =
        let first : k < term.row = omega (arith, is.from) in
        let above : All (λ t. k < t.row) (term ∷ terms) = All-cons (λ t. k < t.row) term terms first (All-weaker (λ t. term.row < t.row) (λ t. k < t.row) (λ t l. omega arith) terms rising.0) in
        let none : entry_in terms k ≡ pos 0 = entry_in-absent terms k (All-weaker (λ t. term.row < t.row) (λ t. t.row ≢ k) (λ t l e. absurd (omega arith)) terms rising.0) in
        rw (ne_eqb term.row k n', none) (whole above)

map-map_is : {X Y Z : Type 0} (g : Y → Z) (f : X → Y) (h : X → Z) → ((x : X) → g (f x) ≡ h x) → (xs : List X) → map g (map f xs) ≡ map h xs
map-map_is g f h same [] = refl
map-map_is g f h same (x ∷ xs) = rw (same x, map-map_is g f h same xs) refl

-- a column of the rows
pub column_of-kept : (costs : List ℤ) (columns : List (List RowTerm)) (rights : List ℤ) (column : ℕ) → column < length columns → column_of (rows_kept costs columns rights) column ≡ map (entry_in (get_or columns column [])) (range_with_len 0 (length rights))
column_of-kept costs columns rights column h =
    map-map_is (λ (row : List ℤ). get_or row column (pos 0)) (row_in columns) (entry_in (get_or columns column [])) (λ i. get_or-map (λ ts. entry_in ts i) columns column [] (pos 0) h) (range_with_len 0 (length rights))

-- its terms are those that are kept
pub column_terms_of-kept : (costs : List ℤ) (columns : List (List RowTerm)) (rights : List ℤ) (column : ℕ) → IsKept costs columns rights → column < length columns → column_terms_of (rows_kept costs columns rights) column ≡ get_or columns column []
column_terms_of-kept costs columns rights column kept h =
    let is = All-get_or (IsColumn (length rights)) columns column [] h kept.each_column in
    let n = length rights in
    rw (column_of-kept costs columns rights column h) (terms_from-column 0 n (get_or columns column []) is.rising (λ i d l. let each = is.each i d l in record { from = omega arith; before = omega (arith, each.within); not_zero = each.not_zero }))

-- ---- rows and entries

pub length-rows_kept : (costs : List ℤ) (columns : List (List RowTerm)) (rights : List ℤ) → length (map (row_in columns) (range_with_len 0 (length rights))) ≡ length rights
length-rows_kept costs columns rights = length-map-range_with_len (row_in columns) 0 (length rights)

pub row_at-kept : (costs : List ℤ) (columns : List (List RowTerm)) (rights : List ℤ) (row : ℕ) → row < length rights → row_at (rows_kept costs columns rights) row ≡ row_in columns row
row_at-kept costs columns rights row h = get_or-map-range_with_len (row_in columns) 0 (length rights) row row [] h (zero-add row)

pub entry_at-kept : (costs : List ℤ) (columns : List (List RowTerm)) (rights : List ℤ) (row column : ℕ) → row < length rights → column < length columns → entry_at (rows_kept costs columns rights) row column ≡ entry_in (get_or columns column []) row
entry_at-kept costs columns rights row column h k =
    ap (λ (entries : List ℤ). get_or entries column (pos 0)) (row_at-kept costs columns rights row h) ∙ get_or-map (λ ts. entry_in ts row) columns column [] (pos 0) k

pub entry_in-in_range : (rows : ℕ) (terms : List RowTerm) (row : ℕ) → All (IsRowTerm rows) terms → IsInRange (entry_in terms row)
entry_in-in_range rows [] row each = omega arith
entry_in-in_range rows (term ∷ terms) row each =
    by_test (entry_in-in_range rows terms row (All-tail (IsRowTerm rows) term terms each)) (term.row == row)
  where
    by_test : IsInRange (entry_in terms row) → (t : Bool) → IsInRange (cond t term.entry (entry_in terms row))
    by_test rest true = (All-head (IsRowTerm rows) term terms each).in_range
    by_test rest false = rest

-- what the parts keep is what the rows keep
pub AreRows-kept : (costs : List ℤ) (columns : List (List RowTerm)) (rights : List ℤ) → IsKept costs columns rights → AreRows (rows_kept costs columns rights)
AreRows-kept costs columns rights kept = record {
  shape = record {
    rows_fit = All-map (λ row. length row ≡ length costs) (row_in columns) (range_with_len 0 (length rights)) (λ i d l. length-map columns (λ ts. entry_in ts (get_or (range_with_len 0 (length rights)) i d)) ∙ kept.columns_fit);
    rights_fit = sym (length-rows_kept costs columns rights);
  };
  costs_in_range = kept.costs_in_range;
  entries_in_range = All-map AreInRange (row_in columns) (range_with_len 0 (length rights)) (λ i d l. All-map IsInRange (λ ts. entry_in ts (get_or (range_with_len 0 (length rights)) i d)) columns (All-weaker (IsColumn (length rights)) (λ ts. IsInRange (entry_in ts (get_or (range_with_len 0 (length rights)) i d))) (λ ts is. entry_in-in_range (length rights) ts (get_or (range_with_len 0 (length rights)) i d) is.each) columns kept.each_column));
  rights_in_range = kept.rights_in_range;
  rights_not_negative = kept.rights_not_negative;
}

-- ---- the search for a row in a column

pub RowsRise-lt : (terms : List RowTerm) (i j : ℕ) (d : RowTerm) → RowsRise terms → i < j → j < length terms → (get_or terms i d).row < (get_or terms j d).row
RowsRise-lt [] i j d rising h k = absurd (omega arith)
RowsRise-lt (term ∷ terms) i zero d rising h k = absurd (omega arith)
RowsRise-lt (term ∷ terms) zero (suc j) d rising h k = rising.0 j d (omega arith)
RowsRise-lt (term ∷ terms) (suc i) (suc j) d rising h k = RowsRise-lt terms i j d rising.1 (omega arith) (omega arith)

-- the term at a place decides its row
pub entry_in-at : (terms : List RowTerm) (i : ℕ) (d : RowTerm) → RowsRise terms → i < length terms → entry_in terms (get_or terms i d).row ≡ (get_or terms i d).entry
entry_in-at [] i d rising h = absurd (omega arith)
entry_in-at (term ∷ terms) zero d rising h = rw (eq-eqb term.row term.row refl) refl
entry_in-at (term ∷ terms) (suc i) d rising h =
    let l : term.row < (get_or terms i d).row = rising.0 i d (omega arith) in
    rw (ne_eqb term.row (get_or terms i d).row (λ e. absurd (omega arith))) (entry_in-at terms i d rising.1 (omega arith))

-- each term stands before the place and has a lesser row, or stands at it or after it and has a greater one
pub entry_in-between : (terms : List RowTerm) (place row : ℕ) → ((i : ℕ) (d : RowTerm) → i < place → i < length terms → (get_or terms i d).row < row) → ((i : ℕ) (d : RowTerm) → place ≤ i → i < length terms → row < (get_or terms i d).row) → entry_in terms row ≡ pos 0
entry_in-between terms place row below above = entry_in-absent terms row (λ i d h. by_place i d h (cases_lt i place))
  where
    by_place : (i : ℕ) (d : RowTerm) → i < length terms → (i < place) ⊎ (place ≤ i) → (get_or terms i d).row ≢ row
    by_place i d h (inl l) = let b = below i d l h in λ e. absurd (omega arith)
    by_place i d h (inr l) = let a = above i d l h in λ e. absurd (omega arith)

-- a term of a lesser row has none but lesser rows before it
pub lower_half : (terms : List RowTerm) (middle row : ℕ) (e : RowTerm) → RowsRise terms → middle < length terms → (get_or terms middle e).row < row → (i : ℕ) (d : RowTerm) → i < middle + 1 → i < length terms → (get_or terms i d).row < row
lower_half terms middle row e rising h below i d l within =
    rw (get_or_default terms i d e within) (by_place (cases_lt i middle))
  where
    by_place : (i < middle) ⊎ (middle ≤ i) → (get_or terms i e).row < row
    by_place (inl k) = let r = RowsRise-lt terms i middle e rising k h in omega arith
    by_place (inr k) = let same : i ≡ middle = omega arith in rw same below

-- and one of a greater row none but greater rows after it
pub upper_half : (terms : List RowTerm) (middle row : ℕ) (e : RowTerm) → RowsRise terms → row < (get_or terms middle e).row → (i : ℕ) (d : RowTerm) → middle ≤ i → i < length terms → row < (get_or terms i d).row
upper_half terms middle row e rising above i d l within =
    rw (get_or_default terms i d e within) (by_place (cases_lt middle i))
  where
    by_place : (middle < i) ⊎ (i ≤ middle) → row < (get_or terms i e).row
    by_place (inl k) = let r = RowsRise-lt terms middle i e rising k within in omega arith
    by_place (inr k) = let same : i ≡ middle = omega arith in rw same above

-- ---- sums over a column's terms

zero_from : (x : ℤ) → is_zero x ≡ true → x ≡ pos 0
zero_from x e = let n : unsigned_abs x ≡ 0 = eqb-true (unsigned_abs x) 0 e in omega (arith, ints)

terms_sum-from : (k : ℕ) (entries : List ℤ) (multipliers : List ℕ) → k + length entries ≤ length multipliers → terms_sum (terms_from k entries) multipliers ≡ product_sum entries (drop k multipliers)
terms_sum-from k [] multipliers h = refl
terms_sum-from k (x ∷ entries) multipliers h =
    rw (drop_more multipliers k 0 (omega arith)) (by_test (terms_sum-from (k + 1) entries multipliers (omega arith)) (is_zero x) refl)
  where
    by_test : terms_sum (terms_from (k + 1) entries) multipliers ≡ product_sum entries (drop (k + 1) multipliers) → (t : Bool) → is_zero x ≡ t → terms_sum (cond t (terms_from (k + 1) entries) (record { row = k; entry = x } ∷ terms_from (k + 1) entries)) multipliers ≡ x *ℤ pos (get_or multipliers k 0) +ℤ product_sum entries (drop (k + 1) multipliers)
    by_test rest false e = ap (λ (sum : ℤ). x *ℤ pos (get_or multipliers k 0) +ℤ sum) rest
    by_test rest true e = rw (zero_from x e, zero-*ℤ (pos (get_or multipliers k 0)), +ℤ_idl) rest

-- the sum over a column
pub terms_sum-column : (entries : List ℤ) (multipliers : List ℕ) → length entries ≤ length multipliers → terms_sum (terms_from 0 entries) multipliers ≡ product_sum entries multipliers
terms_sum-column entries multipliers h = terms_sum-from 0 entries multipliers (omega arith)

-- the sum of the sizes of its terms is that of all its entries
pub terms_size-column : (k : ℕ) (entries : List ℤ) → sum_by (λ (t : RowTerm). unsigned_abs t.entry) (terms_from k entries) ≡ sum_by unsigned_abs entries
terms_size-column k [] = refl
terms_size-column k (x ∷ entries) =
    by_test (terms_size-column (k + 1) entries) (is_zero x) refl
  where
    by_test : sum_by (λ (t : RowTerm). unsigned_abs t.entry) (terms_from (k + 1) entries) ≡ sum_by unsigned_abs entries → (t : Bool) → is_zero x ≡ t → sum_by (λ (t : RowTerm). unsigned_abs t.entry) (cond t (terms_from (k + 1) entries) (record { row = k; entry = x } ∷ terms_from (k + 1) entries)) ≡ sum_by unsigned_abs (x ∷ entries)
    by_test rest false e = sum_by-cons (λ (t : RowTerm). unsigned_abs t.entry) (record { row = k; entry = x }) (terms_from (k + 1) entries) ∙ ap (λ (n : ℕ). unsigned_abs x + n) rest ∙ sym (sum_by-cons unsigned_abs x entries)
    by_test rest true e =
        let n : unsigned_abs x ≡ 0 = eqb-true (unsigned_abs x) 0 e in
        let one = sum_by-cons unsigned_abs x entries in
        omega arith

-- ---- what the code reads

-- a column as it is read
pub column_read : (costs : List ℤ) (columns : List (List RowTerm)) (rights : List ℤ) (column : ℕ) (terms : List RowTerm) → IsKept costs columns rights → column < length columns → terms ≡ get_or columns column terms → column_terms_of (rows_kept costs columns rights) column ≡ terms
column_read costs columns rights column terms kept h e =
    column_terms_of-kept costs columns rights column kept h ∙ sym (get_or_read columns column terms h e [])

-- and what it keeps
pub column_is : (costs : List ℤ) (columns : List (List RowTerm)) (rights : List ℤ) (column : ℕ) (terms : List RowTerm) → IsKept costs columns rights → column < length columns → terms ≡ get_or columns column terms → IsColumn (length rights) terms
column_is costs columns rights column terms kept h e =
    subst (IsColumn (length rights)) (sym e) (All-get_or (IsColumn (length rights)) columns column terms h kept.each_column)

-- an entry as it is read
pub entry_read : (costs : List ℤ) (columns : List (List RowTerm)) (rights : List ℤ) (row column : ℕ) (terms : List RowTerm) → row < length rights → column < length columns → terms ≡ get_or columns column terms → entry_in terms row ≡ entry_at (rows_kept costs columns rights) row column
entry_read costs columns rights row column terms h k e =
    ap (λ ts. entry_in ts row) (get_or_read columns column terms k e []) ∙ sym (entry_at-kept costs columns rights row column h k)

-- a right side as it is read
pub right_read : (costs : List ℤ) (columns : List (List RowTerm)) (rights : List ℤ) (row : ℕ) (right : ℤ) → IsKept costs columns rights → row < length rights → right ≡ get_or rights row right → (right ≡ get_or rights row (pos 0)) × IsInRange right × (pos 0 ≤ℤ right)
right_read costs columns rights row right kept h e =
    let at = get_or_read rights row right h e (pos 0) in
    (at, rw at (All-get_or IsInRange rights row (pos 0) h kept.rights_in_range), rw at (All-get_or (λ r. pos 0 ≤ℤ r) rights row (pos 0) h kept.rights_not_negative))
