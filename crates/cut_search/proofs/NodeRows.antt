-- Rows of nodes, grown row by row.
use Rattle.std.proofs.Common.{◌≡◌, ℕ, zero, suc, ◌+◌, ◌-◌, ◌<◌, ◌≤◌, ◌==◌, Bool, true, false, cond, List, [], ◌∷◌, ◌++◌, map, length, get_or, take, drop, replicate, ℤ, pos, All, refl, sym, ap, subst, ◌∙◌, append_assoc, arith}
use Rattle.std.proofs.lemmas.List.{take-append-drop, map-append, append-nil, take_more, length-append, length-replicate, replicate-append-replicate}
use Rattle.std.proofs.lemmas.List.Elements.{All-append, All-head, All-replicate, All-tail}
use Rattle.whole_rows.specs.Row.{IsInRange, AreInRange}
use Rattle.whole_rows.specs.Rows.{RowsData, AreRows}
use Rattle.whole_rows.specs.Terms.{row_of_terms, AreTerms}
use Rattle.whole_rows.specs.declared.Term.{Term}
use Rattle.row_squeeze.specs.Working.Parts.{terms_from}
use Rattle.row_squeeze.proofs.Terms.{terms-are, terms-row}
use Rattle.cut_search.specs.declared.limits.Limits.{Limits}
use Rattle.cut_search.specs.Nodes.{LimitRow, further_count, further_cost, limit_rows, lower_rows, node_rows, upper_rows, with_limit_rows}
use Rattle.cut_search.specs.Search.{no_limits}
use Rattle.cut_search.specs.Working.Nodes.{padded}

-- ---- Further columns

pub further_count-append : (xs ys : List Limits) → further_count (xs ++ ys) ≡ further_count xs + further_count ys
further_count-append [] ys = omega arith
further_count-append (l ∷ xs) ys = let rest = further_count-append xs ys in omega arith

pub further_more : (ls : List Limits) (i : ℕ) → i < length ls → further_count (take (i + 1) ls) ≡ further_count (take i ls) + further_count (get_or ls i no_limits ∷ [])
further_more ls i h = ap further_count (take_more ls i no_limits h) ∙ further_count-append (take i ls) (get_or ls i no_limits ∷ [])

pub further_costs : (ls : List Limits) (i : ℕ) → i < length ls → replicate (further_count (take (i + 1) ls)) further_cost ≡ replicate (further_count (take i ls)) further_cost ++ replicate (further_count (get_or ls i no_limits ∷ [])) further_cost
further_costs ls i h = ap (λ n. replicate n further_cost) (further_more ls i h) ∙ sym (replicate-append-replicate (further_count (take i ls)) (further_count (get_or ls i no_limits ∷ [])) further_cost)

-- ---- Limit rows

pub limit_rows-cons : (further : ℕ) (l : Limits) (ls : List Limits) → limit_rows further (l ∷ ls) ≡ limit_rows further (l ∷ []) ++ limit_rows (further + further_count (l ∷ [])) ls
limit_rows-cons further l ls = by (l.low == 0)
  where
    up : List LimitRow
    up = upper_rows l.column l.high

    by : (t : Bool) → upper_rows l.column l.high ++ cond t (limit_rows further ls) (lower_rows further l.column l.low ++ limit_rows (further + 1) ls)
        ≡ (upper_rows l.column l.high ++ cond t [] (lower_rows further l.column l.low ++ [])) ++ limit_rows (further + (cond t 0 1 + 0)) ls
    by true =
        let same : further + (0 + 0) ≡ further = omega arith in
        rw same (ap (λ (rs : List LimitRow). rs ++ limit_rows further ls) (sym (append-nil (upper_rows l.column l.high))))
    by false =
        let same : further + (1 + 0) ≡ further + 1 = omega arith in
        rw same (sym (append_assoc (upper_rows l.column l.high) (lower_rows further l.column l.low) (limit_rows (further + 1) ls)))

pub limit_rows-append : (further : ℕ) (xs ys : List Limits) → limit_rows further (xs ++ ys) ≡ limit_rows further xs ++ limit_rows (further + further_count xs) ys
limit_rows-append further [] ys = let same : further + 0 ≡ further = omega arith in rw same refl
limit_rows-append further (l ∷ xs) ys =
    let same : further + further_count (l ∷ []) + further_count xs ≡ further + further_count (l ∷ xs) = omega arith in
    limit_rows-cons further l (xs ++ ys)
    ∙ ap (λ (rs : List LimitRow). limit_rows further (l ∷ []) ++ rs) (limit_rows-append (further + further_count (l ∷ [])) xs ys)
    ∙ ap (λ n. limit_rows further (l ∷ []) ++ (limit_rows (further + further_count (l ∷ [])) xs ++ limit_rows n ys)) same
    ∙ sym (append_assoc (limit_rows further (l ∷ [])) (limit_rows (further + further_count (l ∷ [])) xs) (limit_rows (further + further_count (l ∷ xs)) ys))
    ∙ ap (λ (rs : List LimitRow). rs ++ limit_rows (further + further_count (l ∷ xs)) ys) (sym (limit_rows-cons further l xs))

pub limit_rows_more : (further : ℕ) (ls : List Limits) (i : ℕ) → i < length ls → limit_rows further (take (i + 1) ls) ≡ limit_rows further (take i ls) ++ limit_rows (further + further_count (take i ls)) (get_or ls i no_limits ∷ [])
limit_rows_more further ls i h = ap (limit_rows further) (take_more ls i no_limits h) ∙ limit_rows-append further (take i ls) (get_or ls i no_limits ∷ [])

-- the same rows at the end, in two parts
pub with_limit_rows-append : (d : RowsData) (xs ys : List LimitRow) → with_limit_rows (with_limit_rows d xs) ys ≡ with_limit_rows d (xs ++ ys)
with_limit_rows-append d xs ys =
    let rows = append_assoc d.rows (map (λ (row : LimitRow). row_of_terms (length d.costs) row.terms) xs) (map (λ (row : LimitRow). row_of_terms (length d.costs) row.terms) ys) ∙ ap (λ (rs : List (List ℤ)). d.rows ++ rs) (sym (map-append (λ (row : LimitRow). row_of_terms (length d.costs) row.terms) xs ys)) in
    let rights = append_assoc d.rights (map (λ (row : LimitRow). pos row.right) xs) (map (λ (row : LimitRow). pos row.right) ys) ∙ ap (λ (rs : List ℤ). d.rights ++ rs) (sym (map-append (λ (row : LimitRow). pos row.right) xs ys)) in
    same_rows d.costs rows rights
  where
    same_rows : (costs : List ℤ) {r s : List (List ℤ)} {b c : List ℤ} → r ≡ s → b ≡ c → (let one : RowsData = record { costs = costs; rows = r; rights = b } in one) ≡ record { costs = costs; rows = s; rights = c }
    same_rows costs e f = cc

-- ---- Rows over more columns

terms_from-zeros : (column : ℕ) (xs : List ℤ) (n : ℕ) → terms_from column (xs ++ replicate n (pos 0)) ≡ terms_from column xs
terms_from-zeros column [] zero = refl
terms_from-zeros column [] (suc n) = terms_from-zeros (column + 1) [] n
terms_from-zeros column (x ∷ xs) n = rw (terms_from-zeros (column + 1) xs n) refl

padded_width : (width : ℕ) (row : List ℤ) → length row ≤ width → length (padded width row) ≡ width
padded_width width row h = length-append row (replicate (width - length row) (pos 0)) ∙ omega (arith, length-replicate {A = ℤ})

padded_range : (width : ℕ) (row : List ℤ) → AreInRange row → AreInRange (padded width row)
padded_range width row range = All-append IsInRange row (replicate (width - length row) (pos 0)) range (All-replicate IsInRange (width - length row) (pos 0) (omega arith))

pub padded_terms : (width : ℕ) (row : List ℤ) → length row ≤ width → AreInRange row → AreTerms width (terms_from 0 row)
padded_terms width row h range =
    let are = terms-are (padded width row) (padded_range width row range) in
    let same : terms_from 0 (padded width row) ≡ terms_from 0 row = terms_from-zeros 0 row (width - length row) in
    subst (λ n. AreTerms n (terms_from 0 row)) (padded_width width row h) (subst (AreTerms (length (padded width row))) same are)

pub padded_row : (width : ℕ) (row : List ℤ) → length row ≤ width → AreInRange row → row_of_terms width (terms_from 0 row) ≡ padded width row
padded_row width row h range =
    let same : terms_from 0 (padded width row) ≡ terms_from 0 row = terms_from-zeros 0 row (width - length row) in
    ap (λ (ts : List Term). row_of_terms width ts) (sym same) ∙ ap (λ n. row_of_terms n (terms_from 0 (padded width row))) (sym (padded_width width row h)) ∙ terms-row (padded width row) (padded_range width row range)

-- fewer limits have fewer further columns
pub further_count-take : (ls : List Limits) (i : ℕ) → further_count (take i ls) ≤ further_count ls
further_count-take ls i =
    let whole = ap further_count (take-append-drop i ls) in
    let parts = further_count-append (take i ls) (drop i ls) in
    omega arith

-- ---- The rows of a node

padded_all : (d : RowsData) (n : ℕ) → AreRows d → map (padded (length d.costs + n)) d.rows ≡ map (λ (row : List ℤ). row ++ replicate n (pos 0)) d.rows
padded_all d n rows = by d.rows rows.shape.rows_fit
  where
    by : (rs : List (List ℤ)) → All (λ row. length row ≡ length d.costs) rs → map (padded (length d.costs + n)) rs ≡ map (λ (row : List ℤ). row ++ replicate n (pos 0)) rs
    by [] fit = refl
    by (r ∷ rs) fit =
        let here : length r ≡ length d.costs = All-head (λ row. length row ≡ length d.costs) r rs fit in
        let count : length d.costs + n - length r ≡ n = omega arith in
        let rest = by rs (All-tail (λ row. length row ≡ length d.costs) r rs fit) in
        rw (count, rest) refl

-- the given rows over the costs of a node, and then the limits' rows
pub node_rows-are : (d : RowsData) (limits : List Limits) (costs : List ℤ) (rows : RowsData) → AreRows d → costs ≡ d.costs ++ replicate (further_count limits) further_cost
    → rows ≡ record { costs = costs; rows = map (padded (length costs)) d.rows; rights = d.rights }
    → with_limit_rows rows (limit_rows (length d.costs) limits) ≡ node_rows d limits
node_rows-are d limits costs rows are costs_are rows_are =
    let long : length costs ≡ length d.costs + further_count limits = ap length costs_are ∙ length-append d.costs (replicate (further_count limits) further_cost) ∙ ap (λ n. length d.costs + n) (length-replicate (further_count limits) further_cost) in
    let padding : map (padded (length costs)) d.rows ≡ map (λ (row : List ℤ). row ++ replicate (further_count limits) (pos 0)) d.rows = rw long (padded_all d (further_count limits) are) in
    ap (λ (r : RowsData). with_limit_rows r (limit_rows (length d.costs) limits)) (rows_are ∙ same costs_are padding)
  where
    same : {c e : List ℤ} {r s : List (List ℤ)} → c ≡ e → r ≡ s → (let one : RowsData = record { costs = c; rows = r; rights = d.rights } in one) ≡ record { costs = e; rows = s; rights = d.rights }
    same e f = cc
