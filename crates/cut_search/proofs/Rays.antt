-- A ray of the rows of any node has nothing at the further columns, since these are limited: the rest is a ray of the given rows.
use Rattle.std.proofs.Common.{inl, inr, ◌≡◌, ◌≢◌, ℕ, zero, suc, ◌+◌, ◌<◌, ◌≤◌, ◌==◌, Bool, true, false, cond, List, [], ◌∷◌, ◌++◌, map, length, get_or, take, drop, replicate, ℤ, pos, ◌*ℤ◌, ◌≤ℤ◌, All, refl, sym, ap, subst, ◌∙◌, arith, drop-cons}
use Rattle.std.proofs.lemmas.Bool.{cases_lt, eq-eqb, ne_eqb}
use Rattle.std.proofs.lemmas.Int.{ints}
use Rattle.std.proofs.lemmas.List.{append-nil, get_or-append-add, get_or-map, get_or_past, length-append, length-map, length-replicate, length-take-le}
use Rattle.std.proofs.lemmas.List.Elements.{All-get_or, All-head, All-tail}
use Rattle.std.proofs.lemmas.List.FromFn.{get_or-map-range_with_len, length-map-range_with_len}
use Rattle.std.proofs.Math.ListN.{get_or-append}
use Rattle.whole_rows.specs.Greatest.{IsRay}
use Rattle.whole_rows.specs.Rows.{RowsData, IsShaped, left_side, product_sum, row_at}
use Rattle.whole_rows.specs.Terms.{entry_of, row_of_terms}
use Rattle.whole_rows.specs.declared.Term.{Term}
use Rattle.row_squeeze.proofs.Products.{sum_at_one}
use Rattle.cut_search.specs.declared.limits.Limits.{Limits}
use Rattle.cut_search.specs.Nodes.{LimitRow, further_cost, further_count, limit_rows, lower_rows, node_rows, upper_rows, widened, with_limit_rows}
use Rattle.cut_search.specs.Working.Limits.{IsFree}
use Rattle.cut_search.proofs.Parts.{right_all}
use Rattle.cut_search.proofs.Products.{product_sum-append}

-- ---- Without a cut

free_count : (limits : List Limits) → All IsFree limits → further_count limits ≡ 0
free_count [] free = refl
free_count (l ∷ limits) free =
    let here = (All-head IsFree l limits free).low in
    let rest = free_count limits (All-tail IsFree l limits free) in
    rw (here, rest) refl

free_rows : (further : ℕ) (limits : List Limits) → All IsFree limits → limit_rows further limits ≡ []
free_rows further [] free = refl
free_rows further (l ∷ limits) free =
    let here = All-head IsFree l limits free in
    let rest = free_rows further limits (All-tail IsFree l limits free) in
    rw (here.low, here.high, rest) refl

no_zeros : (rows : List (List ℤ)) → map (λ (row : List ℤ). row ++ []) rows ≡ rows
no_zeros [] = refl
no_zeros (row ∷ rows) = rw (append-nil row, no_zeros rows) refl

-- the root has the given rows
pub root_rows : (d : RowsData) (limits : List Limits) → All IsFree limits → node_rows d limits ≡ d
root_rows d limits free =
    ap (λ (more : List LimitRow). with_limit_rows (widened d (further_count limits)) more) (free_rows (length d.costs) limits free)
    ∙ ap (λ (n : ℕ). with_limit_rows (widened d n) []) (free_count limits free)
    ∙ same (append-nil d.costs) (append-nil (map (λ (row : List ℤ). row ++ []) d.rows) ∙ no_zeros d.rows) (append-nil d.rights)
  where
    same : {c : List ℤ} {r : List (List ℤ)} {b : List ℤ} → c ≡ d.costs → r ≡ d.rows → b ≡ d.rights → (let one : RowsData = record { costs = c; rows = r; rights = b } in one) ≡ record { costs = d.costs; rows = d.rows; rights = d.rights }
    same e f g = cc

-- ---- Further columns

abbrev one_term : ℕ → List Term
one_term column = record { column = column; entry = pos 1 } ∷ []

-- what a row adds up to that has 1 at one column
single_sum : (width column : ℕ) (u : List ℕ) → column < width → product_sum (row_of_terms width (one_term column)) u ≡ pos (get_or u column 0)
single_sum width column u h =
    let there : get_or (row_of_terms width (one_term column)) column (pos 0) ≡ pos 1 =
    get_or-map-range_with_len (entry_of (one_term column)) 0 width column column (pos 0) h (omega arith) ∙ ap (λ (t : Bool). cond t (pos 1) (pos 0)) (eq-eqb column column refl) in
    sum_at_one (row_of_terms width (one_term column)) u column others ∙ ap (λ (z : ℤ). z *ℤ pos (get_or u column 0)) there ∙ omega (arith, ints)
  where
    inside : (j : ℕ) → j ≢ column → j < width → get_or (row_of_terms width (one_term column)) j (pos 0) ≡ pos 0
    inside j apart within =
        get_or-map-range_with_len (entry_of (one_term column)) 0 width j j (pos 0) within (omega arith) ∙ ap (λ (t : Bool). cond t (pos 1) (pos 0)) (ne_eqb column j (λ e. apart (sym e)))

    outside : (j : ℕ) → width ≤ j → get_or (row_of_terms width (one_term column)) j (pos 0) ≡ pos 0
    outside j past = get_or_past (row_of_terms width (one_term column)) j (pos 0) (let long = length-map-range_with_len (entry_of (one_term column)) 0 width in omega arith)

    others : (j : ℕ) → j ≢ column → get_or (row_of_terms width (one_term column)) j (pos 0) ≡ pos 0
    others j apart = elim (cases_lt j width) [ inl h ↦ inside j apart h | inr h ↦ outside j h ]

-- a row doesn't rise along u
abbrev KeepsRow : ℕ → List ℕ → LimitRow → Type 0
KeepsRow width u row = product_sum (row_of_terms width row.terms) u ≤ℤ pos 0

-- where the rows that say the limits don't rise along u, it has nothing at the further columns
further_none : (width further : ℕ) (limits : List Limits) (u : List ℕ) → length u ≡ width → further + further_count limits ≤ width
    → All (KeepsRow width u) (limit_rows further limits)
    → product_sum (replicate (further_count limits) further_cost) (drop further u) ≡ pos 0
further_none width further [] u fits room keep = refl
further_none width further (l ∷ limits) u fits room keep =
    by (λ room keep. further_none width further limits u fits room keep) (λ room keep. further_none width (further + 1) limits u fits room keep) (l.low == 0) room (right_all (KeepsRow width u) (upper_rows l.column l.high) (cond (l.low == 0) (limit_rows further limits) (lower_rows further l.column l.low ++ limit_rows (further + 1) limits)) keep)
  where
    by : (further + further_count limits ≤ width → All (KeepsRow width u) (limit_rows further limits) → product_sum (replicate (further_count limits) further_cost) (drop further u) ≡ pos 0)
        → (further + 1 + further_count limits ≤ width → All (KeepsRow width u) (limit_rows (further + 1) limits) → product_sum (replicate (further_count limits) further_cost) (drop (further + 1) u) ≡ pos 0)
        → (t : Bool) → further + (cond t 0 1 + further_count limits) ≤ width
        → All (KeepsRow width u) (cond t (limit_rows further limits) (lower_rows further l.column l.low ++ limit_rows (further + 1) limits))
        → product_sum (replicate (cond t 0 1 + further_count limits) further_cost) (drop further u) ≡ pos 0
    by same next true room keep =
        let none : 0 + further_count limits ≡ further_count limits = omega arith in
        rw none (same (omega arith) keep)
    by same next false room keep =
        let more : 1 + further_count limits ≡ suc (further_count limits) = omega arith in
        let here = single_sum width further u (omega arith) in
        let most = keep 0 (record { terms = []; right = 0 }) (omega (arith, length-append (lower_rows further l.column l.low) (limit_rows (further + 1) limits))) in
        let nothing : get_or u further 0 ≡ 0 = omega (arith, ints) in
        let skipped : drop further u ≡ get_or u further 0 ∷ drop (suc further) u = drop-cons u further 0 (omega arith) in
        let after : suc further ≡ further + 1 = omega arith in
        let rest = next (omega arith) (right_all (KeepsRow width u) (lower_rows further l.column l.low) (limit_rows (further + 1) limits) keep) in
        rw (more, skipped, nothing, after, rest) (omega (arith, ints))

-- ---- Rays

zeros_sum : (n : ℕ) (u : List ℕ) → product_sum (replicate n (pos 0)) u ≡ pos 0
zeros_sum zero u = refl
zeros_sum (suc n) [] = refl
zeros_sum (suc n) (m ∷ u) = let rest = zeros_sum n u in omega (arith, ints)

padded_sum : (row : List ℤ) (n : ℕ) (u : List ℕ) → product_sum (row ++ replicate n (pos 0)) u ≡ product_sum row (take (length row) u)
padded_sum row n u = let zeros = zeros_sum n (drop (length row) u) in let parts = product_sum-append row (replicate n (pos 0)) u in omega (arith, ints)

module _ (d : RowsData) (limits : List Limits) (u : List ℕ) (shape : IsShaped d) (ray : IsRay (node_rows d limits) u) where
  wide : length (d.costs ++ replicate (further_count limits) further_cost) ≡ length d.costs + further_count limits
  wide = length-append d.costs (replicate (further_count limits) further_cost) ∙ ap (λ (n : ℕ). length d.costs + n) (length-replicate (further_count limits) further_cost)

  padded_count : length (map (λ (row : List ℤ). row ++ replicate (further_count limits) (pos 0)) d.rows) ≡ length d.rows
  padded_count = length-map d.rows (λ (row : List ℤ). row ++ replicate (further_count limits) (pos 0))

  -- a given row among the node's
  base_left : (i : ℕ) → i < length d.rows → left_side (node_rows d limits) i u ≡ left_side d i (take (length d.costs) u)
  base_left i h =
      let rows = map (λ (row : List ℤ). row ++ replicate (further_count limits) (pos 0)) d.rows in
      let more = map (λ (row : LimitRow). row_of_terms (length (d.costs ++ replicate (further_count limits) further_cost)) row.terms) (limit_rows (length d.costs) limits) in
      let there : row_at (node_rows d limits) i ≡ row_at d i ++ replicate (further_count limits) (pos 0) =
      get_or-append rows more [] i (let c = padded_count in omega arith) ∙ get_or-map (λ (row : List ℤ). row ++ replicate (further_count limits) (pos 0)) d.rows i [] [] h in
      let fits : length (row_at d i) ≡ length d.costs = All-get_or (λ row. length row ≡ length d.costs) d.rows i [] h shape.rows_fit in
      ap (λ (row : List ℤ). product_sum row u) there ∙ padded_sum (row_at d i) (further_count limits) u ∙ ap (λ (n : ℕ). product_sum (row_at d i) (take n u)) fits

  -- no row that says limits rises
  keeps_limits : All (KeepsRow (length (d.costs ++ replicate (further_count limits) further_cost)) u) (limit_rows (length d.costs) limits)
  keeps_limits k e h =
      let rows = map (λ (row : List ℤ). row ++ replicate (further_count limits) (pos 0)) d.rows in
      let of_terms : LimitRow → List ℤ = λ row. row_of_terms (length (d.costs ++ replicate (further_count limits) further_cost)) row.terms in
      let more = map of_terms (limit_rows (length d.costs) limits) in
      let many : length (rows ++ more) ≡ length d.rows + length (limit_rows (length d.costs) limits) = length-append rows more ∙ (let a = padded_count in let b = length-map (limit_rows (length d.costs) limits) of_terms in omega arith) in
      let there : row_at (node_rows d limits) (length rows + k) ≡ of_terms (get_or (limit_rows (length d.costs) limits) k e) =
      get_or-append-add rows more k [] ∙ get_or-map of_terms (limit_rows (length d.costs) limits) k e [] h in
      let keeps = ray.keeps (length rows + k) (let c = padded_count in omega arith) in
      subst (λ (row : List ℤ). product_sum row u ≤ℤ pos 0) there keeps

  none_further : product_sum (replicate (further_count limits) further_cost) (drop (length d.costs) u) ≡ pos 0
  none_further = further_none (length (d.costs ++ replicate (further_count limits) further_cost)) (length d.costs) limits u ray.fits (let w = wide in omega arith) keeps_limits

  pub ray_of_rows : IsRay d (take (length d.costs) u)
  ray_of_rows = record {
    fits = length-take-le (length d.costs) u (let w = wide in let f = ray.fits in omega arith);
    keeps = λ i h. (let keeps = ray.keeps i (many i h) in let same = base_left i h in omega (arith, ints));
    gains = (let gains = ray.gains in let none = none_further in let parts = product_sum-append d.costs (replicate (further_count limits) further_cost) u in omega (arith, ints));
  }
    where
      many : (i : ℕ) → i < length d.rows → i < length (map (λ (row : List ℤ). row ++ replicate (further_count limits) (pos 0)) d.rows ++ map (λ (row : LimitRow). row_of_terms (length (d.costs ++ replicate (further_count limits) further_cost)) row.terms) (limit_rows (length d.costs) limits))
      many i h = let c = padded_count in let parts = length-append (map (λ (row : List ℤ). row ++ replicate (further_count limits) (pos 0)) d.rows) (map (λ (row : LimitRow). row_of_terms (length (d.costs ++ replicate (further_count limits) further_cost)) row.terms) (limit_rows (length d.costs) limits)) in omega arith

-- ---- How many

pub node_columns : (d : RowsData) (limits : List Limits) → length d.costs ≤ length (node_rows d limits).costs
node_columns d limits = let wide = length-append d.costs (replicate (further_count limits) further_cost) in omega arith

pub node_count : (d : RowsData) (limits : List Limits) → length d.rows ≤ length (node_rows d limits).rows
node_count d limits =
    let pad : List ℤ → List ℤ = λ row. row ++ replicate (further_count limits) (pos 0) in
    let of_terms : LimitRow → List ℤ = λ row. row_of_terms (length (d.costs ++ replicate (further_count limits) further_cost)) row.terms in
    let parts = length-append (map pad d.rows) (map of_terms (limit_rows (length d.costs) limits)) in
    let base = length-map d.rows pad in
    omega arith
