-- A leaf is good where the multipliers of its node's rows cover their columns and it meets the bound.
use Rattle.std.proofs.Common.{◌≡◌, ℕ, ◌+◌, ◌<◌, ◌≤◌, true, List, [], ◌∷◌, ◌++◌, map, length, get_or, take, drop, replicate, ℤ, pos, ◌+ℤ◌, ◌*ℤ◌, ◌≤ℤ◌, ◌<ℤ◌, All, refl, sym, ap, subst, ◌∙◌, arith, zero-add}
use Rattle.std.specs.Prelude.{int_lt}
use Rattle.std.proofs.lemmas.Int.{ints}
use Rattle.std.proofs.lemmas.List.{append-nil, map-append, length-append, length-map, length-take-le}
use Rattle.std.proofs.lemmas.List.Elements.{All-head, All-tail}
use Rattle.std.proofs.lemmas.List.FromFn.{get_or-map-range_with_len}
use Rattle.std.proofs.Math.ListN.{get_or-append}
use Rattle.whole_rows.specs.Duals.{CoversColumns}
use Rattle.whole_rows.specs.Rows.{RowsData, IsShaped, column_of, column_sum, cost_at, product_sum}
use Rattle.whole_rows.specs.Terms.{entry_of, row_of_terms}
use Rattle.split_trees.specs.declared.side.Side.{Side}
use Rattle.split_trees.specs.Sides.{row_of, split_rows, term_of}
use Rattle.cut_search.specs.declared.limits.Limits.{Limits}
use Rattle.cut_search.specs.Leaves.{high_multipliers, high_sides, leaf_multipliers, low_multipliers, low_sides, row_count, side_multipliers, sides_of, upper_count}
use Rattle.cut_search.specs.Nodes.{LimitRow, further_cost, further_count, limit_rows, node_rows}
use Rattle.cut_search.proofs.Covering.{limit_entry, limits_part, side_count, side_entry}
use Rattle.cut_search.proofs.Products.{product_sum-append, product_sum-parts}

-- ---- The entries of one column

base_column : (j columns more : ℕ) (rows : List (List ℤ)) → j < columns → All (λ row. length row ≡ columns) rows
    → map (λ (row : List ℤ). get_or row j (pos 0)) (map (λ (row : List ℤ). row ++ replicate more (pos 0)) rows) ≡ map (λ (row : List ℤ). get_or row j (pos 0)) rows
base_column j columns more [] h fit = refl
base_column j columns more (row ∷ rows) h fit =
    let width : length row ≡ columns = All-head (λ row. length row ≡ columns) row rows fit in
    let here = get_or-append row (replicate more (pos 0)) (pos 0) j (omega arith) in
    let rest = base_column j columns more rows h (All-tail (λ row. length row ≡ columns) row rows fit) in
    rw (here, rest) refl

limit_column : (j width : ℕ) (rows : List LimitRow) → j < width
    → map (λ (row : List ℤ). get_or row j (pos 0)) (map (λ (row : LimitRow). row_of_terms width row.terms) rows) ≡ map (limit_entry j) rows
limit_column j width [] h = refl
limit_column j width (row ∷ rows) h =
    let here = get_or-map-range_with_len (entry_of row.terms) 0 width j j (pos 0) h (zero-add j) in
    rw (here, limit_column j width rows h) refl

side_column : (j columns : ℕ) (sides : List Side) → j < columns
    → map (λ (row : List ℤ). get_or row j (pos 0)) (map (row_of columns) sides) ≡ map (side_entry j) sides
side_column j columns [] h = refl
side_column j columns (side ∷ sides) h =
    let here = get_or-map-range_with_len (entry_of (term_of side ∷ [])) 0 columns j j (pos 0) h (zero-add j) in
    rw (here, side_column j columns sides h) refl

node_sum : (d : RowsData) (limits : List Limits) (ms : List ℕ) (j : ℕ) → IsShaped d → j < length d.costs
    → column_sum (node_rows d limits) ms j ≡ product_sum (column_of d j) (take (length d.rows) ms) +ℤ product_sum (map (limit_entry j) (limit_rows (length d.costs) limits)) (drop (length d.rows) ms)
node_sum d limits ms j shape h =
    let zeros = further_count limits in
    let width = length (d.costs ++ replicate zeros further_cost) in
    let more = limit_rows (length d.costs) limits in
    let get : List ℤ → ℤ = λ row. get_or row j (pos 0) in
    let wide = length-append d.costs (replicate zeros further_cost) in
    let column : column_of (node_rows d limits) j ≡ column_of d j ++ map (limit_entry j) more =
    map-append get (map (λ (row : List ℤ). row ++ replicate zeros (pos 0)) d.rows) (map (λ (row : LimitRow). row_of_terms width row.terms) more)
    ∙ ap (λ (xs : List ℤ). xs ++ map get (map (λ (row : LimitRow). row_of_terms width row.terms) more)) (base_column j (length d.costs) zeros d.rows h shape.rows_fit)
    ∙ ap (λ (xs : List ℤ). column_of d j ++ xs) (limit_column j width more (omega arith)) in
    let count : length (column_of d j) ≡ length d.rows = length-map d.rows get in
    ap (λ (xs : List ℤ). product_sum xs ms) column
    ∙ product_sum-append (column_of d j) (map (limit_entry j) more) ms
    ∙ ap (λ (n : ℕ). product_sum (column_of d j) (take n ms) +ℤ product_sum (map (limit_entry j) more) (drop n ms)) count

leaf_sum : (d : RowsData) (limits : List Limits) (ms : List ℕ) (j : ℕ) → length d.rows ≤ length ms → j < length d.costs
    → column_sum (split_rows d (sides_of limits)) (leaf_multipliers d limits ms) j ≡ product_sum (column_of d j) (take (length d.rows) ms) +ℤ product_sum (map (side_entry j) (sides_of limits)) (side_multipliers limits (drop (length d.rows) ms))
leaf_sum d limits ms j long h =
    let get : List ℤ → ℤ = λ row. get_or row j (pos 0) in
    let column : column_of (split_rows d (sides_of limits)) j ≡ column_of d j ++ map (side_entry j) (sides_of limits) =
    map-append get d.rows (map (row_of (length d.costs)) (sides_of limits))
    ∙ ap (λ (xs : List ℤ). column_of d j ++ xs) (side_column j (length d.costs) (sides_of limits) h) in
    let count : length (column_of d j) ≡ length (take (length d.rows) ms) = length-map d.rows get ∙ sym (length-take-le (length d.rows) ms long) in
    ap (λ (xs : List ℤ). product_sum xs (leaf_multipliers d limits ms)) column
    ∙ product_sum-parts (column_of d j) (map (side_entry j) (sides_of limits)) (take (length d.rows) ms) (side_multipliers limits (drop (length d.rows) ms)) count

-- ---- Covering

pub leaf_covers : (d : RowsData) (limits : List Limits) (ms : List ℕ) (denominator : ℕ) → IsShaped d → length d.rows ≤ length ms
    → CoversColumns (node_rows d limits) ms denominator → CoversColumns (split_rows d (sides_of limits)) (leaf_multipliers d limits ms) denominator
leaf_covers d limits ms denominator shape long covers j h =
    let wide = length-append d.costs (replicate (further_count limits) further_cost) in
    let cost : cost_at (node_rows d limits) j ≡ get_or d.costs j (pos 0) = get_or-append d.costs (replicate (further_count limits) further_cost) (pos 0) j h in
    let sums : column_sum (node_rows d limits) ms j ≡ column_sum (split_rows d (sides_of limits)) (leaf_multipliers d limits ms) j =
    node_sum d limits ms j shape h
    ∙ ap (λ (z : ℤ). product_sum (column_of d j) (take (length d.rows) ms) +ℤ z) (limits_part j (length d.costs) limits (drop (length d.rows) ms) h)
    ∙ sym (leaf_sum d limits ms j long h) in
    same (pos denominator *ℤ get_or d.costs j (pos 0)) (ap (λ (z : ℤ). pos denominator *ℤ z) cost) sums (covers j (omega arith))
  where
    same : {a c e : ℤ} (b : ℤ) → a ≡ b → c ≡ e → a ≤ℤ c → b ≤ℤ e
    same {c = c} b p q le = subst (λ (x : ℤ). b ≤ℤ x) q (subst (λ (x : ℤ). x ≤ℤ c) p le)

-- ---- Good leaves

sides_length : (limits : List Limits) (ms : List ℕ) → length (side_multipliers limits ms) ≡ length (sides_of limits)
sides_length [] ms = refl
sides_length (l ∷ limits) ms =
    let own = high_multipliers l.low (get_or ms (upper_count l.high + 1) 0) ++ low_multipliers l.high (get_or ms 0 0) in
    let numbers = length-append own (side_multipliers limits (drop (row_count l) ms)) in
    let sides = length-append (high_sides l.column l.low ++ low_sides l.column l.high) (sides_of limits) in
    let first = side_count 0 l ms in
    let first_sides = length-map (sides_of (l ∷ [])) (side_entry 0) ∙ ap length (append-nil (high_sides l.column l.low ++ low_sides l.column l.high)) in
    let first_numbers = ap length (append-nil own) in
    let rest = sides_length limits (drop (row_count l) ms) in
    omega arith

pub leaf_counted : (d : RowsData) (limits : List Limits) (ms : List ℕ) → length d.rows ≤ length ms → length (leaf_multipliers d limits ms) ≡ length (split_rows d (sides_of limits)).rows
leaf_counted d limits ms long =
    let numbers = length-append (take (length d.rows) ms) (side_multipliers limits (drop (length d.rows) ms)) in
    let base = length-take-le (length d.rows) ms long in
    let rows = length-append d.rows (map (row_of (length d.costs)) (sides_of limits)) in
    let sides = length-map (sides_of limits) (row_of (length d.costs)) in
    let rest = sides_length limits (drop (length d.rows) ms) in
    omega arith

pub is_below : (a b : ℤ) → int_lt a b ≡ true → a <ℤ b
is_below a b h = grind (arith, ints)
