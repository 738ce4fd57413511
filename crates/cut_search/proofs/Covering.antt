-- A leaf's multipliers cover the columns that those of the node's rows cover.
use Rattle.std.proofs.Common.{◌≡◌, ℕ, zero, suc, ◌+◌, ◌-◌, ◌<◌, ◌==◌, Bool, false, cond, List, [], ◌∷◌, ◌++◌, map, length, get_or, take, drop, replicate, ℤ, pos, negsuc, ◌+ℤ◌, ◌*ℤ◌, Option, Some, None, refl, sym, ap, ◌∙◌, arith}
use Rattle.std.specs.List.{range_with_len}
use Rattle.std.proofs.lemmas.Bool.{ne_eqb}
use Rattle.std.proofs.lemmas.Int.{ints}
use Rattle.std.proofs.lemmas.List.{append-nil, map-append, length-append, length-map, length-replicate, replicate_more}
use Rattle.whole_rows.specs.Rows.{product_sum}
use Rattle.whole_rows.specs.Terms.{entry_of}
use Rattle.split_trees.specs.declared.side.Side.{Side}
use Rattle.split_trees.specs.declared.side.Side.TheVariants.{AtMost, Above}
use Rattle.split_trees.specs.Sides.{term_of}
use Rattle.cut_search.specs.declared.limits.Limits.{Limits}
use Rattle.cut_search.specs.Leaves.{high_sides, low_sides, sides_of, high_multipliers, low_multipliers, side_multipliers, row_count, upper_count, lower_count}
use Rattle.cut_search.specs.Nodes.{LimitRow, further_count, limit_rows, lower_rows, upper_rows}
use Rattle.cut_search.proofs.LeafParts.{sides_of-append}
use Rattle.cut_search.proofs.NodeRows.{limit_rows-cons}
use Rattle.cut_search.proofs.Products.{product_sum-append, product_sum-parts, product_sum-take, product_sum-one, product_sum-two, product_sum-three, product_sum-last}

-- ---- Entries at one column

-- the entry of a limit row and of a side's row
abbrev pub limit_entry : ℕ → LimitRow → ℤ
limit_entry j row = entry_of row.terms j

abbrev pub side_entry : ℕ → Side → ℤ
side_entry j side = entry_of (term_of side ∷ []) j

not_none : (n : ℕ) → (suc n == 0) ≡ false
not_none n = ne_eqb (suc n) 0 (λ e. absurd (omega arith))

-- each high side of a column has the same entry
high_entries : (j column start low : ℕ) → map (side_entry j) (map (Above column) (range_with_len start low)) ≡ replicate low (side_entry j (Above column 0))
high_entries j column start zero = refl
high_entries j column start (suc low) = ap (λ (xs : List ℤ). side_entry j (Above column 0) ∷ xs) (high_entries j column (start + 1) low)

-- what the high sides of a column add up to
high_part : (j column low m : ℕ) → product_sum (map (side_entry j) (high_sides column low)) (high_multipliers low m) ≡ cond (low == 0) (pos 0) (side_entry j (Above column 0) *ℤ pos m)
high_part j column zero m = refl
high_part j column (suc low) m =
    let same : replicate (suc low) (side_entry j (Above column 0)) ≡ replicate low (side_entry j (Above column 0)) ++ side_entry j (Above column 0) ∷ [] =
    (let next : suc low ≡ low + 1 = omega arith in ap (λ (n : ℕ). replicate n (side_entry j (Above column 0))) next ∙ sym (replicate_more low (side_entry j (Above column 0)))) in
    let less : suc low - 1 ≡ low = omega arith in
    rw (not_none low) (ap (λ (xs : List ℤ). product_sum xs (replicate (suc low - 1) 0 ++ m ∷ [])) (high_entries j column 0 (suc low) ∙ same)
    ∙ ap (λ (n : ℕ). product_sum (replicate low (side_entry j (Above column 0)) ++ side_entry j (Above column 0) ∷ []) (replicate n 0 ++ m ∷ [])) less
    ∙ product_sum-last (side_entry j (Above column 0)) low m)

high_length : (j column low m : ℕ) → length (map (side_entry j) (high_sides column low)) ≡ length (high_multipliers low m)
high_length j column zero m = refl
high_length j column (suc low) m =
    let same = ap length (high_entries j column 0 (suc low)) ∙ length-replicate (suc low) (side_entry j (Above column 0)) in
    let parts = length-append (replicate (suc low - 1) 0) (m ∷ []) in
    let zeros = length-replicate {A = ℕ} (suc low - 1) 0 in
    rw (not_none low) (omega arith)

-- what its low side adds
low_part : ℕ → ℕ → Option ℕ → ℕ → ℤ
low_part j column None m = pos 0
low_part j column (Some high) m = side_entry j (AtMost column high) *ℤ pos m

low_part-is : (j column m : ℕ) (high : Option ℕ) → product_sum (map (side_entry j) (low_sides column high)) (low_multipliers high m) ≡ low_part j column high m
unfolding low_part
low_part-is j column m None = refl
low_part-is j column m (Some high) = omega (arith, ints)

-- what the sides of one column add up to
own_sides : (j : ℕ) (l : Limits) (ms : List ℕ) → product_sum (map (side_entry j) (sides_of (l ∷ []))) (side_multipliers (l ∷ []) ms)
    ≡ cond (l.low == 0) (pos 0) (side_entry j (Above l.column 0) *ℤ pos (get_or ms (upper_count l.high + 1) 0)) +ℤ low_part j l.column l.high (get_or ms 0 0)
own_sides j l ms =
    let m = get_or ms (upper_count l.high + 1) 0 in
    let high = high_sides l.column l.low in
    let low = low_sides l.column l.high in
    let all : sides_of (l ∷ []) ≡ high ++ low = append-nil (high ++ low) in
    let numbers : side_multipliers (l ∷ []) ms ≡ high_multipliers l.low m ++ low_multipliers l.high (get_or ms 0 0) = append-nil (high_multipliers l.low m ++ low_multipliers l.high (get_or ms 0 0)) in
    ap (λ (ss : List Side). product_sum (map (side_entry j) ss) (side_multipliers (l ∷ []) ms)) all
    ∙ ap (λ (xs : List ℤ). product_sum xs (side_multipliers (l ∷ []) ms)) (map-append (side_entry j) high low)
    ∙ ap (λ (ns : List ℕ). product_sum (map (side_entry j) high ++ map (side_entry j) low) ns) numbers
    ∙ product_sum-parts (map (side_entry j) high) (map (side_entry j) low) (high_multipliers l.low m) (low_multipliers l.high (get_or ms 0 0)) (high_length j l.column l.low m)
    ∙ ap (λ (z : ℤ). z +ℤ product_sum (map (side_entry j) low) (low_multipliers l.high (get_or ms 0 0))) (high_part j l.column l.low m)
    ∙ ap (λ (z : ℤ). cond (l.low == 0) (pos 0) (side_entry j (Above l.column 0) *ℤ pos m) +ℤ z) (low_part-is j l.column (get_or ms 0 0) l.high)

lower_entries : (j further column low : ℕ) → j < further → map (limit_entry j) (lower_rows further column low) ≡ pos 0 ∷ side_entry j (Above column 0) ∷ []
lower_entries j further column low h =
    ap (λ (t : Bool). cond t (pos 1) (pos 0) ∷ cond (column == j) (negsuc 0) (cond t (pos 1) (pos 0)) ∷ []) (ne_eqb further j (λ e. absurd (omega arith)))

-- with a lower limit above 0
limited_rows : (j further column low : ℕ) (high : Option ℕ) (ms : List ℕ) → j < further
    → product_sum (map (limit_entry j) (upper_rows column high ++ (lower_rows further column low ++ []))) ms
    ≡ (side_entry j (Above column 0) *ℤ pos (get_or ms (upper_count high + 1) 0)) +ℤ low_part j column high (get_or ms 0 0)
unfolding low_part
limited_rows j further column low None ms h =
    ap (λ (xs : List ℤ). product_sum xs ms) (lower_entries j further column low h) ∙ product_sum-two (pos 0) (side_entry j (Above column 0)) ms ∙ omega (arith, ints)
limited_rows j further column low (Some high) ms h =
    ap (λ (xs : List ℤ). product_sum (side_entry j (AtMost column high) ∷ xs) ms) (lower_entries j further column low h) ∙ product_sum-three (side_entry j (AtMost column high)) (pos 0) (side_entry j (Above column 0)) ms ∙ omega (arith, ints)

-- what the rows that say its limits add up to, at a column before the further ones
own_rows : (j further column low : ℕ) (high : Option ℕ) (ms : List ℕ) → j < further
    → product_sum (map (limit_entry j) (upper_rows column high ++ cond (low == 0) [] (lower_rows further column low ++ []))) ms
    ≡ cond (low == 0) (pos 0) (side_entry j (Above column 0) *ℤ pos (get_or ms (upper_count high + 1) 0)) +ℤ low_part j column high (get_or ms 0 0)
unfolding low_part
own_rows j further column zero None ms h = refl
own_rows j further column zero (Some high) ms h = product_sum-one (side_entry j (AtMost column high)) ms ∙ omega (arith, ints)
own_rows j further column (suc low) high ms h =
    ap (λ (t : Bool). product_sum (map (limit_entry j) (upper_rows column high ++ cond t [] (lower_rows further column (suc low) ++ []))) ms) (not_none low)
    ∙ limited_rows j further column (suc low) high ms h
    ∙ ap (λ (t : Bool). cond t (pos 0) (side_entry j (Above column 0) *ℤ pos (get_or ms (upper_count high + 1) 0)) +ℤ low_part j column high (get_or ms 0 0)) (sym (not_none low))

own_part : (j further : ℕ) (l : Limits) (ms : List ℕ) → j < further
    → product_sum (map (limit_entry j) (limit_rows further (l ∷ []))) ms ≡ product_sum (map (side_entry j) (sides_of (l ∷ []))) (side_multipliers (l ∷ []) ms)
own_part j further l ms h = own_rows j further l.column l.low l.high ms h ∙ sym (own_sides j l ms)

-- ---- All limits

pub limit_count : (further : ℕ) (l : Limits) → length (limit_rows further (l ∷ [])) ≡ row_count l
limit_count further l = by l.low l.high
  where
    by : (low : ℕ) (high : Option ℕ) → length (upper_rows l.column high ++ cond (low == 0) [] (lower_rows further l.column low ++ [])) ≡ upper_count high + lower_count low
    by zero None = refl
    by zero (Some high) = refl
    by (suc low) None = rw (not_none low) refl
    by (suc low) (Some high) = rw (not_none low) refl

pub side_count : (j : ℕ) (l : Limits) (ms : List ℕ) → length (map (side_entry j) (sides_of (l ∷ []))) ≡ length (side_multipliers (l ∷ []) ms)
side_count j l ms =
    let m = get_or ms (upper_count l.high + 1) 0 in
    let high = high_sides l.column l.low in
    let low = low_sides l.column l.high in
    let sides = ap (λ (ss : List Side). length (map (side_entry j) ss)) (append-nil (high ++ low)) ∙ ap length (map-append (side_entry j) high low) ∙ length-append (map (side_entry j) high) (map (side_entry j) low) in
    let numbers = ap length (append-nil (high_multipliers l.low m ++ low_multipliers l.high (get_or ms 0 0))) ∙ length-append (high_multipliers l.low m) (low_multipliers l.high (get_or ms 0 0)) in
    let first = high_length j l.column l.low m in
    let second = of_low l.high in
    omega arith
  where
    of_low : (high : Option ℕ) → length (map (side_entry j) (low_sides l.column high)) ≡ length (low_multipliers high (get_or ms 0 0))
    of_low None = refl
    of_low (Some high) = refl

-- at a column before the further ones the rows that say the limits add up to what the sides do
pub limits_part : (j further : ℕ) (limits : List Limits) (ms : List ℕ) → j < further
    → product_sum (map (limit_entry j) (limit_rows further limits)) ms ≡ product_sum (map (side_entry j) (sides_of limits)) (side_multipliers limits ms)
limits_part j further [] ms h = refl
limits_part j further (l ∷ limits) ms h =
    let own = limit_rows further (l ∷ []) in
    let next = further + further_count (l ∷ []) in
    let count : length (map (limit_entry j) own) ≡ row_count l = length-map own (limit_entry j) ∙ limit_count further l in
    let first : product_sum (map (limit_entry j) own) (take (length (map (limit_entry j) own)) ms) ≡ product_sum (map (side_entry j) (sides_of (l ∷ []))) (side_multipliers (l ∷ []) ms) =
    product_sum-take (map (limit_entry j) own) ms ∙ own_part j further l ms h in
    let rest : product_sum (map (limit_entry j) (limit_rows next limits)) (drop (length (map (limit_entry j) own)) ms) ≡ product_sum (map (side_entry j) (sides_of limits)) (side_multipliers limits (drop (row_count l) ms)) =
    ap (λ (n : ℕ). product_sum (map (limit_entry j) (limit_rows next limits)) (drop n ms)) count ∙ limits_part j next limits (drop (row_count l) ms) (omega arith) in
    ap (λ (rows : List LimitRow). product_sum (map (limit_entry j) rows) ms) (limit_rows-cons further l limits)
    ∙ ap (λ (xs : List ℤ). product_sum xs ms) (map-append (limit_entry j) own (limit_rows next limits))
    ∙ product_sum-append (map (limit_entry j) own) (map (limit_entry j) (limit_rows next limits)) ms
    ∙ ap (λ (z : ℤ). z +ℤ product_sum (map (limit_entry j) (limit_rows next limits)) (drop (length (map (limit_entry j) own)) ms)) first
    ∙ ap (λ (z : ℤ). product_sum (map (side_entry j) (sides_of (l ∷ []))) (side_multipliers (l ∷ []) ms) +ℤ z) rest
    ∙ sym (product_sum-parts (map (side_entry j) (sides_of (l ∷ []))) (map (side_entry j) (sides_of limits)) (side_multipliers (l ∷ []) ms) (side_multipliers limits (drop (row_count l) ms)) (side_count j l ms))
    ∙ ap (λ (xs : List ℤ). product_sum xs (side_multipliers (l ∷ []) ms ++ side_multipliers limits (drop (row_count l) ms))) (sym (map-append (side_entry j) (sides_of (l ∷ [])) (sides_of limits)))
    ∙ ap (λ (ss : List Side). product_sum (map (side_entry j) ss) (side_multipliers (l ∷ []) ms ++ side_multipliers limits (drop (row_count l) ms))) (sym (sides_of-append (l ∷ []) limits))
    ∙ ap (product_sum (map (side_entry j) (sides_of (l ∷ limits)))) (numbers (row_count l) refl)
  where
    numbers : (n : ℕ) → n ≡ row_count l → side_multipliers (l ∷ []) ms ++ side_multipliers limits (drop (row_count l) ms) ≡ side_multipliers (l ∷ limits) ms
    numbers n e = ap (λ (ns : List ℕ). ns ++ side_multipliers limits (drop (row_count l) ms)) (append-nil (high_multipliers l.low (get_or ms (upper_count l.high + 1) 0) ++ low_multipliers l.high (get_or ms 0 0)))
