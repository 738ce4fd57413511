-- Leaves, grown column by column.
use Rattle.std.proofs.Common.{◌≡◌, ℕ, ◌+◌, ◌<◌, ◌≤◌, List, [], ◌∷◌, ◌++◌, length, get_or, take, drop, refl, sym, ap, ◌∙◌, append_assoc, arith}
use Rattle.std.proofs.lemmas.List.{drop-drop, take-append-drop, take_more}
use Rattle.cut_search.specs.declared.limits.Limits.{Limits}
use Rattle.cut_search.specs.Leaves.{high_sides, low_sides, sides_of, high_multipliers, low_multipliers, side_multipliers, row_count, upper_count}
use Rattle.cut_search.specs.Search.{no_limits}
use Rattle.cut_search.specs.Working.Leaves.{limit_row_count}

-- ---- How many rows say the limits

pub limit_row_count-append : (xs ys : List Limits) → limit_row_count (xs ++ ys) ≡ limit_row_count xs + limit_row_count ys
limit_row_count-append [] ys = omega arith
limit_row_count-append (l ∷ xs) ys = let rest = limit_row_count-append xs ys in omega arith

pub limit_row_count_more : (ls : List Limits) (i : ℕ) → i < length ls → limit_row_count (take (i + 1) ls) ≡ limit_row_count (take i ls) + row_count (get_or ls i no_limits)
limit_row_count_more ls i h = let more = ap limit_row_count (take_more ls i no_limits h) in let parts = limit_row_count-append (take i ls) (get_or ls i no_limits ∷ []) in omega arith

pub limit_row_count-take : (ls : List Limits) (i : ℕ) → limit_row_count (take i ls) ≤ limit_row_count ls
limit_row_count-take ls i =
    let whole = ap limit_row_count (take-append-drop i ls) in
    let parts = limit_row_count-append (take i ls) (drop i ls) in
    omega arith

-- ---- Sides

pub sides_of-append : (xs ys : List Limits) → sides_of (xs ++ ys) ≡ sides_of xs ++ sides_of ys
sides_of-append [] ys = refl
sides_of-append (l ∷ xs) ys =
    let sides = high_sides l.column l.low ++ low_sides l.column l.high in
    rw (sides_of-append xs ys) (sym (append_assoc sides (sides_of xs) (sides_of ys)))

pub sides_of_more : (ls : List Limits) (i : ℕ) → i < length ls → sides_of (take (i + 1) ls) ≡ sides_of (take i ls) ++ sides_of (get_or ls i no_limits ∷ [])
sides_of_more ls i h = ap sides_of (take_more ls i no_limits h) ∙ sides_of-append (take i ls) (get_or ls i no_limits ∷ [])

-- ---- Multipliers

pub side_multipliers-append : (xs ys : List Limits) (ms : List ℕ) → side_multipliers (xs ++ ys) ms ≡ side_multipliers xs ms ++ side_multipliers ys (drop (limit_row_count xs) ms)
side_multipliers-append [] ys ms = refl
side_multipliers-append (l ∷ xs) ys ms =
    let own = high_multipliers l.low (get_or ms (upper_count l.high + 1) 0) ++ low_multipliers l.high (get_or ms 0 0) in
    let skipped : drop (limit_row_count xs) (drop (row_count l) ms) ≡ drop (row_count l + limit_row_count xs) ms = drop-drop (limit_row_count xs) (row_count l) ms in
    rw (side_multipliers-append xs ys (drop (row_count l) ms), skipped) (sym (append_assoc own (side_multipliers xs (drop (row_count l) ms)) (side_multipliers ys (drop (row_count l + limit_row_count xs) ms))))

pub side_multipliers_more : (ls : List Limits) (i : ℕ) (ms : List ℕ) → i < length ls → side_multipliers (take (i + 1) ls) ms ≡ side_multipliers (take i ls) ms ++ side_multipliers (get_or ls i no_limits ∷ []) (drop (limit_row_count (take i ls)) ms)
side_multipliers_more ls i ms h = ap (λ (l : List Limits). side_multipliers l ms) (take_more ls i no_limits h) ∙ side_multipliers-append (take i ls) (get_or ls i no_limits ∷ []) ms
