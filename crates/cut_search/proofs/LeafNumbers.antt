-- The multipliers of a leaf are as many as its rows, cover its columns and are small, and its sides too.
use Rattle.std.proofs.Common.{◌≡◌, ℕ, zero, suc, ◌+◌, ◌-◌, ◌*◌, ◌^◌, ◌<◌, ◌==◌, Bool, true, false, cond, List, [], ◌∷◌, ◌++◌, map, length, get_or, take, drop, replicate, ℤ, pos, Option, Some, None, All, refl, sym, ap, subst, ◌∙◌, arith}
use Rattle.std.specs.List.{range_with_len}
use Rattle.std.specs.Prelude.{int_lt, unsigned_abs}
use Rattle.std.proofs.lemmas.Int.{ints}
use Rattle.std.proofs.lemmas.List.{length-append, length-map}
use Rattle.std.proofs.lemmas.List.Elements.{All-append, All-cons, All-head, All-nil, All-replicate, All-tail}
use Rattle.whole_rows.specs.Duals.{IsFirstFailing, first_failing_of}
use Rattle.whole_rows.specs.Rows.{RowsData, IsShaped, right_sum}
use Rattle.whole_rows.specs.Terms.{row_of_terms}
use Rattle.whole_rows.specs.declared.DualVerdict.{DualVerdict}
use Rattle.whole_rows.specs.declared.DualVerdict.TheVariants.{Yes, Count, Column, Bound}
use Rattle.whole_rows.proofs.Verdicts.{first_failing_holds}
use Rattle.whole_simplex.specs.Answers.{IsSmall}
use Rattle.whole_simplex.specs.declared.Optimum.{Optimum}
use Rattle.split_trees.specs.Sides.{split_rows}
use Rattle.split_trees.specs.Working.Judging.{IsSmallSide}
use Rattle.split_trees.specs.declared.side.Side.{Side}
use Rattle.split_trees.specs.declared.side.Side.TheVariants.{AtMost, Above}
use Rattle.cut_search.specs.declared.limits.Limits.{Limits}
use Rattle.cut_search.specs.Leaves.{high_multipliers, high_sides, leaf_multipliers, low_multipliers, low_sides, row_count, side_multipliers, sides_of, upper_count}
use Rattle.cut_search.specs.Nodes.{LimitRow, further_cost, further_count, limit_rows}
use Rattle.cut_search.specs.Search.{meets_bound}
use Rattle.cut_search.specs.Working.Leaves.{limit_row_count}
use Rattle.cut_search.specs.Working.Limits.{HasSmallLimits, IsSmallHigh}
use Rattle.cut_search.specs.Working.Searching.{AreLeafMultipliers, IsNodeOptimum, is_yes}
use Rattle.cut_search.proofs.Covering.{limit_count}
use Rattle.cut_search.proofs.GoodLeaves.{leaf_counted, leaf_covers}
use Rattle.cut_search.proofs.NodeRows.{limit_rows-cons}
use Rattle.cut_search.proofs.Parts.{drop_all_of, read_of, take_all_of}

-- ---- How many

limit_rows_length : (further : ℕ) (limits : List Limits) → length (limit_rows further limits) ≡ limit_row_count limits
limit_rows_length further [] = refl
limit_rows_length further (l ∷ limits) =
    let parts = ap length (limit_rows-cons further l limits) ∙ length-append (limit_rows further (l ∷ [])) (limit_rows (further + further_count (l ∷ [])) limits) in
    let own = limit_count further l in
    let rest = limit_rows_length (further + further_count (l ∷ [])) limits in
    omega arith

pub node_counted : (d : RowsData) (limits : List Limits) (optimum : Optimum) → IsNodeOptimum d limits optimum → length (map unsigned_abs optimum.multipliers) ≡ length d.rows + limit_row_count limits
node_counted d limits optimum is =
    let sizes = length-map optimum.multipliers unsigned_abs in
    let counted = is.greatest.counted in
    let pad : List ℤ → List ℤ = λ row. row ++ replicate (further_count limits) (pos 0) in
    let of_terms : LimitRow → List ℤ = λ row. row_of_terms (length (d.costs ++ replicate (further_count limits) further_cost)) row.terms in
    let parts = length-append (map pad d.rows) (map of_terms (limit_rows (length d.costs) limits)) in
    let base = length-map d.rows pad in
    let more = length-map (limit_rows (length d.costs) limits) of_terms in
    let count = limit_rows_length (length d.costs) limits in
    omega arith

-- ---- How large

abbrev IsLow : ℕ → Type 0
IsLow m = m < 2 ^ 80

sizes_small : (ms : List ℤ) → All IsSmall ms → All IsLow (map unsigned_abs ms)
sizes_small [] small = All-nil IsLow
sizes_small (m ∷ ms) small =
    let here = All-head IsSmall m ms small in
    let below = here.1 in
    let above = here.0 in
    All-cons IsLow (unsigned_abs m) (map unsigned_abs ms) (omega (arith, ints)) (sizes_small ms (All-tail IsSmall m ms small))

high_small : (low m : ℕ) → IsLow m → All IsLow (high_multipliers low m)
high_small low m small = by (low == 0)
  where
    by : (t : Bool) → All IsLow (cond t [] (replicate (low - 1) 0 ++ m ∷ []))
    by true = All-nil IsLow
    by false = All-append IsLow (replicate (low - 1) 0) (m ∷ []) (All-replicate IsLow (low - 1) 0 (omega arith)) (All-cons IsLow m [] small (All-nil IsLow))

low_small : (high : Option ℕ) (m : ℕ) → IsLow m → All IsLow (low_multipliers high m)
low_small None m small = All-nil IsLow
low_small (Some high) m small = All-cons IsLow m [] small (All-nil IsLow)

side_numbers_small : (limits : List Limits) (ms : List ℕ) → All IsLow ms → All IsLow (side_multipliers limits ms)
side_numbers_small [] ms small = All-nil IsLow
side_numbers_small (l ∷ limits) ms small =
    let high = get_or ms (upper_count l.high + 1) 0 in
    let low = get_or ms 0 0 in
    All-append IsLow (high_multipliers l.low high ++ low_multipliers l.high low) (side_multipliers limits (drop (row_count l) ms))
    (All-append IsLow (high_multipliers l.low high) (low_multipliers l.high low)
    (high_small l.low high (read_of IsLow ms (upper_count l.high + 1) 0 small (omega arith)))
    (low_small l.high low (read_of IsLow ms 0 0 small (omega arith))))
    (side_numbers_small limits (drop (row_count l) ms) (drop_all_of IsLow (row_count l) ms small))

pub leaf_of_node : (d : RowsData) (limits : List Limits) (optimum : Optimum) → IsShaped d → IsNodeOptimum d limits optimum
    → AreLeafMultipliers d (sides_of limits) (leaf_multipliers d limits (map unsigned_abs optimum.multipliers)) (unsigned_abs optimum.denominator)
leaf_of_node d limits optimum shape is =
    let ms = map unsigned_abs optimum.multipliers in
    let count = node_counted d limits optimum is in
    let small = sizes_small optimum.multipliers is.greatest.multipliers_small in
    let denominator = is.greatest.denominator_small in
    let most = denominator.1 in
    let above = is.greatest.denominator_above in
    record {
      counted = leaf_counted d limits ms (omega arith);
      covers = leaf_covers d limits ms (unsigned_abs optimum.denominator) shape (omega arith) is.greatest.covers;
      small = All-append IsLow (take (length d.rows) ms) (side_multipliers limits (drop (length d.rows) ms)) (take_all_of IsLow (length d.rows) ms small) (side_numbers_small limits (drop (length d.rows) ms) (drop_all_of IsLow (length d.rows) ms small));
      denominator_small = (omega (arith, ints), omega (arith, ints));
    }

-- ---- Sides

high_sides_small : (column start low : ℕ) → start + low < 2 ^ 31 → All IsSmallSide (map (Above column) (range_with_len start low))
high_sides_small column start zero h = All-nil IsSmallSide
high_sides_small column start (suc low) h =
    All-cons IsSmallSide (Above column start) (map (Above column) (range_with_len (start + 1) low)) (omega arith) (high_sides_small column (start + 1) low (omega arith))

low_sides_small : (column : ℕ) (high : Option ℕ) → IsSmallHigh high → All IsSmallSide (low_sides column high)
low_sides_small column None small = All-nil IsSmallSide
low_sides_small column (Some high) small = All-cons IsSmallSide (AtMost column high) [] small (All-nil IsSmallSide)

pub sides_small : (limits : List Limits) → All HasSmallLimits limits → All IsSmallSide (sides_of limits)
sides_small [] small = All-nil IsSmallSide
sides_small (l ∷ limits) small =
    let here = All-head HasSmallLimits l limits small in
    let below = here.low in
    All-append IsSmallSide (high_sides l.column l.low ++ low_sides l.column l.high) (sides_of limits)
    (All-append IsSmallSide (high_sides l.column l.low) (low_sides l.column l.high) (high_sides_small l.column 0 l.low (omega arith)) (low_sides_small l.column l.high here.high))
    (sides_small limits (All-tail HasSmallLimits l limits small))

-- ---- The bound

-- multipliers that need the bound alone fail by it or not at all
verdict_by : (d : RowsData) (sides : List Side) (multipliers : List ℕ) (denominator bound : ℕ) (why : DualVerdict) → AreLeafMultipliers d sides multipliers denominator
    → IsFirstFailing (split_rows d sides) multipliers denominator bound why → is_yes why ≡ int_lt (right_sum (split_rows d sides) multipliers) (pos (denominator * (bound + 1)))
verdict_by d sides multipliers denominator bound Yes are good = let below = good.below in omega (arith, ints)
verdict_by d sides multipliers denominator bound (Count given wanted) are fails = absurd (fails.2 (fails.0 ∙ are.counted ∙ sym fails.1))
verdict_by d sides multipliers denominator bound (Column column) are fails =
    absurd (let covers = are.covers column fails.1 in let less = fails.3 in omega (arith, ints))
verdict_by d sides multipliers denominator bound Bound are fails = let past = fails.2 in omega (arith, ints)

pub verdict_meets : (d : RowsData) (limits : List Limits) (multipliers : List ℕ) (denominator bound : ℕ) (why : DualVerdict) → AreLeafMultipliers d (sides_of limits) multipliers denominator
    → why ≡ first_failing_of (split_rows d (sides_of limits)) multipliers denominator bound → is_yes why ≡ meets_bound d bound limits denominator multipliers
verdict_meets d limits multipliers denominator bound why are e =
    verdict_by d (sides_of limits) multipliers denominator bound why are (subst (IsFirstFailing (split_rows d (sides_of limits)) multipliers denominator bound) (sym e) (first_failing_holds (split_rows d (sides_of limits)) multipliers denominator bound))
