-- The search for a tree of cuts whose leaves show a bound. It goes from the root down, low sides first; each node is judged
-- by the greatest value of its rows.
use Rattle.std.specs.Prelude.{ℕ, zero, suc, ◌+◌, ◌-◌, ◌*◌, ◌==◌, Bool, cond, List, [], ◌∷◌, ◌≡◌, refl, map, pos, int_lt, unsigned_abs, Option, Some, None, is_none, Result, Ok, Err, position, get_or, set}
use Rattle.listed.specs.Steps.{◌>>=◌}
use Rattle.whole_rows.specs.Row.{gcd_within}
use Rattle.whole_rows.specs.Rows.{RowsData, right_sum}
use Rattle.whole_simplex.specs.Outcome.{Outcome, Greatest, outcome_of}
use Rattle.split_trees.specs.Sides.{split_rows}
use Rattle.split_trees.specs.Tree.{Tree, Leaf, Cut}
use Rattle.cut_search.specs.declared.limits.Limits.{Limits}
use Rattle.cut_search.specs.Leaves.{leaf_multipliers, sides_of}
use Rattle.cut_search.specs.Nodes.{node_rows}

-- why no tree is found
pub data Ending : Type 0 where
  -- a leaf is above the bound, and each column that may be cut has one value there
  NoTree : Ending
  -- a leaf is above the bound, and no cut is left
  Cuts : Ending
  -- the rows of a node, and their outcome, which is no optimum
  Refused : RowsData → Outcome → Ending

-- ---- Nodes

-- how many pivots the rows of a node may take
unfoldable pub pivot_limit : ℕ
pivot_limit = 100000

-- the sum of multiplier times right side is below the denominator times (bound + 1)
abbrev pub meets_bound : RowsData → ℕ → List Limits → ℕ → List ℕ → Bool
meets_bound d bound limits denominator multipliers = int_lt (right_sum (split_rows d (sides_of limits)) multipliers) (pos (denominator * (bound + 1)))

-- the first column without an upper limit
abbrev pub first_open : List Limits → Option ℕ
first_open limits = position (λ l. is_none l.high) limits

abbrev pub no_limits : Limits
no_limits = record { column = 0; low = 0; high = None }

abbrev pub limits_at : List Limits → ℕ → Limits
limits_at limits place = get_or limits place no_limits

-- where a leaf is above the bound: the first column without an upper limit is cut. A column gets its upper limit by a cut
-- at its lower one, so where each has one, lower and upper limits are equal
abbrev pub cut_or_none : Option ℕ → (ℕ → Result Tree Ending) → Result Tree Ending
cut_or_none None cut = Err NoTree
cut_or_none (Some place) cut = cut place

-- the leaf, where it meets the bound
abbrev pub leaf_or : RowsData → ℕ → List Limits → ℕ → List ℕ → Result Tree Ending → Result Tree Ending
leaf_or d bound limits denominator multipliers otherwise =
    cond (meets_bound d bound limits denominator multipliers) (Ok (Leaf denominator multipliers)) otherwise

-- what a node is by the outcome of its rows
abbrev pub judged_by : RowsData → ℕ → List Limits → (ℕ → Result Tree Ending) → Outcome → Result Tree Ending
judged_by d bound limits cut (Greatest number multipliers denominator value) =
    leaf_or d bound limits (unsigned_abs denominator) (leaf_multipliers d limits (map unsigned_abs multipliers))
    (cut_or_none (first_open limits) cut)
judged_by d bound limits cut outcome = Err (Refused (node_rows d limits) outcome)

abbrev pub judged : RowsData → ℕ → List Limits → (ℕ → Result Tree Ending) → Result Tree Ending
judged d bound limits cut = judged_by d bound limits cut (outcome_of (node_rows d limits) pivot_limit)

-- ---- Cuts

-- at that place the lower limit is the upper one too
abbrev pub low_side : List Limits → ℕ → List Limits
low_side limits place =
    let l = limits_at limits place in
    set limits place (record { column = l.column; low = l.low; high = Some l.low })

-- at that place the lower limit is one more
abbrev pub high_side : List Limits → ℕ → List Limits
high_side limits place =
    let l = limits_at limits place in
    set limits place (record { column = l.column; low = l.low + 1; high = None })

-- how many cuts a tree has
abbrev pub cut_count : Tree → ℕ
cut_count (Leaf denominator multipliers) = 0
cut_count (Cut column k low high) = 1 + cut_count low + cut_count high

-- what the cut at a place leads to, with so many cuts left, by the search of its sides. Cuts are counted in the order in which
-- they are made: those of the low side are gone when the high side begins
abbrev pub cut_at : (ℕ → List Limits → Result Tree Ending) → ℕ → List Limits → ℕ → Result Tree Ending
cut_at search left limits place =
    cond (left == 0) (Err Cuts) (do
      low ← search (left - 1) (low_side limits place)
      high ← search (left - 1 - cut_count low) (high_side limits place)
      Ok (Cut (limits_at limits place).column (limits_at limits place).low low high))

-- What the search comes to at a node, with so many cuts left. No way down has more cuts than `depth`, which is at least as
-- many.
unfoldable pub searched : RowsData → ℕ → ℕ → ℕ → List Limits → Result Tree Ending
searched d bound zero left limits = judged d bound limits (λ place. Err Cuts)
searched d bound (suc depth) left limits = judged d bound limits (cut_at (searched d bound depth) left limits)

-- at the root each column that may be cut is at least 0
abbrev pub free : ℕ → Limits
free column = record { column = column; low = 0; high = None }

-- the search from the root on, over rows of which these columns may be cut, with at most so many cuts
abbrev pub search_over : RowsData → List ℕ → ℕ → ℕ → Result Tree Ending
search_over d columns bound cuts = searched d bound cuts cuts (map free columns)

-- ---- Worked: maximise 3 x where 2 x is at most 3. Over fractions the value is 9 / 2, over whole numbers it is 3

abbrev sample : RowsData
sample = record { costs = pos 3 ∷ []; rows = (pos 2 ∷ []) ∷ []; rights = pos 3 ∷ [] }

-- x is 0, or 1, or at least 2, which has no point
found_case : search_over sample (0 ∷ []) 3 2 ≡ Ok (Cut 0 0 (Leaf 1 (0 ∷ 3 ∷ [])) (Cut 0 1 (Leaf 1 (0 ∷ 0 ∷ 3 ∷ [])) (Leaf 2 (1048579 ∷ 0 ∷ 2097152 ∷ []))))
unfolding searched pivot_limit gcd_within
found_case = refl

too_low_case : search_over sample (0 ∷ []) 2 2 ≡ Err NoTree
unfolding searched pivot_limit gcd_within
too_low_case = refl

one_cut_case : search_over sample (0 ∷ []) 3 1 ≡ Err Cuts
unfolding searched pivot_limit gcd_within
one_cut_case = refl
