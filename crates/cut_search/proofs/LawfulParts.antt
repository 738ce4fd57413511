-- Found trees are within the limits of a certificate.
use Rattle.std.proofs.Common.{◌≡◌, ℕ, zero, suc, ◌+◌, ◌-◌, ◌*◌, ◌^◌, ◌<◌, ◌≤◌, Bool, true, false, cond, List, [], ◌∷◌, length, map, All, Result, Ok, Err, refl, sym, ap, subst, ◌∙◌, arith}
use Rattle.std.specs.List.{AllByRecursion}
use Rattle.std.specs.Prelude.{IfErr, IfOk, max, nat_lt, unsigned_abs}
use Rattle.std.proofs.Math.Nat.{mul-le-mul_right}
use Rattle.std.proofs.lemmas.Bool.{ltb-false}
use Rattle.std.proofs.lemmas.List.{length-append, length-map}
use Rattle.std.proofs.lemmas.List.Elements.{All-get_or, All-head, All-tail}
use Rattle.whole_rows.specs.Rows.{RowsData}
use Rattle.whole_simplex.specs.Outcome.{Outcome, Greatest, TooLarge, outcome_from, outcome_of, table_size}
use Rattle.whole_simplex.specs.declared.Optimum.{Optimum}
use Rattle.split_trees.specs.Lawful.{HasLawfulNumbers}
use Rattle.split_trees.specs.Tree.{Tree, Leaf, Cut, height}
use Rattle.cut_search.specs.declared.fault.SplitFault.{SplitFault}
use Rattle.cut_search.specs.declared.fault.SplitFault.TheVariants as faults
use Rattle.cut_search.specs.declared.judging.Judged.{Judged}
use Rattle.cut_search.specs.declared.judging.Judged.TheVariants as ways
use Rattle.cut_search.specs.declared.limits.Limits.{Limits}
use Rattle.cut_search.specs.declared.searching.Part.{Part}
use Rattle.cut_search.specs.Leaves.{leaf_multipliers, sides_of}
use Rattle.cut_search.specs.Nodes.{node_rows}
use Rattle.cut_search.specs.Search.{limits_at, no_limits, pivot_limit}
use Rattle.cut_search.specs.Working.Limits.{HasSmallLimits, IsFirstOpen}
use Rattle.cut_search.specs.Working.Searching.{AreLeafMultipliers, AreLimits, IsDecided, IsLawfulNode, IsLawfulPart, IsLowPart, IsNodeOptimum}
use Rattle.cut_search.proofs.NodeAnswers.{greatest_is}
use Rattle.cut_search.proofs.Rays.{node_columns, node_count}

-- ---- A table that isn't too large has few columns

not_large : (d : RowsData) (t : Bool) (number : ℕ) (optimum : Optimum) → cond t TooLarge (outcome_from d pivot_limit 0) ≡ Greatest number optimum.multipliers optimum.denominator optimum.bound → t ≡ false
not_large d true number optimum e = absurd cc
not_large d false number optimum e = refl

pub few_columns : (d : RowsData) (limits : List Limits) (optimum : Optimum) → IsNodeOptimum d limits optimum → 0 < length d.rows → length d.costs < 2 ^ 32
few_columns d limits optimum is some =
    let n = node_rows d limits in
    let fits = ltb-false 16777216 (table_size n) (not_large n (nat_lt 16777216 (table_size n)) optimum.pivots optimum (greatest_is n (outcome_of n pivot_limit) optimum is.outcome)) in
    let rows = node_count d limits in
    let columns = node_columns d limits in
    let least = mul-le-mul_right (length n.costs + length n.rows + 2) (let one : 1 ≤ length n.rows = omega arith in one) in
    omega arith

-- ---- Nodes

by_members : (ms : List ℕ) → All (λ m. m < 2 ^ 80) ms → AllByRecursion (λ m. m < 2 ^ 80) ms
by_members [] small = tt
by_members (m ∷ ms) small = (All-head (λ m. m < 2 ^ 80) m ms small, by_members ms (All-tail (λ m. m < 2 ^ 80) m ms small))

pub decided_lawful : (d : RowsData) (limits : List Limits) (optimum : Optimum) (meets : Bool) (denominator : ℕ) (multipliers : List ℕ) (answer : Result Judged SplitFault)
    → IsNodeOptimum d limits optimum → AreLeafMultipliers d (sides_of limits) multipliers denominator → IsDecided meets denominator multipliers limits answer → IfOk answer (IsLawfulNode d)
decided_lawful d limits optimum meets denominator multipliers (Ok (ways.Leaf given listed)) is are decided =
    rw (decided.1, decided.2) (are.denominator_small.0, are.denominator_small.1, by_members multipliers are.small)
decided_lawful d limits optimum meets denominator multipliers (Ok (ways.Cut place)) is are decided = few_columns d limits optimum is
decided_lawful d limits optimum meets denominator multipliers (Err fault) is are decided = tt

-- ---- Parts

pub leaf_lawful : (d : RowsData) (left denominator : ℕ) (multipliers : List ℕ) (part : Part) → IsLawfulNode d (ways.Leaf denominator multipliers)
    → part ≡ record { tree = Leaf denominator multipliers; left = left } → IsLawfulPart left part.tree
leaf_lawful d left denominator multipliers part lawful same =
    subst (λ (p : Part). IsLawfulPart left p.tree) (sym same) (record { depth = omega arith; numbers = lawful })

pub joined_lawful : (d : RowsData) (bound left : ℕ) (limits : List Limits) (place : ℕ) (low high part : Part) → AreLimits d limits → IsFirstOpen limits place → IsLowPart d bound left limits place low
    → (0 < length d.rows → length d.costs < 2 ^ 32) → (0 < length d.rows → IsLawfulPart low.left high.tree)
    → part ≡ record { tree = Cut (limits_at limits place).column (limits_at limits place).low low.tree high.tree; left = high.left }
    → 0 < length d.rows → IsLawfulPart left part.tree
joined_lawful d bound left limits place low high part are is low_is size high_is same some =
    let column = All-get_or (λ l. l.column < length d.costs) limits place no_limits is.within are.within in
    let here : HasSmallLimits (limits_at limits place) = All-get_or HasSmallLimits limits place no_limits is.within are.small in
    let most = size some in
    let count = low_is.count in
    let low_lawful = low_is.lawful some in
    let high_lawful = high_is some in
    let low_depth = low_lawful.depth in
    let high_depth = high_lawful.depth in
    subst (λ (p : Part). IsLawfulPart left p.tree) (sym same)
    (record {
      depth = omega arith;
      numbers = (omega arith, here.low, low_lawful.numbers, high_lawful.numbers);
    })
