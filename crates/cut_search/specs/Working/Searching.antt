-- What the steps of the search need and give.
use Rattle.std.specs.Prelude.{◌≡◌, ℕ, ◌+◌, ◌-◌, ◌<◌, ◌≤◌, ◌^◌, Bool, true, false, List, length, All, Some, None, Result, Ok, Err}
use Rattle.whole_rows.specs.Duals.{CoversColumns}
use Rattle.whole_rows.specs.Greatest.{IsRay}
use Rattle.whole_rows.specs.Rows.{RowsData, IsShaped}
use Rattle.whole_rows.specs.declared.DualVerdict.{DualVerdict}
use Rattle.whole_rows.specs.declared.DualVerdict.TheVariants.{Yes, Count, Column, Bound}
use Rattle.whole_simplex.specs.Answers.{IsOptimum, IsUnbounded}
use Rattle.whole_simplex.specs.Outcome.{Direction, SaysOutcome, outcome_of}
use Rattle.whole_simplex.specs.declared.Optimum.{Optimum}
use Rattle.whole_simplex.specs.declared.SolveFault.{SolveFault}
use Rattle.whole_simplex.specs.declared.SolveFault.TheVariants as solving
use Rattle.split_trees.specs.Sides.{split_rows}
use Rattle.split_trees.specs.Good.{IsColumn, IsGoodLeaf}
use Rattle.split_trees.specs.Lawful.{HasLawfulNumbers}
use Rattle.split_trees.specs.Tree.{Tree, Leaf, columns_cut, height, leaves_on}
use Rattle.split_trees.specs.declared.side.Side.{Side}
use Rattle.cut_search.specs.declared.fault.SplitFault.{SplitFault}
use Rattle.cut_search.specs.declared.fault.SplitFault.TheVariants as faults
use Rattle.cut_search.specs.declared.judging.Judged.{Judged}
use Rattle.cut_search.specs.declared.judging.Judged.TheVariants as ways
use Rattle.cut_search.specs.declared.limits.Limits.{Limits}
use Rattle.cut_search.specs.declared.searching.Part.{Part}
use Rattle.cut_search.specs.Answers.{SaysSearch}
use Rattle.cut_search.specs.Leaves.{sides_of}
use Rattle.cut_search.specs.Nodes.{node_rows}
use Rattle.cut_search.specs.Search.{Ending, cut_at, cut_count, first_open, judged, low_side, pivot_limit, searched}
use Rattle.cut_search.specs.Working.Limits.{AreInOrder, HasSmallLimits}
use Rattle.cut_search.specs.Working.Nodes.{LieWithin}

-- the rows have no ray
pub record HaveNoRay (d : RowsData) : Type 0 where
  pub shape : IsShaped d
  pub none : (u : List ℕ) → IsRay d u → ⊥

-- ---- Nodes

-- limits on the way down: of columns of the rows, which were cut in order
pub record AreLimits (d : RowsData) (limits : List Limits) : Type 0 where
  pub within : LieWithin (length d.costs) limits
  pub order : AreInOrder limits
  pub small : All HasSmallLimits limits

-- the answer of `solve` for the rows of the node
pub record IsNodeOptimum (d : RowsData) (limits : List Limits) (optimum : Optimum) : Type 0 where
  pub outcome : SaysOutcome (node_rows d limits) pivot_limit (outcome_of (node_rows d limits) pivot_limit) (Ok optimum)
  pub greatest : IsOptimum (node_rows d limits) optimum.multipliers optimum.denominator optimum.bound

-- multipliers of a leaf that need the bound alone to be good
pub record AreLeafMultipliers (d : RowsData) (sides : List Side) (multipliers : List ℕ) (denominator : ℕ) : Type 0 where
  pub counted : length multipliers ≡ length (split_rows d sides).rows
  pub covers : CoversColumns (split_rows d sides) multipliers denominator
  pub small : All (λ m. m < 2 ^ 80) multipliers
  pub denominator_small : (0 < denominator) × (denominator < 2 ^ 80)

abbrev pub is_yes : DualVerdict → Bool
is_yes Yes = true
is_yes (Count given wanted) = false
is_yes (Column column) = false
is_yes Bound = false

-- why the search ends where `solve` refuses
abbrev pub told_of : SolveFault → SplitFault
told_of solving.Memory = faults.Memory
told_of (solving.Entries rows columns) = faults.Solve (solving.Entries rows columns)
told_of (solving.Pivots count) = faults.Solve (solving.Pivots count)
told_of (solving.Unbounded ray) = faults.Solve (solving.Unbounded ray)
told_of (solving.Wide pivots a b) = faults.Solve (solving.Wide pivots a b)
told_of (solving.Multiplier value) = faults.Solve (solving.Multiplier value)

-- the leaf where it meets the bound, else the place to cut
abbrev pub IsDecided : Bool → ℕ → List ℕ → List Limits → Result Judged SplitFault → Type 0
IsDecided meets denominator multipliers limits (Ok (ways.Leaf given listed)) = (meets ≡ true) × (given ≡ denominator) × (listed ≡ multipliers)
IsDecided meets denominator multipliers limits (Ok (ways.Cut place)) = (meets ≡ false) × (first_open limits ≡ Some place)
IsDecided meets denominator multipliers limits (Err faults.NoTree) = (meets ≡ false) × (first_open limits ≡ None)
IsDecided meets denominator multipliers limits (Err fault) = ⊥

-- the answer says what the node is, whatever its cut leads to
abbrev pub SaysNode : RowsData → ℕ → List Limits → Result Judged SplitFault → Type 0
SaysNode d bound limits (Ok (ways.Leaf denominator multipliers)) = (cut : ℕ → Result Tree Ending) → judged d bound limits cut ≡ Ok (Leaf denominator multipliers)
SaysNode d bound limits (Ok (ways.Cut place)) = (first_open limits ≡ Some place) × ((cut : ℕ → Result Tree Ending) → judged d bound limits cut ≡ cut place)
SaysNode d bound limits (Err fault) = (cuts : ℕ) (cut : ℕ → Result Tree Ending) → SaysSearch cuts (judged d bound limits cut) (Err fault)

-- where a node is a leaf, it is a good one
abbrev pub IsGoodNode : RowsData → ℕ → List Side → Judged → Type 0
IsGoodNode d bound sides (ways.Leaf denominator multipliers) = IsGoodLeaf d bound (record { sides = sides; denominator = denominator; multipliers = multipliers })
IsGoodNode d bound sides (ways.Cut place) = Unit {0}

-- its numbers are within the limits of a certificate; where a column is cut, it is within them too
abbrev pub IsLawfulNode : RowsData → Judged → Type 0
IsLawfulNode d (ways.Leaf denominator multipliers) = HasLawfulNumbers (Leaf denominator multipliers)
IsLawfulNode d (ways.Cut place) = 0 < length d.rows → length d.costs < 2 ^ 32

-- a ray is one of the node's rows, whose outcome it is
abbrev pub IsNodeRay : RowsData → List Limits → SplitFault → Type 0
IsNodeRay d limits (faults.Solve (solving.Unbounded ray)) = (outcome_of (node_rows d limits) pivot_limit ≡ Direction ray) × IsUnbounded (node_rows d limits) ray
IsNodeRay d limits fault = Unit {0}

-- ---- Parts of the tree

-- a tree that stands on these sides is good
pub record IsGoodPart (d : RowsData) (bound : ℕ) (sides : List Side) (tree : Tree) : Type 0 where
  pub columns : All (IsColumn d) (columns_cut tree)
  pub leaves : All (IsGoodLeaf d bound) (leaves_on sides tree)

-- and is within the limits of a certificate, with so many cuts on each way down
pub record IsLawfulPart (left : ℕ) (tree : Tree) : Type 0 where
  pub depth : height tree ≤ left
  pub numbers : HasLawfulNumbers tree

-- the answer is the tree of a part, which used some of the cuts that were left
abbrev pub SaysPart : ℕ → ℕ → Result Tree Ending → Result Part SplitFault → Type 0
SaysPart cuts left comes_to (Ok part) = (comes_to ≡ Ok part.tree) × (part.left + cut_count part.tree ≡ left)
SaysPart cuts left comes_to (Err fault) = SaysSearch cuts comes_to (Err fault)

-- no ray is answered
abbrev pub IsNoRay : SplitFault → Type 0
IsNoRay (faults.Solve (solving.Unbounded ray)) = ⊥
IsNoRay fault = Unit {0}

-- the cut at a place, which says what its sides lead to
abbrev pub SaysCut : RowsData → ℕ → ℕ → ℕ → List Limits → ℕ → Result Part SplitFault → Type 0
SaysCut d bound cuts left limits place answer = (depth : ℕ) → left ≤ depth + 1 → SaysPart cuts left (cut_at (searched d bound depth) left limits place) answer

-- the low side of the cut at a place led to this part, with so many cuts left before the cut
pub record IsLowPart (d : RowsData) (bound left : ℕ) (limits : List Limits) (place : ℕ) (part : Part) : Type 0 where
  pub found : (depth : ℕ) → left ≤ depth + 1 → searched d bound depth (left - 1) (low_side limits place) ≡ Ok part.tree
  pub count : part.left + cut_count part.tree + 1 ≡ left
  pub good : IsGoodPart d bound (sides_of (low_side limits place)) part.tree
  pub lawful : 0 < length d.rows → IsLawfulPart (left - 1) part.tree
