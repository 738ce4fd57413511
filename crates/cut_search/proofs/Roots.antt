-- The root of the search: no cut was made.
use Rattle.std.proofs.Common.{◌≡◌, ℕ, ◌<◌, ◌≤◌, List, [], ◌∷◌, map, length, All, refl, subst, arith}
use Rattle.std.proofs.lemmas.List.Elements.{All-cons, All-head, All-nil, All-tail}
use Rattle.whole_rows.specs.Rows.{RowsData}
use Rattle.whole_simplex.specs.Answers.{IsUnbounded}
use Rattle.whole_simplex.specs.Outcome.{Direction, outcome_of}
use Rattle.whole_simplex.specs.declared.SolveFault.TheVariants as solving
use Rattle.split_trees.specs.Good.{IsGoodTree}
use Rattle.split_trees.specs.Lawful.{IsLawfulTree}
use Rattle.split_trees.specs.Tree.{Tree}
use Rattle.split_trees.specs.declared.side.Side.{Side}
use Rattle.cut_search.specs.declared.fault.SplitFault.{SplitFault}
use Rattle.cut_search.specs.declared.fault.SplitFault.TheVariants as faults
use Rattle.cut_search.specs.Answers.{IsRayOf}
use Rattle.cut_search.specs.Leaves.{sides_of}
use Rattle.cut_search.specs.Search.{free, pivot_limit}
use Rattle.cut_search.specs.Working.Limits.{AreInOrder, HasSmallLimits, IsFree}
use Rattle.cut_search.specs.Working.Nodes.{LieWithin}
use Rattle.cut_search.specs.Working.Searching.{AreLimits, IsGoodPart, IsLawfulPart, IsNodeRay}
use Rattle.cut_search.proofs.Order.{free_sides}
use Rattle.cut_search.proofs.Rays.{root_rows}

pub free_all : (columns : List ℕ) → All IsFree (map free columns)
free_all [] = All-nil IsFree
free_all (column ∷ columns) = All-cons IsFree (free column) (map free columns) (record { low = refl; high = refl }) (free_all columns)

within : (count : ℕ) (columns : List ℕ) → All (λ column. column < count) columns → LieWithin count (map free columns)
within count [] all = All-nil (λ l. l.column < count)
within count (column ∷ columns) all =
    All-cons (λ l. l.column < count) (free column) (map free columns) (All-head (λ column. column < count) column columns all) (within count columns (All-tail (λ column. column < count) column columns all))

order : (columns : List ℕ) → AreInOrder (map free columns)
order [] = tt
order (column ∷ columns) = ((λ e. free_all columns), order columns)

small : (columns : List ℕ) → All HasSmallLimits (map free columns)
small [] = All-nil HasSmallLimits
small (column ∷ columns) = All-cons HasSmallLimits (free column) (map free columns) (record { low = omega arith; high = tt }) (small columns)

pub root_limits : (d : RowsData) (columns : List ℕ) → All (λ column. column < length d.costs) columns → AreLimits d (map free columns)
root_limits d columns all = record { within = within (length d.costs) columns all; order = order columns; small = small columns }

pub root_sides : (columns : List ℕ) → sides_of (map free columns) ≡ []
root_sides columns = free_sides (map free columns) (free_all columns)

pub root_good : (d : RowsData) (bound : ℕ) (columns : List ℕ) (tree : Tree) → IsGoodPart d bound (sides_of (map free columns)) tree → IsGoodTree d bound tree
root_good d bound columns tree good =
    let at_root : IsGoodPart d bound [] tree = subst (λ (sides : List Side). IsGoodPart d bound sides tree) (root_sides columns) good in
    record { columns = at_root.columns; leaves = at_root.leaves }

pub root_ray : (d : RowsData) (columns : List ℕ) (fault : SplitFault) → IsNodeRay d (map free columns) fault → IsRayOf d fault
root_ray d columns (faults.Solve (solving.Unbounded ray)) is =
    subst (λ (e : RowsData). (outcome_of e pivot_limit ≡ Direction ray) × IsUnbounded e ray) (root_rows d (map free columns) (free_all columns)) is
root_ray d columns (faults.Solve (solving.Entries rows count)) is = tt
root_ray d columns (faults.Solve (solving.Pivots count)) is = tt
root_ray d columns (faults.Solve (solving.Wide pivots a b)) is = tt
root_ray d columns (faults.Solve (solving.Multiplier value)) is = tt
root_ray d columns (faults.Solve solving.Memory) is = tt
root_ray d columns (faults.Cuts count) is = tt
root_ray d columns faults.NoTree is = tt
root_ray d columns faults.Memory is = tt

pub root_lawful : (cuts : ℕ) (tree : Tree) → cuts ≤ 100 → IsLawfulPart cuts tree → IsLawfulTree tree
root_lawful cuts tree few lawful = let depth = lawful.depth in record { depth = omega arith; numbers = lawful.numbers }
