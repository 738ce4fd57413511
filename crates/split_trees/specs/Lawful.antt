-- Which trees of cuts are within their limits.
use Rattle.std.specs.Prelude.{◌^◌, ◌<◌, ◌≤◌}
use Rattle.std.specs.List.{AllByRecursion}
use Rattle.split_trees.specs.Tree.{Tree, Leaf, Cut, height}

-- the numbers of a tree
abbrev pub HasLawfulNumbers : Tree → Type 0
HasLawfulNumbers (Leaf denominator multipliers) =
    (0 < denominator) × (denominator < 2 ^ 80) × AllByRecursion (λ m. m < 2 ^ 80) multipliers
HasLawfulNumbers (Cut column k low high) = (column < 2 ^ 32) × (k < 2 ^ 31) × HasLawfulNumbers low × HasLawfulNumbers high

-- and its cuts nest at most 100 deep
pub record IsLawfulTree (tree : Tree) : Type 0 where
  pub depth : height tree ≤ 100
  pub numbers : HasLawfulNumbers tree
