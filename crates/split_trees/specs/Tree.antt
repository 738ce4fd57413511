-- Trees of cuts. A cut parts the values of one column: its low part is for values of at most k, its high part for those
-- above k. A leaf has multipliers of rows, over one denominator.
use Rattle.std.specs.Prelude.{ℕ, suc, max, List, [], ◌∷◌, ◌++◌, ◌≡◌, refl}
use Rattle.split_trees.specs.declared.side.Side.{Side}
use Rattle.split_trees.specs.declared.side.Side.TheVariants.{AtMost, Above}

pub data Tree : Type 0 where
  Leaf : (denominator : ℕ) (multipliers : List ℕ) → Tree
  Cut : (column k : ℕ) (low high : Tree) → Tree

-- how many cuts nest
abbrev pub height : Tree → ℕ
height (Leaf denominator multipliers) = 0
height (Cut column k low high) = suc (max (height low) (height high))

-- the columns that are cut: of each cut first its own, then those of its low part, then those of its high part
abbrev pub columns_cut : Tree → List ℕ
columns_cut (Leaf denominator multipliers) = []
columns_cut (Cut column k low high) = column ∷ (columns_cut low ++ columns_cut high)

-- ---- Leaves

-- a leaf with the sides of the cuts above it, from the root on
pub record LeafAt : Type 0 where
  pub sides : List Side
  pub denominator : ℕ
  pub multipliers : List ℕ

-- the leaves of a part that stands on these sides, low parts first
abbrev pub leaves_on : List Side → Tree → List LeafAt
leaves_on sides (Leaf denominator multipliers) = record { sides = sides; denominator = denominator; multipliers = multipliers } ∷ []
leaves_on sides (Cut column k low high) = leaves_on (sides ++ AtMost column k ∷ []) low ++ leaves_on (sides ++ Above column k ∷ []) high

abbrev pub leaves_of : Tree → List LeafAt
leaves_of tree = leaves_on [] tree

-- ---- worked case: two cuts and three leaves

sample : Tree
sample = Cut 4 0 (Leaf 1 (5 ∷ [])) (Cut 6 2 (Leaf 2 []) (Leaf 3 []))

its_height : height sample ≡ 2
unfolding sample
its_height = refl

its_columns : columns_cut sample ≡ 4 ∷ 6 ∷ []
unfolding sample
its_columns = refl

its_leaves : leaves_of sample
    ≡ record { sides = AtMost 4 0 ∷ []; denominator = 1; multipliers = 5 ∷ [] }
    ∷ record { sides = Above 4 0 ∷ AtMost 6 2 ∷ []; denominator = 2; multipliers = [] }
    ∷ record { sides = Above 4 0 ∷ Above 6 2 ∷ []; denominator = 3; multipliers = [] }
    ∷ []
unfolding sample
its_leaves = refl
