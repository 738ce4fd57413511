-- A tree as the list of its nodes, each after its parts, by which proofs tell trees apart.
use Rattle.std.specs.Prelude.{ℕ, List, [], ◌∷◌, ◌≡◌, ◌⊎◌, refl}
use Rattle.std.specs.Coded.{Coded, code_by, coded×, coded⊎, coded_ℕ, coded_list}
use mathlib.Core.Logic.{inl, inr}
use Rattle.split_trees.specs.Tree.{Tree, Leaf, Cut}

abbrev Node : Type 0
Node = (ℕ × List ℕ) ⊎ (ℕ × ℕ)

abbrev nodes : Tree → List Node → List Node
nodes (Leaf denominator multipliers) rest = inl (denominator, multipliers) ∷ rest
nodes (Cut column k low high) rest = nodes low (nodes high (inr (column, k) ∷ rest))

abbrev joined : ℕ → ℕ → List Tree → List Tree
joined column k (high ∷ low ∷ trees) = Cut column k low high ∷ trees
joined column k trees = trees

abbrev trees_of : List Node → List Tree → List Tree
trees_of [] trees = trees
trees_of (inl (denominator, multipliers) ∷ rest) trees = trees_of rest (Leaf denominator multipliers ∷ trees)
trees_of (inr (column, k) ∷ rest) trees = trees_of rest (joined column k trees)

abbrev first : List Tree → Tree
first [] = Leaf 0 []
first (tree ∷ trees) = tree

abbrev back : List Node → Tree
back rest = first (trees_of rest [])

pub again : (tree : Tree) (rest : List Node) (trees : List Tree) → trees_of (nodes tree rest) trees ≡ trees_of rest (tree ∷ trees)
again (Leaf denominator multipliers) rest trees = refl
again (Cut column k low high) rest trees =
    rw (again low (nodes high (inr (column, k) ∷ rest)) trees, again high (inr (column, k) ∷ rest) (low ∷ trees)) refl

abbrev pub back_again : (tree : Tree) → back (nodes tree []) ≡ tree
back_again tree = rw (again tree [] []) refl

abbrev pub tree_code : Coded Tree
tree_code = code_by (List Node) (coded_list (coded⊎ (coded× coded_ℕ (coded_list coded_ℕ)) (coded× coded_ℕ coded_ℕ))) (λ tree. nodes tree []) back back_again
