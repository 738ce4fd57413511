-- A tree as its root, whose parts are seen as plain trees, and the plain tree.
use Rattle.split_trees.specs.declared.tree.SplitNode.{SplitNode}
use Rattle.split_trees.specs.declared.tree.SplitNode.TheVariants as nodes
use Rattle.split_trees.specs.Tree.{Tree, Leaf, Cut}

abbrev pub tree_of : SplitNode → Tree
tree_of (nodes.Leaf denominator multipliers) = Leaf denominator multipliers
tree_of (nodes.Cut column k low high) = Cut column k low.value high.value
