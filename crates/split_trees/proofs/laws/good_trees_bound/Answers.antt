use Rattle.split_trees.proofs.Bounding.{good_trees_bound}
use Rattle.split_trees.proofs.laws.good_trees_bound.Goals as goal

pub returns : goal.returns
returns c = good_trees_bound
