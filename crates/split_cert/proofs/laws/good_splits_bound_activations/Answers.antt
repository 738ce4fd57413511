use Rattle.split_cert.proofs.Bounding.{good_splits_bound}
use Rattle.split_cert.proofs.laws.good_splits_bound_activations.Goals as goal

pub returns : goal.returns
returns c = good_splits_bound c.uses_are_points.ensures c.good_trees_bound.ensures
