use Rattle.bound_checker.proofs.Judging.{good_bounds}
use Rattle.bound_checker.proofs.laws.good_certificates_bound_activations.Goals as goal

pub returns : goal.returns
returns c = good_bounds c.good_multipliers_bound_activations.ensures
