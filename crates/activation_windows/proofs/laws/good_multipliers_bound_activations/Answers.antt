use Rattle.activation_windows.proofs.Bounding.{good_multipliers_bound_activations}
use Rattle.activation_windows.proofs.laws.good_multipliers_bound_activations.Goals as goal

pub returns : goal.returns
returns c = good_multipliers_bound_activations
