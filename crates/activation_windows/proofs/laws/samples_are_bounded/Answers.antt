use Rattle.activation_windows.proofs.Samples.Bounded.{samples_are_bounded}
use Rattle.activation_windows.proofs.laws.samples_are_bounded.Goals as goal

pub returns : goal.returns
returns c = samples_are_bounded
