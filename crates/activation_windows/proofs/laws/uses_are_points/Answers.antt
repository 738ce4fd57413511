use Rattle.activation_windows.proofs.Points.{uses_are_points}
use Rattle.activation_windows.proofs.laws.uses_are_points.Goals as goal

pub returns : goal.returns
returns c = uses_are_points
