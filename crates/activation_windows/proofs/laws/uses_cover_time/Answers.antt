use Rattle.activation_windows.proofs.Lasting.{uses_cover_time}
use Rattle.activation_windows.proofs.laws.uses_cover_time.Goals as goal

pub returns : goal.returns
returns c = uses_cover_time
