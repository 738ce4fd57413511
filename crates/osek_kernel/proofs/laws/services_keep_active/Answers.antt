use Rattle.osek_kernel.proofs.Serves.{services_keep_active}
use Rattle.osek_kernel.proofs.laws.services_keep_active.Goals as goal

pub returns : goal.returns
returns c = services_keep_active
