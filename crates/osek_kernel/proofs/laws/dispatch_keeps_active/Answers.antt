use Rattle.osek_kernel.proofs.Theorems.{dispatch_keeps_active}
use Rattle.osek_kernel.proofs.laws.dispatch_keeps_active.Goals as goal

pub returns : goal.returns
returns c = dispatch_keeps_active
