-- The call of a service takes nothing from a device.
use Rattle.osek_machine.proofs.machine.Machine.act.Goals as goal

pub returns-in-Ecall-clause-step : goal.returns-in-Ecall-clause-step
returns-in-Ecall-clause-step c = c.call.ensures.step c.args.device
