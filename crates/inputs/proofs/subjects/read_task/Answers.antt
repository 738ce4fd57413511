use Rattle.std.proofs.Common.{inr}
use Rattle.inputs.proofs.Halts.{err_is}
use Rattle.inputs.proofs.subjects.read_task.Goals as goal

pub returns-in_err-system : goal.returns-in_err-system
returns-in_err-system g c =
    let halt = c.in_err-system.field-0.0 in
    inr (halt, c.in_err-system.ensures.steps, err_is c.from_residual.result halt c.from_residual.ensures.0 c.from_residual.ensures.1)
