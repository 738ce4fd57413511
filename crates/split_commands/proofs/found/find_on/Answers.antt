use Rattle.std.proofs.Common.{inr}
use Rattle.inputs.proofs.Halts.{err_is}
use Rattle.split_commands.proofs.found.find_on.Goals as goal

pub returns-in_err-listed : goal.returns-in_err-listed
returns-in_err-listed g c =
    let halt = c.in_err-listed.field-0.0 in
    inr (halt, c.in_err-listed.ensures.steps, err_is c.from_residual.result halt c.from_residual.ensures.0 c.from_residual.ensures.1)
