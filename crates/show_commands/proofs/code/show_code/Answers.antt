use Rattle.std.proofs.Common.{inr}
use Rattle.inputs.proofs.Halts.{err_is}
use Rattle.show_commands.proofs.code.show_code.Goals as goal

pub returns-in_err-plant : goal.returns-in_err-plant
returns-in_err-plant g c =
    let halt = c.in_err-plant.field-0.0 in
    inr (halt, c.in_err-plant.ensures, err_is c.from_residual.result halt c.from_residual.ensures.0 c.from_residual.ensures.1)
