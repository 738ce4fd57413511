use Rattle.std.proofs.Common.{inr}
use Rattle.inputs.proofs.Halts.{err_is}
use Rattle.show_commands.proofs.played.replay_on.Goals as goal

pub returns-in_err-schedule : goal.returns-in_err-schedule
returns-in_err-schedule g c =
    let halt = c.in_err-schedule.field-0.0 in
    inr (halt, c.in_err-schedule.ensures.steps, err_is c.from_residual.result halt c.from_residual.ensures.0 c.from_residual.ensures.1)
