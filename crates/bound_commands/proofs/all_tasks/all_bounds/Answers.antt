use Rattle.std.proofs.Common.{inl, inr}
use Rattle.inputs.proofs.Halts.{err_is}
use Rattle.bound_commands.proofs.all_tasks.all_bounds.Goals as goal

pub returns-in_err-plant : goal.returns-in_err-plant
returns-in_err-plant g c =
    let halt = c.in_err-plant.field-0.0 in
    inr (halt, c.in_err-plant.ensures, err_is c.from_residual.result halt c.from_residual.ensures.0 c.from_residual.ensures.1)

pub returns : goal.returns
returns g c = inl (c.in_ok-plant.plant, c.plant_of.new.files, c.in_ok-plant.ensures, c.all_on-answered.ensures)
