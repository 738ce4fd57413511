use Rattle.std.specs.Int.{w128}
use Rattle.std.proofs.lemmas.Int.{to_z-of_z}
use Rattle.std.proofs.Common.{rules}
use mir.Val.{SFits}
use Rattle.bound_solver.proofs.LiftedAnswers.{says_stopped}
use Rattle.bound_solver.proofs.lifting.lifted.Goals as goal

pub returns-in-Err-Multiplier-clause-outcome : goal.returns-in-Err-Multiplier-clause-outcome
returns-in-Err-Multiplier-clause-outcome c =
    let fits : SFits w128 c.in-Err-Multiplier.value = search rules in
    let optimum = c.args.optimum.now in
    let stopped = rw c.in-Err-Multiplier.field-0-is at c.in-Err-Multiplier.ensures.value in
    simp to_z-of_z (says_stopped c.args.rows.now c.args.links.now optimum.pivots optimum.denominator optimum.bound c.in-Err-Multiplier.value optimum.multipliers stopped)
