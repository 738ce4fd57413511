-- The entering place of the whole row is that of the columns and slacks.
use Rattle.std.proofs.Common.{sym, ◌∙◌}
use Rattle.whole_simplex.proofs.Turning.{objective_long, objective_denominator, objective_value, enters_whole, says_optimal}
use Rattle.whole_simplex.proofs.solving.turn.Goals as goal

pub optimum-requires-clause-objective : goal.optimum-requires-clause-objective
optimum-requires-clause-objective c = objective_long c.args.rows.now c.requires.rows c.args.number c.args.lines.now c.args.objective.now c.requires.at

pub optimum-requires-clause-denominator : goal.optimum-requires-clause-denominator
optimum-requires-clause-denominator c = objective_denominator c.args.rows.now c.requires.rows c.args.number c.args.lines.now c.args.objective.now c.requires.at

pub optimum-requires-clause-value : goal.optimum-requires-clause-value
optimum-requires-clause-value c = objective_value c.args.rows.now c.requires.rows c.args.number c.args.lines.now c.args.objective.now c.requires.at

pub step-requires-clause-entering : goal.step-requires-clause-entering
step-requires-clause-entering c = sym (enters_whole c.args.rows.now c.requires.rows c.args.number c.args.lines.now c.args.objective.now c.requires.at) ∙ sym c.in-Some.ensures

pub returns-in-None : goal.returns-in-None
returns-in-None c = says_optimal c.args.rows.now c.requires.rows c.args.number c.args.lines.now c.args.objective.now c.requires.at c.args.left c.optimum.result (sym c.in-None.ensures) c.optimum.ensures
