-- The ray is that of the definition.
use Rattle.std.proofs.Common.{sym, subst}
use Rattle.std.specs.Prelude.{Err}
use Rattle.whole_simplex.specs.declared.SolveFault.{SolveFault}
use Rattle.whole_simplex.specs.Outcome.{SaysOutcome, ray_outcome}
use Rattle.whole_simplex.proofs.Turning.{says_direction, says_direction_wide}
use Rattle.whole_simplex.proofs.solving.unbounded.Goals as goal

pub returns-in-Ok : goal.returns-in-Ok
returns-in-Ok c = says_direction c.args.rows.now c.column_count.result c.args.number c.args.place c.args.lines.now c.in-Ok.ray c.column_count.ensures c.in-Ok.ensures

pub returns-in-Err : goal.returns-in-Err
returns-in-Err c = λ limit.
    subst (λ (f : SolveFault). SaysOutcome c.args.rows.now limit (ray_outcome c.args.rows.now c.args.number c.args.place c.args.lines.now) (Err f)) (sym c.fault_at.ensures)
    (says_direction_wide c.args.rows.now c.column_count.result c.args.number c.args.place c.args.lines.now c.in-Err.fault c.column_count.ensures c.in-Err.ensures limit)
