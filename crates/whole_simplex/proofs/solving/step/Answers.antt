-- Each answer is that of the table, and without one the lines are those of the next table.
use Rattle.std.proofs.Common.{◌≡◌, ◌+◌, ap, sym, ◌∙◌, subst, arith}
use Rattle.std.specs.Prelude.{None, Some, Err}
use Rattle.whole_simplex.specs.declared.SolveFault.{SolveFault}
use Rattle.whole_simplex.specs.Faults.{line_at}
use Rattle.whole_simplex.specs.Outcome.{SaysOutcome, outcome_from}
use Rattle.whole_simplex.specs.Tables.{leaving, width}
use Rattle.whole_simplex.proofs.RatioSearch.{rest_at}
use Rattle.whole_simplex.proofs.Turning.{lines_long, lines_within, lines_own, lines_same, lines_distinct, place_within, enters_within, objective_long, says_limit, says_ray, says_ratio, says_pivot_wide, turns_on}
use Rattle.whole_simplex.proofs.solving.step.Goals as goal

pub leaving_line-requires-clause-lengths : goal.leaving_line-requires-clause-lengths
leaving_line-requires-clause-lengths c = lines_long c.args.rows.now c.requires.rows c.args.number c.args.lines.now c.args.objective.now c.requires.at

pub leaving_line-requires-clause-place : goal.leaving_line-requires-clause-place
leaving_line-requires-clause-place c = enters_within c.args.rows.now c.requires.rows c.args.number c.args.lines.now c.args.objective.now c.requires.at c.args.place c.requires.entering

pub unbounded-requires-clause-within : goal.unbounded-requires-clause-within
unbounded-requires-clause-within c = lines_within c.args.rows.now c.requires.rows c.args.number c.args.lines.now c.args.objective.now c.requires.at

pub unbounded-requires-clause-place : goal.unbounded-requires-clause-place
unbounded-requires-clause-place c = place_within c.args.rows.now c.requires.rows c.args.number c.args.lines.now c.args.objective.now c.requires.at c.args.place c.requires.entering

pub unbounded-requires-clause-own : goal.unbounded-requires-clause-own
unbounded-requires-clause-own c = lines_own c.args.rows.now c.requires.rows c.args.number c.args.lines.now c.args.objective.now c.requires.at

pub pivot-requires-clause-distinct : goal.pivot-requires-clause-distinct
pivot-requires-clause-distinct c = lines_distinct c.args.rows.now c.requires.rows c.args.number c.args.lines.now c.args.objective.now c.requires.at

pub pivot-requires-clause-same : goal.pivot-requires-clause-same
pivot-requires-clause-same c = lines_same c.args.rows.now c.requires.rows c.args.number c.args.lines.now c.args.objective.now c.requires.at

pub pivot-requires-clause-place : goal.pivot-requires-clause-place
pivot-requires-clause-place c =
    let within = enters_within c.args.rows.now c.requires.rows c.args.number c.args.lines.now c.args.objective.now c.requires.at c.args.place c.requires.entering in
    let long = objective_long c.args.rows.now c.requires.rows c.args.number c.args.lines.now c.args.objective.now c.requires.at in
    omega arith

pub returns-in-Ok-None : goal.returns-in-Ok-None
returns-in-Ok-None c =
    let none : leaving (width c.args.rows.now) c.args.place c.args.lines.now ≡ None = sym c.in-Ok-None.ensures.found.0 ∙ ap (λ o. line_at c.args.lines.now o) c.in-Ok-None.field-0-is in
    says_ray c.args.rows.now c.requires.rows c.args.number c.args.lines.now c.args.objective.now c.requires.at c.args.left c.args.place c.unbounded.result c.requires.entering none c.unbounded.ensures

pub returns-then-left-eq0 : goal.returns-then-left-eq0
returns-then-left-eq0 c =
    let there = rest_at c.args.lines.now c.in-Ok-Some.leaving (c.in-Ok-Some.ensures.within c.in-Ok-Some.leaving c.in-Ok-Some.field-0-is) in
    let some : leaving (width c.args.rows.now) c.args.place c.args.lines.now ≡ Some there.0 =
    sym c.in-Ok-Some.ensures.found.0 ∙ ap (λ o. line_at c.args.lines.now o) c.in-Ok-Some.field-0-is ∙ there.1 in
    says_limit c.args.rows.now c.requires.rows c.args.number c.args.lines.now c.args.objective.now c.requires.at c.args.left c.args.place there.0 c.requires.entering some c.if-left-eq0.true

pub returns-in-Ok : goal.returns-in-Ok
returns-in-Ok c =
    let there = rest_at c.args.lines.now c.in-Ok-Some.leaving (c.in-Ok-Some.ensures.within c.in-Ok-Some.leaving c.in-Ok-Some.field-0-is) in
    let some : leaving (width c.args.rows.now) c.args.place c.args.lines.now ≡ Some there.0 =
    sym c.in-Ok-Some.ensures.found.0 ∙ ap (λ o. line_at c.args.lines.now o) c.in-Ok-Some.field-0-is ∙ there.1 in
    turns_on c.args.rows.now c.requires.rows c.args.number c.args.lines.now c.args.objective.now c.requires.at c.args.left c.args.place there.0 c.pivot.new.lines c.pivot.new.objective c.requires.entering some (omega arith) c.in-Ok-Some.ensures.found.1
    (c.in-Ok.ensures there.0 there.1)

pub returns-in-Err-pivot : goal.returns-in-Err-pivot
returns-in-Err-pivot c =
    let there = rest_at c.args.lines.now c.in-Ok-Some.leaving (c.in-Ok-Some.ensures.within c.in-Ok-Some.leaving c.in-Ok-Some.field-0-is) in
    let some : leaving (width c.args.rows.now) c.args.place c.args.lines.now ≡ Some there.0 =
    sym c.in-Ok-Some.ensures.found.0 ∙ ap (λ o. line_at c.args.lines.now o) c.in-Ok-Some.field-0-is ∙ there.1 in
    subst (λ (f : SolveFault). SaysOutcome c.args.rows.now (c.args.number + c.args.left) (outcome_from c.args.rows.now c.args.left c.args.number) (Err f)) (sym c.fault_at.ensures)
    (says_pivot_wide c.args.rows.now c.requires.rows c.args.number c.args.lines.now c.args.objective.now c.requires.at c.args.left c.args.place there.0 c.in-Err-pivot.fault c.requires.entering some (omega arith)
    (c.in-Err-pivot.ensures there.0 there.1))

pub returns-in-Err : goal.returns-in-Err
returns-in-Err c =
    subst (λ (f : SolveFault). SaysOutcome c.args.rows.now (c.args.number + c.args.left) (outcome_from c.args.rows.now c.args.left c.args.number) (Err f)) (sym c.wide_ratio.ensures)
    (says_ratio c.args.rows.now c.requires.rows c.args.number c.args.lines.now c.args.objective.now c.requires.at c.args.left c.args.place c.in-Err.fault c.requires.entering c.in-Err.ensures.found)
