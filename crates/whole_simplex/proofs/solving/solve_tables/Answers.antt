-- The last turn is at the limit.
use Rattle.std.proofs.Common.{◌≡◌, ◌+◌, ◌-◌, ℕ, ap, sym, ◌∙◌, subst, arith}
use Rattle.whole_simplex.specs.Outcome.{Outcome, SaysOutcome, outcome_from}
use Rattle.whole_simplex.proofs.solving.solve_tables.Goals as goal

pub returns : goal.returns
returns c =
    let d = c.args.rows.now in
    let ended : c.loop-number.number ≡ c.args.pivots = omega arith in
    let less : c.args.pivots - c.loop-number.number ≡ 0 = omega arith in
    let limit : c.args.pivots + 0 ≡ c.args.pivots = omega arith in
    let same : outcome_from c.args.rows.now 0 c.args.pivots ≡ outcome_from c.args.rows.now c.args.pivots 0 =
    ap (λ (n : ℕ). outcome_from c.args.rows.now n c.args.pivots) (sym less)
    ∙ ap (λ (n : ℕ). outcome_from c.args.rows.now (c.args.pivots - c.loop-number.number) n) (sym ended) ∙ c.loop-number.invariant.1 in
    subst (λ (o : Outcome). SaysOutcome c.args.rows.now c.args.pivots o c.in-Some-turn.answer) same
    (subst (λ (n : ℕ). SaysOutcome c.args.rows.now n (outcome_from c.args.rows.now 0 c.args.pivots) c.in-Some-turn.answer) limit c.in-Some-turn.ensures)
