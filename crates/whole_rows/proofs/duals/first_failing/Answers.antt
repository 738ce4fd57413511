-- The answer that is computed holds of the multipliers.
use Rattle.std.proofs.Common.{◌≡◌, subst, sym, rules}
use Rattle.whole_rows.specs.declared.DualVerdict.TheVariants.{Yes, Column, Bound}
use Rattle.whole_rows.specs.Duals.{IsFirstFailing, first_failing_of}
use Rattle.whole_rows.proofs.Verdicts.{first_failing_holds}
use Rattle.whole_rows.proofs.duals.first_failing.Goals as goal

pub returns-in-Some-clause-holds : goal.returns-in-Some-clause-holds
returns-in-Some-clause-holds c =
    let value : Column c.in-Some.column ≡ first_failing_of c.args.rows.now c.args.multipliers.now c.args.denominator c.args.bound = search rules in
    subst (IsFirstFailing c.args.rows.now c.args.multipliers.now c.args.denominator c.args.bound) (sym value) (first_failing_holds c.args.rows.now c.args.multipliers.now c.args.denominator c.args.bound)

pub returns-then-stays_below-clause-holds : goal.returns-then-stays_below-clause-holds
returns-then-stays_below-clause-holds c =
    let value : Yes ≡ first_failing_of c.args.rows.now c.args.multipliers.now c.args.denominator c.args.bound = search rules in
    subst (IsFirstFailing c.args.rows.now c.args.multipliers.now c.args.denominator c.args.bound) (sym value) (first_failing_holds c.args.rows.now c.args.multipliers.now c.args.denominator c.args.bound)

pub returns-else-stays_below-clause-holds : goal.returns-else-stays_below-clause-holds
returns-else-stays_below-clause-holds c =
    let value : Bound ≡ first_failing_of c.args.rows.now c.args.multipliers.now c.args.denominator c.args.bound = search rules in
    subst (IsFirstFailing c.args.rows.now c.args.multipliers.now c.args.denominator c.args.bound) (sym value) (first_failing_holds c.args.rows.now c.args.multipliers.now c.args.denominator c.args.bound)
