use Rattle.whole_rows.proofs.Duality.{unreached, counts_stay_within}
use Rattle.whole_rows.proofs.duals.good_multipliers_bound.Goals as goal

pub returns-clause-fractions : goal.returns-clause-fractions
returns-clause-fractions c =
    unreached c.args.rows.now c.args.multipliers.now c.args.denominator c.args.bound c.row_count-rows.ensures.rows.shape c.requires

pub returns-clause-whole : goal.returns-clause-whole
returns-clause-whole c =
    counts_stay_within c.args.rows.now c.args.multipliers.now c.args.denominator c.args.bound c.row_count-rows.ensures.rows.shape c.requires
