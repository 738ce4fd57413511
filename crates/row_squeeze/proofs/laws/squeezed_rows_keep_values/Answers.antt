use Rattle.row_squeeze.proofs.Points.{full_points, squeezed_points, same_greatest, greatest_squeezed}
use Rattle.row_squeeze.proofs.laws.squeezed_rows_keep_values.Goals as goal

pub returns-clause-full : goal.returns-clause-full
returns-clause-full c = full_points c.args.rows.now c.args.links.now c.row_count-rows.ensures.rows c.requires

pub returns-clause-squeezed : goal.returns-clause-squeezed
returns-clause-squeezed c = squeezed_points c.args.rows.now c.args.links.now c.row_count-rows.ensures.rows c.requires

pub returns-clause-greatest : goal.returns-clause-greatest
returns-clause-greatest c =
    λ bound. (same_greatest c.args.rows.now c.args.links.now bound c.row_count-rows.ensures.rows c.requires, greatest_squeezed c.args.rows.now c.args.links.now bound c.row_count-rows.ensures.rows c.requires)
