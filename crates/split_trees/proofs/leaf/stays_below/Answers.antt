use Rattle.std.proofs.Common.{◌≡◌, ◌++◌, ◌+◌, pos, ◌-ℤ◌, arith}
use Rattle.std.proofs.lemmas.Int.{ints}
use Rattle.whole_rows.specs.Rows.{right_sum}
use Rattle.split_trees.specs.Sides.{split_rows}
use Rattle.split_trees.proofs.Beside.{right_sum-beside}
use Rattle.split_trees.proofs.leaf.stays_below.Goals as goal

pub returns : goal.returns
returns c =
    let beside = right_sum-beside c.args.rows.now c.args.sides.now c.args.own.now c.args.cuts.now c.requires.counted c.right_total.ensures.shape in
    let sum : right_sum (split_rows c.args.rows.now c.args.sides.now) (c.args.own.now ++ c.args.cuts.now)
    ≡ pos (c.right_total.result + c.side_totals-rest.result.more) -ℤ pos c.side_totals-rest.result.less =
    omega (arith, ints, beside, c.right_total.ensures.sum, c.side_totals-rest.ensures.sum) in
    (λ says. let below = c.is_below.ensures.0 says in omega (arith, ints, sum, below), λ stays. c.is_below.ensures.1 (omega (arith, ints, sum, stays)))
