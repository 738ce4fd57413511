-- No more are wide than there are.
use Rattle.std.proofs.Common.{◌≡◌, pos, get_or, arith, rules}
use Rattle.std.proofs.lemmas.Int.{to_z-of_z}
use Rattle.std.proofs.lemmas.List.Sums.{sum_by_more_le}
use Rattle.std.specs.Int.{w128}
use mir.Val.{SFits}
use Rattle.whole_rows.specs.Working.Wide.{wide_of}
use Rattle.whole_rows.proofs.FirstPlaces.{wide_count-le-length}
use Rattle.whole_rows.proofs.row.wide_count.Goals as goal

pub overflow_add-count : goal.overflow_add-count
overflow_add-count c =
    let row = c.args.numbers.now in
    let i = c.loop-number.number-index in
    let fits : SFits w128 (get_or c.args.numbers.now c.loop-number.number-index (pos 0)) = search rules in
    let one : c.wide_of-count.result ≡ wide_of (get_or c.args.numbers.now c.loop-number.number-index (pos 0)) = simp to_z-of_z at c.wide_of-count.ensures in
    omega (arith, c.loop-number.invariant, sum_by_more_le wide_of row i (pos 0) c.loop-number-test.true, wide_count-le-length row)
