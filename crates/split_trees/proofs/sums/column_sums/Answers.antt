-- One term more, on the side of its sign.
use Rattle.std.proofs.Common.{◌<◌, ◌+◌, ◌*◌, ◌^◌, pos, ◌<ℤ◌, ◌≤ℤ◌, rules, arith}
use Rattle.std.proofs.lemmas.Int.{ints}
use Rattle.std.specs.Int.{w128}
use mir.Val.{SFits, to_z, of_z}
use Rattle.whole_rows.specs.Rows.{column_terms_of}
use Rattle.split_trees.proofs.Terms.{term_within, next_less, next_more, product_small, sums_small, whole_sum}
use Rattle.split_trees.proofs.sums.column_sums.Goals as goal
use Rattle.split_trees.proofs.sums.column_sums.Goals.{then-term-lt0, else-term-lt0}

pub multiplier_at-requires : goal.multiplier_at-requires
multiplier_at-requires c =
    omega (arith, term_within c.args.rows.now c.args.column c.loop-i.i c.column_term-term.result c.column_term-term.ensures, c.requires.counted)

pub overflow_mul-product : goal.overflow_mul-product
overflow_mul-product c =
    let d = c.args.rows.now in
    let term = c.column_term-term.result in
    let fits : SFits w128 c.column_term-term.result.entry = search rules in
    let within = term_within d c.args.column c.loop-i.i term c.column_term-term.ensures in
    let small : c.multiplier_at.result < 2 ^ 80 = rw c.multiplier_at.ensures (c.requires.multipliers_small term.row 0 (omega (arith, within, c.requires.counted))) in
    let product = product_small d c.args.column c.loop-i.i term c.args.multipliers.now c.loop-i.more c.loop-i.less c.unsigned_abs.result c.multiplier_at.result
    c.requires.sizes c.requires.column c.column_term-term.ensures fits c.unsigned_abs.ensures.value c.multiplier_at.ensures small c.loop-i.invariant in
    omega arith

pub overflow_add-less : goal.overflow_add-less
overflow_add-less c =
    let d = c.args.rows.now in
    let term = c.column_term-term.result in
    let fits : SFits w128 c.column_term-term.result.entry = search rules in
    let negative : to_z w128 (of_z w128 c.column_term-term.result.entry) <ℤ pos 0 = omega (arith, ints, c.if-term-lt0.true) in
    let within = term_within d c.args.column c.loop-i.i term c.column_term-term.ensures in
    let m = c.multiplier_at.result in
    let small : c.multiplier_at.result < 2 ^ 80 = rw c.multiplier_at.ensures (c.requires.multipliers_small term.row 0 (omega (arith, within, c.requires.counted))) in
    let sides = next_less (column_terms_of d c.args.column) c.loop-i.i term c.args.multipliers.now c.loop-i.more c.loop-i.less c.unsigned_abs.result m
    c.column_term-term.ensures fits c.unsigned_abs.ensures.value c.multiplier_at.ensures small negative c.loop-i.invariant in
    let bound = sums_small d c.args.column (c.loop-i.i + 1) c.args.multipliers.now c.loop-i.more (c.loop-i.less + c.unsigned_abs.result * c.multiplier_at.result)
    c.requires.sizes c.requires.column sides in
    omega arith

pub overflow_add-more : goal.overflow_add-more
overflow_add-more c =
    let d = c.args.rows.now in
    let term = c.column_term-term.result in
    let fits : SFits w128 c.column_term-term.result.entry = search rules in
    let positive : pos 0 ≤ℤ to_z w128 (of_z w128 c.column_term-term.result.entry) = omega (arith, ints, c.if-term-lt0.false) in
    let within = term_within d c.args.column c.loop-i.i term c.column_term-term.ensures in
    let m = c.multiplier_at.result in
    let small : c.multiplier_at.result < 2 ^ 80 = rw c.multiplier_at.ensures (c.requires.multipliers_small term.row 0 (omega (arith, within, c.requires.counted))) in
    let sides = next_more (column_terms_of d c.args.column) c.loop-i.i term c.args.multipliers.now c.loop-i.more c.loop-i.less c.unsigned_abs.result m
    c.column_term-term.ensures fits c.unsigned_abs.ensures.value c.multiplier_at.ensures small positive c.loop-i.invariant in
    let bound = sums_small d c.args.column (c.loop-i.i + 1) c.args.multipliers.now (c.loop-i.more + c.unsigned_abs.result * c.multiplier_at.result) c.loop-i.less
    c.requires.sizes c.requires.column sides in
    omega arith

pub loop-i-preserved : goal.loop-i-preserved
loop-i-preserved c =
    let d = c.args.rows.now in
    let term = c.column_term-term.result in
    let fits : SFits w128 c.column_term-term.result.entry = search rules in
    let within = term_within d c.args.column c.loop-i.i term c.column_term-term.ensures in
    let m = c.multiplier_at.result in
    let small : c.multiplier_at.result < 2 ^ 80 = rw c.multiplier_at.ensures (c.requires.multipliers_small term.row 0 (omega (arith, within, c.requires.counted))) in
    elim c.if-term-lt0.branch [
      | then-term-lt0 w ↦
          (let negative : to_z w128 (of_z w128 c.column_term-term.result.entry) <ℤ pos 0 = omega (arith, ints, w.if-term-lt0.true) in
          rw (w.more-is, w.less-is) (next_less (column_terms_of d c.args.column) c.loop-i.i term c.args.multipliers.now c.loop-i.more c.loop-i.less c.unsigned_abs.result m
          c.column_term-term.ensures fits c.unsigned_abs.ensures.value c.multiplier_at.ensures small negative c.loop-i.invariant))
      | else-term-lt0 w ↦
          (let positive : pos 0 ≤ℤ to_z w128 (of_z w128 c.column_term-term.result.entry) = omega (arith, ints, w.if-term-lt0.false) in
          rw (w.more-is, w.less-is) (next_more (column_terms_of d c.args.column) c.loop-i.i term c.args.multipliers.now c.loop-i.more c.loop-i.less c.unsigned_abs.result m
          c.column_term-term.ensures fits c.unsigned_abs.ensures.value c.multiplier_at.ensures small positive c.loop-i.invariant))
    ]

pub returns-clause-sum : goal.returns-clause-sum
returns-clause-sum c =
    whole_sum c.args.rows.now c.args.column c.loop-i.i c.args.multipliers.now c.loop-i.more c.loop-i.less c.requires.counted
    (omega (arith, c.loop-i-test.false, c.column_terms-i-end.ensures)) c.loop-i.invariant

pub returns-clause-small : goal.returns-clause-small
returns-clause-small c =
    sums_small c.args.rows.now c.args.column c.loop-i.i c.args.multipliers.now c.loop-i.more c.loop-i.less c.requires.sizes c.requires.column c.loop-i.invariant
