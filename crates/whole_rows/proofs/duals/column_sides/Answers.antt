-- One term more, on the side of its sign.
use Rattle.std.proofs.Common.{◌≡◌, ◌<◌, ◌+◌, ◌*◌, ◌^◌, ℕ, List, pos, ◌<ℤ◌, ◌≤ℤ◌, length, get_or, unsigned_abs, refl, rules, arith}
use Rattle.std.proofs.lemmas.Int.{to_z-of_z, ints}
use Rattle.std.specs.Int.{w128}
use mir.Val.{SFits, to_z, of_z}
use Rattle.whole_rows.specs.declared.RowTerm.{RowTerm}
use Rattle.whole_rows.proofs.Totals.{AreSides, sides_less, sides_more, sides_small}
use Rattle.whole_rows.proofs.duals.column_sides.Goals as goal
use Rattle.whole_rows.proofs.duals.column_sides.Goals.{then-term-lt0, else-term-lt0}

none : RowTerm
none = record { row = 0; entry = pos 0 }

-- a term as the code reads it, below 0
next_less : (terms : List RowTerm) (i : ℕ) (multipliers : List ℕ) (more less size : ℕ) → i < length terms → SFits w128 (get_or terms i none).entry → size ≡ unsigned_abs (to_z w128 (of_z w128 (get_or terms i none).entry)) → get_or multipliers ((get_or terms i none).row) 0 < 2 ^ 80 → to_z w128 (of_z w128 (get_or terms i none).entry) <ℤ pos 0 → AreSides terms multipliers i more less → AreSides terms multipliers (i + 1) more (less + size * get_or multipliers ((get_or terms i none).row) 0)
next_less terms i multipliers more less size h fits is small negative so_far =
    sides_less terms i none multipliers more less size (get_or multipliers ((get_or terms i none).row) 0) h (simp to_z-of_z at is) refl small (simp to_z-of_z at negative) so_far

-- and from 0 on
next_more : (terms : List RowTerm) (i : ℕ) (multipliers : List ℕ) (more less size : ℕ) → i < length terms → SFits w128 (get_or terms i none).entry → size ≡ unsigned_abs (to_z w128 (of_z w128 (get_or terms i none).entry)) → get_or multipliers ((get_or terms i none).row) 0 < 2 ^ 80 → pos 0 ≤ℤ to_z w128 (of_z w128 (get_or terms i none).entry) → AreSides terms multipliers i more less → AreSides terms multipliers (i + 1) (more + size * get_or multipliers ((get_or terms i none).row) 0) less
next_more terms i multipliers more less size h fits is small positive so_far =
    sides_more terms i none multipliers more less size (get_or multipliers ((get_or terms i none).row) 0) h (simp to_z-of_z at is) refl small (simp to_z-of_z at positive) so_far

pub overflow_add-less : goal.overflow_add-less
unfolding none
overflow_add-less c =
    let terms = c.args.terms.now in
    let multipliers = c.args.multipliers.now in
    let i = c.loop-term.term-index in
    let fits : SFits w128 (get_or c.args.terms.now c.loop-term.term-index none).entry = search rules in
    let negative : to_z w128 (of_z w128 (get_or c.args.terms.now c.loop-term.term-index none).entry) <ℤ pos 0 = omega (arith, ints, c.if-term-lt0.true) in
    let small = c.requires.multipliers_small ((get_or terms i none).row) 0 (c.requires.within i none c.loop-term-test.true) in
    let sides = next_less terms i multipliers c.loop-term.more c.loop-term.less c.unsigned_abs.result c.loop-term-test.true fits c.unsigned_abs.ensures.value small negative c.loop-term.invariant in
    let bound = sides_small terms (i + 1) multipliers c.loop-term.more (c.loop-term.less + c.unsigned_abs.result * get_or multipliers ((get_or terms i none).row) 0) c.requires.sizes sides in
    omega arith

pub loop-term-preserved : goal.loop-term-preserved
unfolding none
loop-term-preserved c =
    let terms = c.args.terms.now in
    let multipliers = c.args.multipliers.now in
    let i = c.loop-term.term-index in
    let fits : SFits w128 (get_or c.args.terms.now c.loop-term.term-index none).entry = search rules in
    let small = c.requires.multipliers_small ((get_or terms i none).row) 0 (c.requires.within i none c.loop-term-test.true) in
    elim c.if-term-lt0.branch [
      | then-term-lt0 w ↦
          (let negative : to_z w128 (of_z w128 (get_or c.args.terms.now c.loop-term.term-index none).entry) <ℤ pos 0 = omega (arith, ints, w.if-term-lt0.true) in
          rw (w.more-is, w.less-is) (next_less terms i multipliers c.loop-term.more c.loop-term.less c.unsigned_abs.result c.loop-term-test.true fits c.unsigned_abs.ensures.value small negative c.loop-term.invariant))
      | else-term-lt0 w ↦
          (let positive : pos 0 ≤ℤ to_z w128 (of_z w128 (get_or c.args.terms.now c.loop-term.term-index none).entry) = omega (arith, ints, w.if-term-lt0.false) in
          rw (w.more-is, w.less-is) (next_more terms i multipliers c.loop-term.more c.loop-term.less c.unsigned_abs.result c.loop-term-test.true fits c.unsigned_abs.ensures.value small positive c.loop-term.invariant))
    ]
