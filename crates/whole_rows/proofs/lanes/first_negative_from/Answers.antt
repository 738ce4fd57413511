-- The place is the first one with a negative entry.
use Rattle.std.proofs.Common.{ℕ, ◌+◌, ◌<ℤ◌, ◌≤ℤ◌, pos, get_or, arith, rules, refl}
use Rattle.std.proofs.lemmas.Int.{ints}
use Rattle.std.specs.Int.{w128}
use mir.Val.{SFits}
use Rattle.whole_rows.proofs.FirstPlaces.{first_negative_at, first_negative_none, one_more}
use Rattle.whole_rows.proofs.lanes.first_negative_from.Goals as goal

pub returns-then-entries-i-lt0 : goal.returns-then-entries-i-lt0
returns-then-entries-i-lt0 c =
    let fits : SFits w128 (get_or c.args.entries.now c.loop-i.i (pos 0)) = search rules in
    let negative : get_or c.args.entries.now c.loop-i.i (pos 0) <ℤ pos 0 = omega (arith, ints) in
    first_negative_at c.args.entries.now c.loop-i.i c.loop-i-test.true negative c.loop-i.invariant

pub loop-i-preserved : goal.loop-i-preserved
loop-i-preserved c =
    let fits : SFits w128 (get_or c.args.entries.now c.loop-i.i (pos 0)) = search rules in
    let above : pos 0 ≤ℤ get_or c.args.entries.now c.loop-i.i (pos 0) = omega (arith, ints) in
    one_more (λ (k : ℕ). pos 0 ≤ℤ get_or c.args.entries.now k (pos 0)) c.loop-i.i (c.loop-i.i + 1) refl above c.loop-i.invariant

pub returns : goal.returns
returns c = first_negative_none c.args.entries.now c.loop-i.i (omega arith) c.loop-i.invariant
