-- The greatest size so far.
use Rattle.std.proofs.Common.{◌≡◌, pos, get_or, rules, arith}
use Rattle.std.specs.Prelude.{unsigned_abs}
use Rattle.std.specs.Int.{w64}
use Rattle.std.proofs.lemmas.Int.{to_z-of_z}
use Rattle.std.proofs.lemmas.List.{take_all}
use mir.Val.{SFits}
use Rattle.whole_simplex.proofs.Reducing.{largest_more}
use Rattle.whole_simplex.proofs.narrow.largest.Goals as goal
use Rattle.whole_simplex.proofs.narrow.largest.Goals.{then-size-largest, else-size-largest}

pub loop-entry-preserved : goal.loop-entry-preserved
loop-entry-preserved c =
    let row = c.args.entries.now in
    let i = c.loop-entry.entry-index in
    let fits : SFits w64 (get_or row i (pos 0)) = search rules in
    let size : c.unsigned_abs-size.result ≡ unsigned_abs (get_or row i (pos 0)) = simp to_z-of_z at c.unsigned_abs-size.ensures.value in
    elim c.if-size-largest.branch [
      | then-size-largest w ↦ (
        largest_more row i c.loop-entry.largest c.unsigned_abs-size.result c.if-size-largest.largest c.loop-entry-test.true size (omega arith) (omega arith) c.loop-entry.invariant.0,
        λ bound h. omega (arith, h i (pos 0) c.loop-entry-test.true, size),
      )
      | else-size-largest w ↦ (
        largest_more row i c.loop-entry.largest c.unsigned_abs-size.result c.if-size-largest.largest c.loop-entry-test.true size (omega arith) (omega arith) c.loop-entry.invariant.0,
        λ bound h. omega (arith, c.loop-entry.invariant.1 bound h),
      )
    ]

pub returns-clause-bound : goal.returns-clause-bound
returns-clause-bound c = rw (take_all c.loop-entry.entry-index c.args.entries.now (omega arith)) at c.loop-entry.invariant.0
