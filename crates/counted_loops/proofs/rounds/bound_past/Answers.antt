-- The rounds before the last one are those that stay below the limit.
use Rattle.std.proofs.Common.{pos, ◌<ℤ◌, arith}
use Rattle.std.proofs.lemmas.Int.{ints, to_z-of_z}
use Rattle.counted_loops.proofs.Bounding.{past_ends}
use Rattle.counted_loops.proofs.rounds.bound_past.Goals as goal

pub returns-then-step-gt0 : goal.returns-then-step-gt0
returns-then-step-gt0 c =
    let start = c.ranges.start in let step = c.ranges.step in let limit = c.ranges.limit in
    let up : pos 0 <ℤ c.args.step = omega (arith, ints) in
    past_ends c.args.start c.args.step c.args.limit c.steps_before.result c.unsigned_abs.result up
    (simp to_z-of_z at c.unsigned_abs.ensures.value) (simp to_z-of_z at c.steps_before.ensures)
