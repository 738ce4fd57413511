-- One line more at each turn.
use Rattle.std.proofs.Common.{◌≡◌, ℕ, ℤ, length, subst, rules, arith}
use Rattle.std.specs.Int.{w128}
use Rattle.std.proofs.lemmas.Int.{to_z-of_z}
use mir.Val.{SFits, to_z, of_z}
use Rattle.whole_simplex.specs.Faults.{IsFaultOf}
use Rattle.whole_simplex.specs.Outcome.{AreNarrow, with_basics, basic_pairs, direction_pairs}
use Rattle.whole_simplex.specs.declared.line.Line.{Line}
use Rattle.whole_simplex.proofs.Eliminating.{fault_of_line}
use Rattle.whole_simplex.proofs.Multiples.{placed_none, placed_more, placed_all}
use Rattle.whole_simplex.proofs.rays.put_basics.Goals as goal

pub loop-i-init : goal.loop-i-init
loop-i-init c =
    let m : SFits w128 c.args.multiple = c.ranges.multiple in
    (simp to_z-of_z (placed_none c.args.place c.args.multiple c.args.lines.now c.args.ray.now), c.requires.in_range)

pub returns-in-Err-clause-value : goal.returns-in-Err-clause-value
returns-in-Err-clause-value c =
    let m : SFits w128 c.args.multiple = c.ranges.multiple in
    let here : IsFaultOf (basic_pairs (length c.args.ray.now) c.args.place c.args.multiple c.index-lines-i.result) c.in-Err.fault =
    subst (λ (z : ℤ). IsFaultOf (basic_pairs (length c.args.ray.now) c.args.place z c.index-lines-i.result) c.in-Err.fault) (to_z-of_z w128 c.args.multiple m)
    (subst (λ (n : ℕ). IsFaultOf (basic_pairs n c.args.place (to_z w128 (of_z w128 c.args.multiple)) c.index-lines-i.result) c.in-Err.fault) c.loop-i.auto.ray c.in-Err.ensures.value) in
    fault_of_line (basic_pairs (length c.args.ray.now) c.args.place c.args.multiple) c.args.lines.now c.loop-i.i c.index-lines-i.result c.in-Err.fault c.loop-i-test.true
    (subst (λ (l : Line). IsFaultOf (basic_pairs (length c.args.ray.now) c.args.place c.args.multiple l) c.in-Err.fault) c.index-lines-i.is here)

pub loop-i-preserved : goal.loop-i-preserved
loop-i-preserved c =
    let long : length c.put_basic.new.ray ≡ length c.loop-i.ray = search rules in (
      placed_more c.args.place (to_z w128 (of_z w128 c.args.multiple)) c.args.lines.now c.loop-i.i c.index-lines-i.result c.args.ray.now c.loop-i.ray c.put_basic.new.ray c.loop-i-test.true c.index-lines-i.is c.in-Ok.ensures.value.0 long c.in-Ok.ensures.value.1 c.loop-i.invariant.0,
      c.in-Ok.ensures.in_range,
    )

pub returns-clause-value : goal.returns-clause-value
returns-clause-value c =
    let m : SFits w128 c.args.multiple = c.ranges.multiple in
    let ended : length c.args.lines.now ≡ c.loop-i.i = omega arith in
    subst (λ (z : ℤ). (c.loop-i.ray ≡ with_basics c.args.place z c.args.lines.now c.args.ray.now) × AreNarrow (direction_pairs (length c.args.ray.now) c.args.place z c.args.lines.now)) (to_z-of_z w128 c.args.multiple m)
    (placed_all c.args.place (to_z w128 (of_z w128 c.args.multiple)) c.args.lines.now c.loop-i.i c.args.ray.now c.loop-i.ray ended c.loop-i.invariant.0)
