-- Four places more.
use Rattle.std.proofs.Common.{◌≡◌, ◌+◌, ◌||◌, int_lt, pos, get_or, arith, rules}
use Rattle.std.proofs.lemmas.Int.{to_z-of_z}
use Rattle.std.specs.Int.{w128}
use mir.Val.{SFits}
use Rattle.whole_rows.proofs.FirstPlaces.{four_more}
use Rattle.whole_rows.proofs.lanes.skipped.Goals as goal

pub loop-at-preserved : goal.loop-at-preserved
loop-at-preserved c =
    let row = c.args.entries.now in
    let i = c.loop-at.at in
    let first : SFits w128 (get_or c.args.entries.now c.loop-at.at (pos 0)) = search rules in
    let second : SFits w128 (get_or c.args.entries.now (c.loop-at.at + 1) (pos 0)) = search rules in
    let third : SFits w128 (get_or c.args.entries.now (c.loop-at.at + 2) (pos 0)) = search rules in
    let fourth : SFits w128 (get_or c.args.entries.now (c.loop-at.at + 3) (pos 0)) = search rules in
    let found : c.one_is_negative.result ≡ (int_lt (get_or row i (pos 0)) (pos 0) || int_lt (get_or row (i + 1) (pos 0)) (pos 0) || int_lt (get_or row (i + 2) (pos 0)) (pos 0) || int_lt (get_or row (i + 3) (pos 0)) (pos 0)) = simp to_z-of_z at c.one_is_negative.ensures in
    record {
      within = omega arith;
      skipped = four_more row i c.one_is_negative.result found c.if-one_is_negative.false c.loop-at.invariant.skipped;
    }
