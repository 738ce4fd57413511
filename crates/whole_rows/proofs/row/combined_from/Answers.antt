-- One place more at each turn.
use Rattle.std.proofs.Common.{◌≡◌, ◌++◌, ◌∷◌, [], ℤ, get_or, take, pos, Err, rules, arith}
use Rattle.std.proofs.lemmas.Int.{to_z-of_z}
use Rattle.std.proofs.lemmas.List.Elements.{All-push}
use Rattle.std.specs.Int.{w128}
use mir.Val.{SFits, to_z, of_z}
use Rattle.whole_rows.specs.Row.{IsInRange, combined_entry, combination}
use Rattle.whole_rows.proofs.Combinations.{combination_more, combination_stops, combination_ends, stops_with, fits_from_range}
use Rattle.whole_rows.proofs.FirstPlaces.{combination_split, combination_in_range}
use Rattle.whole_rows.proofs.row.combined_from.Goals as goal

pub loop-i-init : goal.loop-i-init
loop-i-init c =
    let p_fits : SFits w128 c.args.p = c.ranges.p in
    let a_fits : SFits w128 c.args.a = c.ranges.a in (
      simp to_z-of_z (combination_split c.args.row.now c.args.p c.args.pivot_row.now c.args.a c.args.at c.args.before.items c.requires.same c.requires.before),
      combination_in_range (take c.args.at c.args.row.now) c.args.p (take c.args.at c.args.pivot_row.now) c.args.a c.args.before.items c.requires.before,
    )

pub loop-i-preserved : goal.loop-i-preserved
loop-i-preserved c =
    let row = c.args.row.now in
    let other = c.args.pivot_row.now in
    let i = c.loop-i.i in
    let x : ℤ = get_or row i (pos 0) in
    let y : ℤ = get_or other i (pos 0) in
    let p : ℤ = to_z w128 (of_z w128 c.args.p) in
    let a : ℤ = to_z w128 (of_z w128 c.args.a) in
    let x_fits : SFits w128 (get_or row i (pos 0)) = search rules in
    let y_fits : SFits w128 (get_or other i (pos 0)) = search rules in
    let entry_fits : SFits w128 c.in-Ok.entry = fits_from_range c.in-Ok.entry c.in-Ok.ensures.in_range in
    let step = combination_more row p other a i c.loop-i.entries.items (to_z w128 (of_z w128 x)) (to_z w128 (of_z w128 y)) c.in-Ok.entry (combination row p other a) c.loop-i-test.true c.requires.same (to_z-of_z w128 x x_fits) (to_z-of_z w128 y y_fits) c.in-Ok.ensures.value c.loop-i.invariant.0 in
    let items : c.push.new.self.items ≡ c.loop-i.entries.items ++ c.in-Ok.entry ∷ [] = simp to_z-of_z at c.in_ok-push-in-Ok.ensures.items in
    (rw items step, rw items (All-push IsInRange c.loop-i.entries.items c.in-Ok.entry c.loop-i.invariant.1 c.in-Ok.ensures.in_range))

pub returns-in-Err : goal.returns-in-Err
returns-in-Err c =
    let row = c.args.row.now in
    let other = c.args.pivot_row.now in
    let i = c.loop-i.i in
    let x : ℤ = get_or row i (pos 0) in
    let y : ℤ = get_or other i (pos 0) in
    let p : ℤ = to_z w128 (of_z w128 c.args.p) in
    let a : ℤ = to_z w128 (of_z w128 c.args.a) in
    let x_fits : SFits w128 (get_or row i (pos 0)) = search rules in
    let y_fits : SFits w128 (get_or other i (pos 0)) = search rules in
    let p_fits : SFits w128 c.args.p = c.ranges.p in
    let a_fits : SFits w128 c.args.a = c.ranges.a in
    let stops : (wide : ℤ × ℤ) → combined_entry p (to_z w128 (of_z w128 x)) a (to_z w128 (of_z w128 y)) ≡ Err wide → combination row c.args.p other c.args.a ≡ Err wide =
    λ wide is. simp to_z-of_z at (combination_stops row p other a i c.loop-i.entries.items (to_z w128 (of_z w128 x)) (to_z w128 (of_z w128 y)) wide (combination row p other a) c.loop-i-test.true c.requires.same (to_z-of_z w128 x x_fits) (to_z-of_z w128 y y_fits) is c.loop-i.invariant.0) in
    stops_with (combined_entry p (to_z w128 (of_z w128 x)) a (to_z w128 (of_z w128 y))) (combination row c.args.p other c.args.a) c.in-Err.fault c.in-Err.ensures.value stops

pub returns : goal.returns
returns c =
    let p : SFits w128 c.args.p = c.ranges.p in
    let a : SFits w128 c.args.a = c.ranges.a in
    rw c.from_vec.ensures (combination_ends c.args.row.now c.args.p c.args.pivot_row.now c.args.a c.loop-i.i c.loop-i.entries.items (combination c.args.row.now c.args.p c.args.pivot_row.now c.args.a) (omega arith) (simp to_z-of_z at c.loop-i.invariant.0))
