-- Four places more.
use Rattle.std.proofs.Common.{◌≡◌, ◌+◌, ◌++◌, ◌∷◌, [], ℤ, pos, get_or, take, Ok, refl, arith, rules, ◌∙◌, ap}
use Rattle.std.proofs.lemmas.Int.{to_z-of_z}
use Rattle.std.specs.Int.{w64, w128}
use mir.Val.{SFits, to_z, of_z}
use Rattle.whole_rows.specs.Row.{combination}
use Rattle.whole_rows.proofs.FirstPlaces.{combination_push, four_pushed}
use Rattle.whole_rows.proofs.lanes.push_lanes.Goals as goal

pub returns : goal.returns
returns c =
    let row = c.args.row.now in
    let other = c.args.pivot_row.now in
    let i = c.args.at in
    let old = c.args.entries.now.items in
    let p_fits : SFits w64 c.args.p = c.ranges.p in
    let a_fits : SFits w64 c.args.a = c.ranges.a in
    let p : ℤ = to_z w64 (of_z w64 c.args.p) in
    let a : ℤ = to_z w64 (of_z w64 c.args.a) in
    let x : ℤ = c.lane.result in
    let y : ℤ = c.lane-2.result in
    let z : ℤ = c.lane-3.result in
    let t : ℤ = c.lane-4.result in
    let x_fits : SFits w128 c.lane.result = search rules in
    let y_fits : SFits w128 c.lane-2.result = search rules in
    let z_fits : SFits w128 c.lane-3.result = search rules in
    let t_fits : SFits w128 c.lane-4.result = search rules in
    let before : combination (take i row) p (take i other) a ≡ Ok old = simp to_z-of_z c.requires.before in
    let one = combination_push row p other a i (i + 1) old (get_or row i (pos 0)) (get_or other i (pos 0)) x (omega (arith, c.requires.row)) c.requires.same refl refl refl c.lane.ensures before in
    let two = combination_push row p other a (i + 1) (i + 2) (old ++ x ∷ []) (get_or row (i + 1) (pos 0)) (get_or other (i + 1) (pos 0)) y (omega (arith, c.requires.row)) c.requires.same (omega arith) refl refl c.lane-2.ensures one in
    let three = combination_push row p other a (i + 2) (i + 3) ((old ++ x ∷ []) ++ y ∷ []) (get_or row (i + 2) (pos 0)) (get_or other (i + 2) (pos 0)) z (omega (arith, c.requires.row)) c.requires.same (omega arith) refl refl c.lane-3.ensures two in
    let four = combination_push row p other a (i + 3) (i + 4) (((old ++ x ∷ []) ++ y ∷ []) ++ z ∷ []) (get_or row (i + 3) (pos 0)) (get_or other (i + 3) (pos 0)) t (omega (arith, c.requires.row)) c.requires.same (omega arith) refl refl c.lane-4.ensures three in
    let items : c.extend_from_slice.new.self.items ≡ old ++ x ∷ y ∷ z ∷ t ∷ [] = simp to_z-of_z at c.in_ok-extend_from_slice.ensures.items in
    rw items (simp to_z-of_z at (four ∙ ap Ok (four_pushed old x y z t)))
