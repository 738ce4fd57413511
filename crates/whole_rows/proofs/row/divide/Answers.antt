-- One place more at each turn.
use Rattle.std.proofs.Common.{◌≡◌, ◌<◌, ℤ, length, int_div, pos, rules, sym, ◌∙◌, subst, ap}
use Rattle.std.proofs.lemmas.List.Edits.{map_over_more}
use Rattle.std.proofs.lemmas.List.Elements.{All-set, All-get_or}
use Rattle.std.proofs.lemmas.Int.{to_z-of_z}
use Rattle.std.specs.Int.{w128}
use mir.Val.{SFits, to_z, of_z}
use Rattle.whole_rows.specs.Row.{IsInRange}
use Rattle.whole_rows.proofs.Divisors.{int_div-in_range}
use Rattle.whole_rows.proofs.Combinations.{fits_from_range}
use Rattle.whole_rows.proofs.row.divide.Goals as goal

pub loop-i-preserved : goal.loop-i-preserved
loop-i-preserved c =
    let i = c.loop-i.i in
    let old = c.args.entries.now.items in
    let now = c.loop-i.entries.items in
    let x : ℤ = c.index.result.now in
    let divided : ℤ = int_div x (pos c.args.divisor) in
    let within : i < length c.args.entries.now.items = search rules in
    let within_now : i < length c.loop-i.entries.items = search rules in
    let x_in_range : IsInRange c.index.result.now = subst IsInRange (sym c.index.ensures) (All-get_or IsInRange now i x within_now c.loop-i.invariant.1) in
    let x_fits : SFits w128 c.index.result.now = fits_from_range x x_in_range in
    let in_range : IsInRange (int_div c.index.result.now (pos c.args.divisor)) = int_div-in_range x c.args.divisor x_in_range in
    let fits : SFits w128 (int_div c.index.result.now (pos c.args.divisor)) = fits_from_range divided in_range in
    let value : to_z w128 (of_z w128 c.quotient-quotient.result) ≡ int_div c.index.result.now (pos c.args.divisor) = ap (λ z. to_z w128 (of_z w128 z)) (simp to_z-of_z at c.quotient-quotient.ensures) ∙ to_z-of_z w128 divided fits in
    (rw value (map_over_more (λ (z : ℤ). int_div z (pos c.args.divisor)) old now i x within c.loop-i.invariant.0 c.index.ensures), rw value (All-set IsInRange now i divided in_range c.loop-i.invariant.1))
