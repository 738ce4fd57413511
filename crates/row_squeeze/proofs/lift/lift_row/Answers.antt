-- The lifted multiplier is never below 0.
use Rattle.std.proofs.Common.{◌≡◌, ◌≤ℤ◌, pos, set, false, sym, ap, ◌∙◌, rules, arith}
use Rattle.std.proofs.lemmas.Int.{to_z-of_z, ints}
use Rattle.std.proofs.lemmas.List.Elements.{All-set, All-get_or}
use Rattle.std.specs.Int.{w128}
use mir.Val.{SFits}
use Rattle.whole_rows.proofs.Combinations.{fits_from_range}
use Rattle.whole_simplex.specs.Answers.{IsSmall}
use Rattle.whole_simplex.specs.Outcome.{is_large}
use Rattle.row_squeeze.proofs.Value.{set_again, value-not_negative, not_large}
use Rattle.row_squeeze.proofs.lift.lift_row.Goals as goal

pub returns-clause-ok : goal.returns-clause-ok
returns-clause-ok c =
    let fits_denominator : SFits w128 c.args.denominator = search rules in
    let fits : SFits w128 c.remainder-value.result = fits_from_range c.remainder-value.result c.remainder-value.ensures.in_range in
    let value = simp to_z-of_z at c.remainder-value.ensures.value in
    simp to_z-of_z (set_again c.args.multipliers.now c.args.row (pos 0) c.remainder-value.result ∙ ap (set c.args.multipliers.now c.args.row) value)

pub returns-clause-small : goal.returns-clause-small
returns-clause-small c =
    let fits_denominator : SFits w128 c.args.denominator = search rules in
    let fits : SFits w128 c.remainder-value.result = fits_from_range c.remainder-value.result c.remainder-value.ensures.in_range in
    let value = simp to_z-of_z at c.remainder-value.ensures.value in
    let cost = All-get_or (λ cost. pos 0 ≤ℤ cost) c.args.rows.now.costs c.args.column (pos 0) c.requires.column c.requires.sizes.costs_not_negative in
    let above = value-not_negative c.args.rows.now c.args.denominator c.args.multipliers.now c.args.row c.args.column c.requires.denominator cost (omega (arith, c.requires.counted)) c.requires.others in
    let large : is_large c.remainder-value.result ≡ false = simp to_z-of_z at (sym c.is_large.ensures ∙ c.if-is_large.false) in
    let below = not_large c.remainder-value.result large in
    let small : IsSmall c.remainder-value.result = (rw value above, below) in
    let zero : IsSmall (pos 0) = (omega (arith, ints), omega (arith, ints)) in
    let all = All-set IsSmall (set c.args.multipliers.now c.args.row (pos 0)) c.args.row c.remainder-value.result small (All-set IsSmall c.args.multipliers.now c.args.row (pos 0) zero c.requires.multipliers) in
    simp to_z-of_z all
