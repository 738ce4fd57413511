-- One multiplier more at each turn.
use Rattle.std.proofs.Common.{◌≡◌, ◌<◌, ◌+◌, ◌++◌, ◌∷◌, [], length, true, false, not, is_ok, ap, ◌∙◌, sym, subst, arith}
use Rattle.std.proofs.lemmas.Int.{to_z-of_z}
use Rattle.std.proofs.lemmas.List.Elements.{All-push}
use Rattle.std.specs.Int.{w128}
use mir.Val.{SFits}
use Rattle.whole_rows.proofs.Combinations.{fits_from_range}
use Rattle.whole_rows.specs.Row.{IsInRange, AreInRange}
use Rattle.whole_simplex.specs.Outcome.{is_large}
use Rattle.whole_simplex.specs.Tables.{entry}
use Rattle.whole_simplex.proofs.Reading.{large_multiplier, next_multiplier, none_large}
use Rattle.whole_simplex.proofs.optimal.multipliers.Goals as goal

pub overflow_add-columns : goal.overflow_add-columns
overflow_add-columns c = omega (arith, c.requires.room, c.column_count-columns.ensures, c.row_count-row-end.ensures.value)

pub returns-then-is_large : goal.returns-then-is_large
returns-then-is_large c =
    let x = c.entry-multiplier.result in
    let fits : SFits w128 c.entry-multiplier.result = fits_from_range x c.entry-multiplier.ensures.in_range in
    let below : c.loop-row.row < length c.args.rows.now.rows = omega (arith, c.row_count-row-end.ensures.value) in
    let is : x ≡ entry c.args.objective.now (length c.args.rows.now.costs + c.loop-row.row) =
    c.entry-multiplier.ensures.value ∙ ap (λ n. entry c.args.objective.now (n + c.loop-row.row)) c.column_count-columns.ensures in
    let large : is_large x ≡ true = ap is_large (sym (to_z-of_z w128 x fits)) ∙ sym c.is_large.ensures ∙ c.if-is_large.true in
    simp to_z-of_z (large_multiplier c.args.rows.now c.args.objective.now c.loop-row.row x c.requires.objective below is large)

pub loop-row-preserved : goal.loop-row-preserved
loop-row-preserved c =
    let x = c.entry-multiplier.result in
    let fits : SFits w128 c.entry-multiplier.result = fits_from_range x c.entry-multiplier.ensures.in_range in
    let below : c.loop-row.row < length c.args.rows.now.rows = omega (arith, c.row_count-row-end.ensures.value) in
    let is : x ≡ entry c.args.objective.now (length c.args.rows.now.costs + c.loop-row.row) =
    c.entry-multiplier.ensures.value ∙ ap (λ n. entry c.args.objective.now (n + c.loop-row.row)) c.column_count-columns.ensures in
    let small : is_large x ≡ false = ap is_large (sym (to_z-of_z w128 x fits)) ∙ sym c.is_large.ensures ∙ c.if-is_large.false in
    let ok : is_ok c.push.result ≡ true = c.is_err.ensures.negation ∙ ap not c.if-is_err.false in
    let items : c.push.new.self.items ≡ c.loop-row.multipliers.items ++ x ∷ [] = simp (to_z-of_z, ok) at c.push.ensures.items in (
      next_multiplier c.args.rows.now c.args.objective.now c.loop-row.row x c.loop-row.multipliers.items c.push.new.self.items c.requires.objective below is c.loop-row.invariant.0 items,
      subst AreInRange (sym items) (All-push IsInRange c.loop-row.multipliers.items x c.loop-row.invariant.1 c.entry-multiplier.ensures.in_range),
      none_large c.loop-row.multipliers.items c.push.new.self.items x items c.loop-row.invariant.2 small,
    )
