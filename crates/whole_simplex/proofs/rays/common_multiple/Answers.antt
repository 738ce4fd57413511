-- One line more at each turn.
use Rattle.std.proofs.Common.{◌≡◌, ◌+◌, ◌∷◌, [], ℤ, pos, ◌<ℤ◌, ap, ◌∙◌, sym, subst, rules}
use Rattle.std.specs.Int.{w128}
use Rattle.std.proofs.lemmas.Int.{to_z-of_z}
use mir.Val.{SFits, to_z, of_z}
use Rattle.whole_rows.proofs.Combinations.{fits_from_range}
use Rattle.whole_simplex.specs.Faults.{IsFaultOf}
use Rattle.whole_simplex.specs.Outcome.{AreNarrow, Multiple, multiple_of}
use Rattle.whole_simplex.specs.Tables.{entry}
use Rattle.whole_simplex.specs.declared.line.Line.{Line}
use Rattle.whole_simplex.proofs.Multiples.{IsMultiplied, multiplied_none, multiplied_more, multiplied_wide}
use Rattle.whole_simplex.proofs.rays.common_multiple.Goals as goal

pub loop-i-init : goal.loop-i-init
loop-i-init c = multiplied_none c.args.lines.now

pub returns-in-Err-clause-value : goal.returns-in-Err-clause-value
returns-in-Err-clause-value c =
    let line = c.index-lines-i.result in
    let m : ℤ = to_z w128 c.loop-i.multiple-bits in
    let e : SFits w128 c.entry.result = fits_from_range c.entry.result c.entry.ensures.in_range in
    let own : to_z w128 (of_z w128 c.entry.result) ≡ entry c.index-lines-i.result.entries c.index-lines-i.result.basic = to_z-of_z w128 c.entry.result e ∙ c.entry.ensures.value in
    multiplied_wide c.args.lines.now c.loop-i.i line m c.in-Err.fault c.loop-i-test.true c.index-lines-i.is
    (subst (λ (z : ℤ). IsFaultOf (Multiple (to_z w128 c.loop-i.multiple-bits) z ∷ []) c.in-Err.fault) own c.in-Err.ensures) c.loop-i.invariant

pub loop-i-preserved : goal.loop-i-preserved
loop-i-preserved c =
    let m : ℤ = to_z w128 c.loop-i.multiple-bits in
    let e : SFits w128 c.entry.result = fits_from_range c.entry.result c.entry.ensures.in_range in
    let own : to_z w128 (of_z w128 c.entry.result) ≡ entry c.index-lines-i.result.entries c.index-lines-i.result.basic = to_z-of_z w128 c.entry.result e ∙ c.entry.ensures.value in
    let n : SFits w128 c.in-Ok.next = search rules in
    let above : pos 0 <ℤ entry c.index-lines-i.result.entries c.index-lines-i.result.basic =
    subst (λ (l : Line). pos 0 <ℤ entry l.entries l.basic) (sym c.index-lines-i.is) (c.requires.own c.loop-i.i c.index-lines-i.result c.loop-i-test.true) in
    let is : c.in-Ok.next ≡ multiple_of (to_z w128 c.loop-i.multiple-bits) (entry c.index-lines-i.result.entries c.index-lines-i.result.basic) =
    c.in-Ok.ensures.0 ∙ ap (λ (z : ℤ). multiple_of (to_z w128 c.loop-i.multiple-bits) z) own in
    let narrow : AreNarrow (Multiple (to_z w128 c.loop-i.multiple-bits) (entry c.index-lines-i.result.entries c.index-lines-i.result.basic) ∷ []) =
    subst (λ (z : ℤ). AreNarrow (Multiple (to_z w128 c.loop-i.multiple-bits) z ∷ [])) own c.in-Ok.ensures.1 in
    subst (λ (z : ℤ). IsMultiplied c.args.lines.now (c.loop-i.i + 1) z) (sym (to_z-of_z w128 c.in-Ok.next n))
    (multiplied_more c.args.lines.now c.loop-i.i c.index-lines-i.result m c.in-Ok.next c.loop-i-test.true c.index-lines-i.is above is narrow c.loop-i.invariant)
