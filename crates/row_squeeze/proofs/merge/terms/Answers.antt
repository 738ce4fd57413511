-- One entry more; and what the terms of all entries are.
use Rattle.std.proofs.Common.{◌≡◌, ◌++◌, [], ◌∷◌, List, pos, cond, get_or, take, sym, ◌∙◌, ap, arith}
use Rattle.std.proofs.lemmas.Int.{to_z-of_z}
use Rattle.std.proofs.lemmas.List.{take_all}
use Rattle.std.proofs.lemmas.List.Elements.{All-get_or}
use Rattle.std.specs.Int.{w128}
use mir.Val.{SFits}
use Rattle.whole_rows.specs.Row.{IsInRange, is_zero}
use Rattle.whole_rows.specs.declared.Term.{Term}
use Rattle.whole_rows.proofs.Combinations.{fits_from_range}
use Rattle.row_squeeze.proofs.Terms.{terms_more, terms-are, terms-row}
use Rattle.row_squeeze.proofs.merge.terms.Goals as goal

pub loop-column-preserved : goal.loop-column-preserved
loop-column-preserved c =
    let i = c.loop-column.column in
    let fits : SFits w128 (get_or c.args.entries.now c.loop-column.column (pos 0)) = fits_from_range (get_or c.args.entries.now i (pos 0)) (All-get_or IsInRange c.args.entries.now i (pos 0) c.loop-column-test.true c.requires) in
    let pushed = simp to_z-of_z at c.in_ok-push_term.ensures in
    pushed ∙ ap (λ (terms : List Term). terms ++ cond (is_zero (get_or c.args.entries.now c.loop-column.column (pos 0))) [] (let term : Term = record { column = c.loop-column.column; entry = get_or c.args.entries.now c.loop-column.column (pos 0) } in term ∷ [])) c.loop-column.invariant ∙ sym (terms_more c.args.entries.now i c.loop-column-test.true)

pub returns-clause-terms : goal.returns-clause-terms
returns-clause-terms c =
    let whole : take c.loop-column.column c.args.entries.now ≡ c.args.entries.now = take_all c.loop-column.column c.args.entries.now (omega arith) in
    rw (c.loop-column.invariant, whole) (terms-are c.args.entries.now c.requires)

pub returns-clause-row : goal.returns-clause-row
returns-clause-row c =
    let whole : take c.loop-column.column c.args.entries.now ≡ c.args.entries.now = take_all c.loop-column.column c.args.entries.now (omega arith) in
    rw (c.loop-column.invariant, whole) (terms-row c.args.entries.now c.requires)
