-- The row is what its terms say.
use Rattle.std.proofs.Common.{◌≡◌, OnOk, subst}
use Rattle.std.proofs.lemmas.Int.{to_z-of_z}
use Rattle.std.specs.Int.{w128}
use mir.Val.{SFits}
use Rattle.whole_rows.specs.Rows.{RowsData}
use Rattle.whole_rows.proofs.Combinations.{fits_from_range}
use Rattle.row_squeeze.proofs.Terms.{with_row-is}
use Rattle.row_squeeze.proofs.merge.push_entries.Goals as goal

pub push_row-requires-clause-left : goal.push_row-requires-clause-left
push_row-requires-clause-left c = rw (← c.requires.width) c.in_ok-terms.ensures.terms

pub returns : goal.returns
returns c =
    let fits : SFits w128 c.args.right = fits_from_range c.args.right c.requires.right_in_range in
    let is = with_row-is c.args.squeezed.now c.in_ok-terms.terms c.args.entries.now c.args.right c.requires.width c.in_ok-terms.ensures.row in
    subst (λ (d : RowsData). OnOk c.push_row.result (c.push_row.new.self ≡ d)) is (simp to_z-of_z at c.push_row.ensures.ok)
