-- The last term that is still there is taken back.
use Rattle.std.proofs.Common.{◌≡◌, ◌<◌, ◌≤◌, ◌+◌, ◌-◌, ℕ, length, length-set, get_or, pos, ◌∙◌, arith}
use Rattle.std.proofs.lemmas.List.{get_or_default}
use Rattle.whole_rows.specs.declared.Term.{Term}
use Rattle.whole_rows.proofs.Columns.{taken_back}
use Rattle.whole_rows.proofs.rows.take_back.Goals as goal

none : Term
none = record { column = 0; entry = pos 0 }

pub loop-left-preserved : goal.loop-left-preserved
unfolding none
loop-left-preserved c =
    let terms = c.args.terms.now in
    let items = c.loop-left.columns.items in
    let k : ℕ = c.loop-left.left - 1 in
    let term : Term = get_or terms k none in
    let fewer : c.loop-left.left - 1 ≤ length c.args.terms.now = omega (arith, c.loop-left.invariant.0) in
    let within : c.loop-left.left - 1 < length c.args.terms.now = omega (arith, c.loop-left.invariant.0) in
    let in_columns : (get_or c.args.terms.now (c.loop-left.left - 1) none).column < length c.loop-left.columns.items = rw c.loop-left.invariant.1 (c.requires k none within) in
    let back : c.loop-left.left ≡ k + 1 = omega arith in
    (fewer, length-set items term.column c.drop_last.new.self ∙ c.loop-left.invariant.1, λ before row e. taken_back row before items terms k term c.index_mut.result.now c.drop_last.new.self within (get_or_default terms k none term within) (rw back at (c.loop-left.invariant.2 before row e)) in_columns c.index_mut.ensures.value c.drop_last.ensures)
