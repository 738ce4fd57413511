-- One head more is replaced.
use Rattle.std.proofs.Common.{◌==◌, ℕ, cond, get_or, arith}
use Rattle.std.proofs.lemmas.List.{get_or_default}
use Rattle.std.proofs.lemmas.List.Edits.{map_over_more}
use Rattle.row_squeeze.proofs.chains.replace.Goals as goal

pub loop-i-preserved : goal.loop-i-preserved
loop-i-preserved c =
    let f = λ (head : ℕ). cond (head == c.args.from) c.args.to head in
    let old = get_or c.loop-i.heads c.loop-i.i 0 in
    rw c.replaced.ensures (map_over_more f c.args.heads.now c.loop-i.heads c.loop-i.i old c.loop-i-test.true c.loop-i.invariant (get_or_default c.loop-i.heads c.loop-i.i 0 old (omega arith)))
