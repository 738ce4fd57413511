-- One line more at each turn.
use Rattle.std.proofs.Common.{◌≡◌, ◌<◌, length, get_or, ap, sym, subst, rules}
use Rattle.whole_simplex.specs.Faults.{IsFaultOf}
use Rattle.whole_simplex.specs.Outcome.{AreNarrow, elimination_pairs}
use Rattle.whole_simplex.specs.Tables.{eliminated}
use Rattle.whole_simplex.specs.declared.line.Line.{Line}
use Rattle.whole_simplex.proofs.Eliminating.{eliminated_more, narrow_more, fault_at}
use Rattle.whole_simplex.proofs.pivot.eliminate_all.Goals as goal

pub returns-in-Err : goal.returns-in-Err
returns-in-Err c =
    let below : c.loop-i.i < length c.args.lines.now = search rules in
    let fault : IsFaultOf (elimination_pairs c.args.place c.args.pivot.now c.index-lines-i.result.entries) c.in-Err.fault =
    subst (λ (l : Line). IsFaultOf (elimination_pairs c.args.place c.args.pivot.now l.entries) c.in-Err.fault) (sym c.index-lines-i.is) c.in-Err.ensures in
    fault_at c.args.place c.args.pivot.now c.args.lines.now c.loop-i.lines c.loop-i.i c.index-lines-i.result c.in-Err.fault below c.loop-i.invariant.0 c.index-lines-i.is fault

pub loop-i-preserved : goal.loop-i-preserved
loop-i-preserved c =
    let below : c.loop-i.i < length c.args.lines.now = search rules in
    let new : c.eliminate.new.row ≡ eliminated c.args.place c.args.pivot.now c.index-lines-i.result.entries =
    subst (λ (l : Line). c.eliminate.new.row ≡ eliminated c.args.place c.args.pivot.now l.entries) (sym c.index-lines-i.is) c.in-Ok.ensures.0 in
    let narrow : AreNarrow (elimination_pairs c.args.place c.args.pivot.now c.index-lines-i.result.entries) =
    subst (λ (l : Line). AreNarrow (elimination_pairs c.args.place c.args.pivot.now l.entries)) (sym c.index-lines-i.is) c.in-Ok.ensures.1 in (
      eliminated_more c.args.place c.args.pivot.now c.args.lines.now c.loop-i.lines c.loop-i.i c.index-lines-i.result (get_or c.loop-i.lines c.loop-i.i c.index-lines-i.result).basic c.eliminate.new.row below c.loop-i.invariant.0 c.index-lines-i.is (ap (λ (l : Line). l.basic) (sym c.index-lines-i.is)) new,
      narrow_more c.args.place c.args.pivot.now c.args.lines.now c.loop-i.lines c.loop-i.i c.index-lines-i.result below c.loop-i.invariant.0 c.index-lines-i.is c.loop-i.invariant.1 narrow,
    )
