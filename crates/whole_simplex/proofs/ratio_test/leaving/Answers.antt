-- One line more at each turn.
use Rattle.std.proofs.Common.{arith, rules}
use Rattle.whole_simplex.proofs.RatioSearch.{searched_none, searched_more, searched_wide, searched_all}
use Rattle.whole_simplex.proofs.ratio_test.leaving.Goals as goal

pub loop-i-init : goal.loop-i-init
loop-i-init c = (searched_none c.args.width c.args.place c.args.lines.now, search rules)

pub returns-in-Err-clause-found : goal.returns-in-Err-clause-found
returns-in-Err-clause-found c =
    searched_wide c.args.width c.args.place c.args.lines.now c.loop-i.i c.loop-i.best c.in-Err.fault c.loop-i-test.true c.in-Err.ensures.least c.loop-i.invariant.0

pub loop-i-preserved : goal.loop-i-preserved
loop-i-preserved c =
    (searched_more c.args.width c.args.place c.args.lines.now c.loop-i.i c.loop-i.best c.in-Ok.found c.loop-i-test.true c.in-Ok.ensures.least c.loop-i.invariant.0, c.in-Ok.ensures.within)

pub returns-clause-found : goal.returns-clause-found
returns-clause-found c = searched_all c.args.width c.args.place c.args.lines.now c.loop-i.i c.loop-i.best (omega arith) c.loop-i.invariant.0
