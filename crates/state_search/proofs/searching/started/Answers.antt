use Rattle.std.proofs.Common.{length, ap, arith}
use Rattle.state_search.proofs.Growing.{one_more_start}
use Rattle.state_search.proofs.searching.started.Goals as goal

pub loop-mode-preserved : goal.loop-mode-preserved
loop-mode-preserved c =
    one_more_start c.args.plant.now c.loop-mode.mode c.in_ok-initial.field-0 c.loop-mode.search c.in_ok-search.search
    (omega (arith, c.loop-mode-test.true, c.len-mode-end.ensures, ap (λ p. length p.system.modes) c.plant.view_is)) c.in_ok-initial.ensures
    c.loop-mode.invariant c.in_ok-search.ensures
