-- Where one of the numbers is missing, no loop with other numbers has this form.
use Rattle.std.proofs.Common.{subst}
use Rattle.counted_loops.specs.Counted.{CountsOnce}
use Rattle.counted_loops.proofs.Uniqueness.{closes_once}
use Rattle.counted_loops.proofs.counting.counting_of.Goals as goal

pub returns-in_err-closing : goal.returns-in_err-closing
returns-in_err-closing g c = rw c.from_residual.ensures (λ counting is. c.in_err-closing.ensures _ _ _ is.closes)

pub returns-in_err-step : goal.returns-in_err-step
returns-in_err-step g c = rw c.from_residual-in_err-step.ensures (λ counting is.
    let same = closes_once (g.C.Code.code_of c.args.code.now) c.args.l _ _ _ _ _ _ is.closes c.in_ok-closing.ensures in
    c.in_err-step.ensures counting.step (subst (λ counter. CountsOnce (g.C.Code.code_of c.args.code.now) c.args.l counter counting.step) same.counter_is is.counts))
