-- All edges fit where those of each node do.
use Rattle.std.proofs.Common.{◌≡◌, refl, arith, below_more}
use Rattle.counted_loops.proofs.Fronts.{all_fit, each_fits}
use Rattle.counted_loops.proofs.entering.fits.Goals as goal

pub returns-then-not-node_fits : goal.returns-then-not-node_fits
returns-then-not-node_fits c =
    (λ h. absurd cc, λ all. c.if-not-node_fits.ensures.1 (each_fits c.args.flow.now c.args.front.now all c.loop-number.number))

pub loop-number-preserved : goal.loop-number-preserved
loop-number-preserved c = below_more _ _ c.loop-number.invariant (c.if-not-node_fits.ensures.0 refl)

pub returns : goal.returns
returns c = (λ h. all_fit c.args.flow.now c.args.front.now (λ number lt. c.loop-number.invariant number (omega arith)), λ all. refl)
