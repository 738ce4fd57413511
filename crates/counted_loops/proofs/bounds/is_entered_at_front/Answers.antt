-- The three tests are the three conditions.
use Rattle.std.proofs.Common.{refl}
use Rattle.counted_loops.proofs.bounds.is_entered_at_front.Goals as goal

pub returns-then-begins_nowhere : goal.returns-then-begins_nowhere
returns-then-begins_nowhere c = (
  λ h. record {
    reached = c.if-not-has_node.ensures.0 refl;
    no_entry = c.if-begins_nowhere.ensures.0 refl;
    entered = c.fits.ensures.0 h;
  },
  λ is. c.fits.ensures.1 is.entered,
)
