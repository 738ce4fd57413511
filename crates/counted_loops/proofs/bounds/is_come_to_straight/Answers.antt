-- The span is that of the one address.
use Rattle.std.proofs.Common.{refl, ◌∙◌, sym}
use Rattle.counted_loops.proofs.Fronts.{enters_same, begins_same, one_address, no_address}
use Rattle.counted_loops.proofs.bounds.is_come_to_straight.Goals as goal

pub returns-then-begins_nowhere : goal.returns-then-begins_nowhere
returns-then-begins_nowhere c =
    let address = c.args.address in (
      λ h. record {
        no_entry = begins_same c.args.entries.now _ _ (λ a. sym (one_address address a)) (c.if-begins_nowhere.ensures.0 refl);
        entered = enters_same c.args.flow.now _ _ _ _ address (λ a. sym (no_address a)) (λ a. sym (one_address address a)) (c.fits.ensures.0 h);
      },
      λ is. c.fits.ensures.1 (enters_same c.args.flow.now _ _ _ _ address no_address (one_address address) is.entered),
    )
