use Rattle.foundation_tests.proofs.OneLink.{bounded-links}
use Rattle.foundation_tests.proofs.row_squeeze_calls.bounded_is_lifted.Goals as goal

pub squeezes_bounded-requires-clause-links : goal.squeezes_bounded-requires-clause-links
squeezes_bounded-requires-clause-links c = rw (c.in-Ok.ensures, c.in-Ok-links_of.ensures, c.first_link.ensures) bounded-links
