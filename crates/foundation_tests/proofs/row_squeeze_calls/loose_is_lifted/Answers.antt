use Rattle.foundation_tests.proofs.OneLink.{loose-links}
use Rattle.foundation_tests.proofs.row_squeeze_calls.loose_is_lifted.Goals as goal

pub squeezes_loose-requires-clause-links : goal.squeezes_loose-requires-clause-links
squeezes_loose-requires-clause-links c = rw (c.in-Ok.ensures, c.in-Ok-links_of.ensures, c.first_link.ensures) loose-links
