-- Numbers of 64 bits are in range.
use Rattle.foundation_tests.proofs.whole_rows_calls.row_of.Goals as goal

pub from_slice-requires : goal.from_slice-requires
from_slice-requires c = rw c.as_slice.ensures.value c.loop-number.invariant.1
