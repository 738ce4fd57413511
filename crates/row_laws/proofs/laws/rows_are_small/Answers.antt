use Rattle.row_laws.proofs.SmallRows.{rows_are_small}
use Rattle.row_laws.proofs.laws.rows_are_small.Goals as goal

pub returns : goal.returns
returns c = rows_are_small
