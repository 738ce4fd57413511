use Rattle.row_laws.proofs.LinkLaw.{links_join_columns}
use Rattle.row_laws.proofs.laws.links_join_columns.Goals as goal

pub returns : goal.returns
returns c = links_join_columns
