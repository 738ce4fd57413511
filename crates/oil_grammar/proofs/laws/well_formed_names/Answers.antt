use Rattle.oil_grammar.proofs.Named.{has_names}
use Rattle.oil_grammar.proofs.laws.well_formed_names.Goals as goal

pub returns : goal.returns
returns c = has_names
