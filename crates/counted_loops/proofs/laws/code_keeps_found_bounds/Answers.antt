use Rattle.counted_loops.proofs.Keeping.{code_keeps_found}
use Rattle.counted_loops.proofs.laws.code_keeps_found_bounds.Goals as goal

pub returns : goal.returns
returns c = code_keeps_found
