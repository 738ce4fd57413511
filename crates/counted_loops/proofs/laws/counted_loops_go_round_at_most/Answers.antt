use Rattle.counted_loops.proofs.Running.{go_round_at_most}
use Rattle.counted_loops.proofs.laws.counted_loops_go_round_at_most.Goals as goal

pub returns : goal.returns
returns c = go_round_at_most
