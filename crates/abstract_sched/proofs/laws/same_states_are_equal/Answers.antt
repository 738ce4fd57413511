use Rattle.abstract_sched.proofs.Sameness.{state_Decides}
use Rattle.abstract_sched.proofs.laws.same_states_are_equal.Goals as goal

pub returns : goal.returns
returns c = state_Decides
