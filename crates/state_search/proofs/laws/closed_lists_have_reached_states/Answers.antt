use Rattle.state_search.proofs.Growing.{listed_where_reached}
use Rattle.state_search.proofs.laws.closed_lists_have_reached_states.Goals as goal

pub returns : goal.returns
returns c = listed_where_reached
