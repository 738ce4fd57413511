use Rattle.std.proofs.lemmas.List.Elements.{All-contains}
use Rattle.state_search.specs.Reached.{IsReached}
use Rattle.state_search.proofs.Growing.{listed_where_reached}
use Rattle.state_search.proofs.laws.least_lists_have_the_same_states.Goals as goal

pub returns : goal.returns
returns c = λ plant one other least also state has.
    listed_where_reached plant other also.closed state (All-contains (IsReached plant) one state least.are.reached has)
