use Rattle.std.proofs.Common.{◌≤◌, length, subst}
use Rattle.state_search.proofs.Growing.{all_done}
use Rattle.state_search.proofs.searching.ended.Goals as goal

pub returns-then-found-limit : goal.returns-then-found-limit
returns-then-found-limit c =
    let within : length c.args.search.states ≤ c.args.limit = subst (λ n. n ≤ c.args.limit) c.found.ensures c.if-found-limit.true in
    rw c.into_states.ensures (all_done c.args.plant.now c.args.limit c.args.search c.requires.search within (c.requires.done within))
