use Rattle.std.proofs.Common.{◌≡◌, take, arith}
use Rattle.std.proofs.lemmas.List.{take_all}
use Rattle.cut_search.proofs.nodes.push_costs.Goals as goal

pub returns-clause-in_range : goal.returns-clause-in_range
returns-clause-in_range c =
    let whole : take c.loop-column.column c.args.base.now.costs ≡ c.args.base.now.costs = take_all c.loop-column.column c.args.base.now.costs (omega arith) in
    rw (c.loop-column.invariant, whole) c.requires.rows.costs_in_range
