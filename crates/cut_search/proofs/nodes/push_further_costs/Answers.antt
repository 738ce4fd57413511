use Rattle.std.proofs.Common.{◌++◌, ◌∷◌, [], List, ℤ, get_or, replicate, take, sym, ◌∙◌, ap, append_assoc}
use Rattle.cut_search.specs.Nodes.{further_cost, further_count}
use Rattle.cut_search.proofs.NodeRows.{further_costs}
use Rattle.cut_search.specs.Search.{no_limits}
use Rattle.cut_search.proofs.nodes.push_further_costs.Goals as goal

pub loop-place-preserved : goal.loop-place-preserved
loop-place-preserved c =
    let limits = c.args.limits.now in
    let i = c.loop-place.place in
    let here = replicate (further_count (get_or limits i no_limits ∷ [])) further_cost in
    record {
      value = c.in_ok-push_further_cost.ensures.value ∙ ap (λ (costs : List ℤ). costs ++ replicate (further_count (get_or c.args.limits.now c.loop-place.place no_limits ∷ [])) further_cost) c.loop-place.invariant.value ∙ append_assoc c.args.costs.now.items (replicate (further_count (take i limits)) further_cost) here ∙ ap (λ (costs : List ℤ). c.args.costs.now.items ++ costs) (sym (further_costs limits i c.loop-place-test.true));
      in_range = c.in_ok-push_further_cost.ensures.in_range;
    }
