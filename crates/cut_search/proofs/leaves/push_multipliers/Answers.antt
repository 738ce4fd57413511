use Rattle.std.proofs.Common.{ℕ, ◌++◌, ◌+◌, ◌∷◌, [], List, get_or, take, drop, sym, ◌∙◌, ap, append_assoc, arith}
use Rattle.cut_search.specs.Leaves.{side_multipliers}
use Rattle.cut_search.specs.Search.{no_limits}
use Rattle.cut_search.proofs.LeafParts.{limit_row_count_more, limit_row_count-take, side_multipliers_more}
use Rattle.cut_search.proofs.leaves.push_multipliers.Goals as goal

pub push_multipliers_of-requires : goal.push_multipliers_of-requires
push_multipliers_of-requires c =
    let more = limit_row_count_more c.args.limits.now c.loop-place.place c.loop-place-test.true in
    let most = limit_row_count-take c.args.limits.now (c.loop-place.place + 1) in
    let at = c.loop-place.invariant.at in
    omega (arith, c.requires)

pub loop-place-preserved : goal.loop-place-preserved
loop-place-preserved c =
    let limits = c.args.limits.now in
    let ms = c.args.multipliers.now in
    let i = c.loop-place.place in
    let more = limit_row_count_more limits i c.loop-place-test.true in
    let before = side_multipliers (take i limits) ms in
    record {
      found = c.in_ok-at.ensures.found
          ∙ ap (λ (found : List ℕ). found ++ side_multipliers (get_or c.args.limits.now c.loop-place.place no_limits ∷ []) (drop c.loop-place.at c.args.multipliers.now)) c.loop-place.invariant.found
          ∙ append_assoc c.args.found.now before (side_multipliers (get_or limits i no_limits ∷ []) (drop c.loop-place.at ms))
          ∙ ap (λ (n : ℕ). c.args.found.now ++ (before ++ side_multipliers (get_or limits i no_limits ∷ []) (drop n ms))) c.loop-place.invariant.at
          ∙ ap (λ (found : List ℕ). c.args.found.now ++ found) (sym (side_multipliers_more limits i ms c.loop-place-test.true));
      at = let next = c.in_ok-at.ensures.next in let at = c.loop-place.invariant.at in omega arith;
    }
