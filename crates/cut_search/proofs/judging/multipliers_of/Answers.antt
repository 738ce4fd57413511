use Rattle.std.proofs.Common.{ℕ, List, length, ◌∙◌, ap, arith}
use Rattle.cut_search.proofs.LeafNumbers.{node_counted}
use Rattle.cut_search.proofs.judging.multipliers_of.Goals as goal

pub leaf_multipliers-requires : goal.leaf_multipliers-requires
leaf_multipliers-requires c =
    let counted = node_counted c.args.base.now c.args.limits.now c.args.optimum.now c.requires in
    let rows = c.row_count.ensures.value in
    let long = ap (λ (ms : List ℕ). length ms) (c.as_slice.ensures ∙ c.in_ok-multipliers.ensures) in
    omega arith
