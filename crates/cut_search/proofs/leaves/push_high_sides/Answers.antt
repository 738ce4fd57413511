use Rattle.std.proofs.Common.{◌++◌, ◌∷◌, [], List, sym, ◌∙◌, ap, append_assoc, zero-add}
use Rattle.std.proofs.lemmas.List.FromFn.{map-range_with_len_more}
use Rattle.split_trees.specs.declared.side.Side.{Side}
use Rattle.split_trees.specs.declared.side.Side.TheVariants.{Above}
use Rattle.cut_search.specs.Leaves.{high_sides}
use Rattle.cut_search.proofs.leaves.push_high_sides.Goals as goal

pub loop-k-preserved : goal.loop-k-preserved
loop-k-preserved c =
    let k = c.loop-k.k in
    c.in_ok-push.ensures.ok
    ∙ ap (λ (sides : List Side). sides ++ Above c.args.column c.loop-k.k ∷ []) c.loop-k.invariant
    ∙ append_assoc c.args.sides.now (high_sides c.args.column k) (Above c.args.column k ∷ [])
    ∙ ap (λ (sides : List Side). c.args.sides.now ++ sides) (sym (map-range_with_len_more (Above c.args.column) 0 k k (zero-add k)))
