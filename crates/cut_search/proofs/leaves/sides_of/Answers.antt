use Rattle.std.proofs.Common.{◌++◌, ◌∷◌, [], List, get_or, sym, ◌∙◌, ap}
use Rattle.split_trees.specs.declared.side.Side.{Side}
use Rattle.cut_search.specs.Leaves.{sides_of}
use Rattle.cut_search.specs.Search.{no_limits}
use Rattle.cut_search.proofs.LeafParts.{sides_of_more}
use Rattle.cut_search.proofs.leaves.sides_of.Goals as goal

pub loop-place-preserved : goal.loop-place-preserved
loop-place-preserved c =
    c.in_ok-push_sides.ensures
    ∙ ap (λ (sides : List Side). sides ++ sides_of (get_or c.args.limits.now c.loop-place.place no_limits ∷ [])) c.loop-place.invariant
    ∙ sym (sides_of_more c.args.limits.now c.loop-place.place c.loop-place-test.true)
