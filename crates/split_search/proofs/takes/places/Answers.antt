use Rattle.std.proofs.Common.{ℕ, ◌++◌, ◌∷◌, [], List, cond, false, get_or, sym, ◌∙◌, ap}
use Rattle.split_search.proofs.TakePlaces.{places_more}
use Rattle.split_search.proofs.takes.places.Goals as goal

pub loop-place-preserved : goal.loop-place-preserved
loop-place-preserved c =
    c.in_ok-push_place.ensures
    ∙ ap (λ (found : List ℕ). found ++ cond (get_or c.args.flags.now c.loop-place.place false) (c.loop-place.place ∷ []) []) c.loop-place.invariant
    ∙ sym (places_more c.args.flags.now c.loop-place.place c.loop-place-test.true)
