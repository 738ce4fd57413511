use Rattle.std.proofs.Common.{◌≡◌, ℕ, Bool, List, IfOk, sym, ◌∙◌, ap, subst}
use Rattle.split_search.specs.Takes.{places_from}
use Rattle.split_search.proofs.TakePlaces.{take_columns-are}
use Rattle.split_search.proofs.takes.take_columns.Goals as goal

pub returns : goal.returns
returns c =
    let are = ap (places_from (λ (flag : Bool). flag) 0) (c.as_slice.ensures ∙ c.in_ok-flags.ensures) ∙ sym (take_columns-are c.args.plant.now c.args.states.now c.args.task) in
    subst (λ (columns : List ℕ). IfOk c.places.result (λ found. found ≡ columns)) are c.places.ensures
