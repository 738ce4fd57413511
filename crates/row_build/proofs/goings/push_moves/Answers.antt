use Rattle.std.proofs.Common.{map, sym, ap, ◌∙◌, ◌+◌, ◌++◌, ◌∷◌, [], subst, Contains, take}
use Rattle.scheduler_moves.specs.declared.moves.Move.{Move}
use Rattle.row_build.specs.Columns.{Going}
use Rattle.row_build.specs.Working.Numbered.{IsMove, going_of, state_at}
use Rattle.row_build.proofs.Growing.{adds_one, adds_like, map_more}
use Rattle.row_build.proofs.goings.push_moves.Goals as goal

pub numbered_move-requires-clause-listed : goal.numbered_move-requires-clause-listed
numbered_move-requires-clause-listed c =
    subst (λ (m : Move). Contains c.args.states.now m.to) (sym c.index-moves-place.is)
    (c.requires.listed c.loop-place.place c.index-moves-place.result c.loop-place-test.true)

pub loop-place-preserved : goal.loop-place-preserved
loop-place-preserved c =
    let states = c.args.states.now in let moves = c.args.moves.now in let place = c.loop-place.place in let made = c.index-moves-place.result in
    let gives : Move → Going = λ m. record { from = state_at states c.args.number; move = m } in
    adds_like (going_of states) (IsMove states) c.args.found.now c.push.new.self (map gives (take place moves) ++ gives made ∷ []) (map gives (take (place + 1) moves))
    (ap (λ m. map gives (take place moves) ++ gives m ∷ []) c.index-moves-place.is ∙ sym (map_more gives moves place made c.loop-place-test.true))
    (adds_one (going_of states) (IsMove states) c.args.found.now c.loop-place.found c.push.new.self (map gives (take place moves)) c.numbered_move.result (gives made)
    c.loop-place.invariant c.in_ok-push.ensures.ok c.numbered_move.ensures.shows c.numbered_move.ensures.sound)
