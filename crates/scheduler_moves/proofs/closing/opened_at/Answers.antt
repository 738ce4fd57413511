use Rattle.std.proofs.Common.{refl, subst}
use Rattle.std.proofs.lemmas.Option.{slice_get_read}
use Rattle.scheduler_moves.specs.Working.Opened.{IsMissingMove}
use Rattle.scheduler_moves.proofs.ClosureSteps.{found_moves, found_misuse}
use Rattle.scheduler_moves.proofs.closing.opened_at.Goals as goal

pub returns-in-Ok : goal.returns-in-Ok
returns-in-Ok c =
    let states = c.args.states.now in
    found_moves c.args.plant.now states c.args.number c.index-states-number.result c.in-Ok.moves c.missing_move.result
    (slice_get_read states _ c.args.number c.index-states-number.result refl c.requires.exists c.index-states-number.is) c.in-Ok.ensures
    (subst (λ moves. IsMissingMove states moves c.args.number c.missing_move.result) c.as_slice.ensures c.missing_move.ensures)

pub returns-in-Err-Kind : goal.returns-in-Err-Kind
returns-in-Err-Kind c =
    let states = c.args.states.now in
    found_misuse c.args.plant.now states c.args.number c.index-states-number.result c.in-Err-Kind.misuse
    (slice_get_read states _ c.args.number c.index-states-number.result refl c.requires.exists c.index-states-number.is)
    (rw c.in-Err-Kind.field-0-is at c.in-Err-Kind.ensures)
