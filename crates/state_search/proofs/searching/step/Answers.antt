use Rattle.std.proofs.Common.{◌≡◌, Some, Err, sym, ◌∙◌, subst}
use Rattle.std.specs.Prelude.{slice_get}
use Rattle.scheduler_moves.specs.Moves.{successors}
use Rattle.state_search.specs.Working.Found.{TellsMisuse}
use Rattle.state_search.proofs.Growing.{same_some, step_made, misuse_told}
use Rattle.state_search.proofs.searching.step.Goals as goal

pub returns-in-Ok : goal.returns-in-Ok
returns-in-Ok c =
    step_made c.args.plant.now c.args.search c.in_ok-left_along-in-Ok.field-0 c.get.result.now c.in-Ok.moves c.requires.search
    (subst (λ n. slice_get c.args.search.states n ≡ Some c.get.result.now) c.done-place.ensures c.get.ensures) c.in-Ok.ensures
    c.in_ok-left_along-in-Ok.ensures

pub returns-in-Err-Kind : goal.returns-in-Err-Kind
returns-in-Err-Kind c =
    let misused : successors c.args.plant.now c.get.result.now ≡ Err c.in-Err-Kind.misuse = rw c.in-Err-Kind.field-0-is at c.in-Err-Kind.ensures in
    misuse_told c.args.plant.now c.args.search c.done-place.result c.get.result.now c.in-Err-Kind.misuse c.misused.result c.requires.search
    c.get.ensures misused
    (subst (λ s. TellsMisuse s c.in-Err-Kind.misuse c.misused.result) (same_some (sym c.get-in-Err-Kind.ensures ∙ c.get.ensures)) c.misused.ensures)
