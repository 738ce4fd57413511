use Rattle.std.proofs.Common.{sym, All, Contains, subst, List}
use Rattle.scheduler_moves.specs.declared.moves.Move.{Move}
use Rattle.row_build.specs.Working.Numbered.{state_at}
use Rattle.row_build.proofs.States.{state_is, listed_from}
use Rattle.row_build.proofs.goings.push_from.Goals as goal

pub push_moves-requires-clause-listed : goal.push_moves-requires-clause-listed
push_moves-requires-clause-listed c =
    let states = c.args.states.now in let state = c.index-states-number.result in
    let same = state_is states c.args.number state c.requires.exists c.index-states-number.is in
    subst (λ (moves : List Move). All (λ made. Contains states made.to) moves) (sym c.as_slice.ensures)
    (listed_from c.args.plant.now states state (state_at states c.args.number) c.in-Ok.moves same c.requires.stays c.in-Ok.ensures)
