use Rattle.std.proofs.Common.{Contains, List, sym, subst}
use Rattle.abstract_sched.specs.declared.states.AbsState.{AbsState}
use Rattle.scheduler_moves.specs.Moves.{initial}
use Rattle.trace_check.proofs.judging.start.Goals as goal

pub number_of-number-requires-clause-listed : goal.number_of-number-requires-clause-listed
number_of-number-requires-clause-listed c =
    subst (λ (s : AbsState). Contains c.as_slice.result.now s) (sym c.in_ok-state.ensures)
    (subst (λ (xs : List AbsState). Contains xs (initial c.args.plant.now c.args.mode)) (sym c.as_slice.ensures)
    (c.requires.closed.starts c.args.mode c.requires.exists))
