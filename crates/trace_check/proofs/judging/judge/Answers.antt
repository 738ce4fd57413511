use Rattle.std.proofs.Common.{List, length, subst}
use Rattle.abstract_sched.specs.declared.states.AbsState.{AbsState}
use Rattle.row_build.specs.Working.Numbered.{AreNumbers}
use Rattle.trace_check.specs.Working.Tables.{AreTables}
use Rattle.trace_check.proofs.judging.judge.Goals as goal

pub start-requires-clause-numbers : goal.start-requires-clause-numbers
start-requires-clause-numbers c =
    subst (λ (xs : List AbsState). AreNumbers c.in_ok-tables.tables.numbers xs (length xs)) c.as_slice.ensures
    (c.in_ok-tables.ensures c.args.plant.now).numbers

pub judge_on-requires-clause-tables : goal.judge_on-requires-clause-tables
judge_on-requires-clause-tables c =
    subst (λ (xs : List AbsState). AreTables c.args.plant.now xs c.in_ok-tables.tables) c.as_slice.ensures (c.in_ok-tables.ensures c.args.plant.now)
