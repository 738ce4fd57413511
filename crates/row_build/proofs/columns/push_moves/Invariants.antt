use Rattle.std.proofs.Common.{map, take}
use Rattle.std.specs.Prelude.{filter}
use Rattle.osek_kernel.specs.declared.context.Context.TheVariants as contexts
use Rattle.row_build.specs.Columns as words
use Rattle.row_build.specs.Working.Growing.{Adds}
use Rattle.row_build.specs.Working.Numbered.{IsColumn, column_of, going_of}
use Rattle.row_build.proofs.columns.push_moves.Given as goal

abbrev pub invariant-loop-number : goal.invariant-loop-number
invariant-loop-number l =
    Adds (column_of l.states) (IsColumn l.plant l.states) l.fn.found l.found
    (map words.Moves (filter (λ going. words.is_active_in going.from (contexts.Task l.task)) (map (going_of l.states) (take l.number l.goings))))
