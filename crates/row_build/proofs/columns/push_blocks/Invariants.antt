use Rattle.std.proofs.Common.{map}
use Rattle.std.specs.Prelude.{filter, not}
use Rattle.std.specs.List.{range_with_len}
use Rattle.row_build.specs.Columns as words
use Rattle.row_build.specs.Working.Growing.{Adds}
use Rattle.row_build.specs.Working.Numbered.{IsColumn, column_of}
use Rattle.row_build.proofs.columns.push_blocks.Given as goal

abbrev pub invariant-loop-block : goal.invariant-loop-block
invariant-loop-block l =
    Adds (column_of l.states) (IsColumn l.plant l.states) l.fn.found l.found
    (map words.Begins (filter (λ block. not (words.is_own_entry l.plant l.task block)) (range_with_len 0 l.block)))
