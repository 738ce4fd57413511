use Rattle.std.proofs.Common.{map}
use Rattle.std.specs.Prelude.{filter}
use Rattle.std.specs.List.{range_with_len}
use Rattle.osek_kernel.specs.declared.context.Context.TheVariants as contexts
use Rattle.scheduler_moves.specs.Moves as moves
use Rattle.row_build.specs.Columns as words
use Rattle.row_build.specs.Working.Growing.{Adds}
use Rattle.row_build.specs.Working.Numbered.{IsStart, start_of}
use Rattle.row_build.proofs.starts.push_modes.Given as goal

abbrev pub invariant-loop-mode : goal.invariant-loop-mode
invariant-loop-mode l =
    Adds (start_of l.states) (IsStart l.plant l.states) l.fn.found l.found
    (map words.In (filter (λ mode. words.is_active_in (moves.initial l.plant mode) (contexts.Task l.task)) (range_with_len 0 l.mode)))
