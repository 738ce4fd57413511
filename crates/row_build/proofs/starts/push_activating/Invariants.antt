use Rattle.std.proofs.Common.{map, take}
use Rattle.std.specs.Prelude.{filter}
use Rattle.osek_kernel.specs.declared.context.Context.TheVariants as contexts
use Rattle.row_build.specs.Columns as words
use Rattle.row_build.specs.Working.Growing.{Adds}
use Rattle.row_build.specs.Working.Numbered.{IsStart, start_of, going_of}
use Rattle.row_build.proofs.starts.push_activating.Given as goal

abbrev pub invariant-loop-place : goal.invariant-loop-place
invariant-loop-place l =
    Adds (start_of l.states) (IsStart l.plant l.states) l.fn.found l.found
    (map words.By (filter (words.activates l.plant (contexts.Task l.task)) (map (going_of l.states) (take l.place l.goings))))
