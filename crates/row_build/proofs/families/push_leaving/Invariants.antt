use Rattle.std.proofs.Common.{map, take}
use Rattle.std.specs.Prelude.{filter}
use Rattle.osek_kernel.specs.declared.context.Context.TheVariants as contexts
use Rattle.row_build.specs.Columns as columns
use Rattle.row_build.specs.Families as words
use Rattle.row_build.specs.Working.Growing.{Adds}
use Rattle.row_build.specs.Working.Kinds.{IsKind, row_of}
use Rattle.row_build.proofs.families.push_leaving.Given as goal

abbrev pub invariant-loop-state : goal.invariant-loop-state
invariant-loop-state l =
    Adds (row_of l.plant l.states l.instances l.task) (IsKind l.plant l.states l.instances) l.fn.kinds l.kinds
    (map (words.leaves l.plant l.task) (filter (λ state. columns.is_active_in state (contexts.Task l.task)) (take l.state l.states)))
