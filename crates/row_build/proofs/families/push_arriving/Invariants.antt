use Rattle.std.proofs.Common.{map}
use Rattle.std.specs.Prelude.{filter}
use Rattle.std.specs.List.{range_with_len}
use Rattle.row_build.specs.Families as words
use Rattle.row_build.specs.Working.Growing.{Adds}
use Rattle.row_build.specs.Working.Kinds.{IsKind, row_of}
use Rattle.row_build.proofs.families.push_arriving.Given as goal

abbrev pub invariant-loop-source : goal.invariant-loop-source
invariant-loop-source l =
    Adds (row_of l.plant l.states l.instances l.task) (IsKind l.plant l.states l.instances) l.fn.kinds l.kinds
    (map (words.arrives l.plant) (filter (words.is_ever_live l.plant) (range_with_len 0 l.source)))
