use Rattle.std.proofs.Common.{map, take}
use Rattle.row_build.specs.Families as words
use Rattle.row_build.specs.Working.Growing.{Adds}
use Rattle.row_build.specs.Working.Kinds.{IsKind, row_of}
use Rattle.row_build.proofs.families.push_going_round.Given as goal

abbrev pub invariant-loop-instance : goal.invariant-loop-instance
invariant-loop-instance l =
    Adds (row_of l.plant l.states l.instances l.task) (IsKind l.plant l.states l.instances) l.fn.kinds l.kinds
    (map (words.goes_round l.plant) (take l.instance l.instances))
