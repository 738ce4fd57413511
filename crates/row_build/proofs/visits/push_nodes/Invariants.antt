use Rattle.std.proofs.Common.{take}
use Rattle.std.specs.List.{flat_map}
use Rattle.row_build.specs.Families as words
use Rattle.row_build.specs.Working.Growing.{Adds}
use Rattle.row_build.specs.Working.Kinds.{IsKind, row_of}
use Rattle.row_build.proofs.visits.push_nodes.Given as goal

abbrev pub invariant-loop-number : goal.invariant-loop-number
invariant-loop-number l =
    Adds (row_of l.plant l.states l.instances l.task) (IsKind l.plant l.states l.instances) l.fn.kinds l.kinds
    (flat_map (words.standing_at l.plant l.task) (take l.number l.nodes))
