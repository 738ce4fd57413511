use Rattle.std.proofs.Common.{map}
use Rattle.std.specs.Prelude.{filter}
use Rattle.std.specs.List.{list_any, range_with_len}
use Rattle.osek_kernel.specs.Contexts.{context_at}
use Rattle.row_build.specs.Families as words
use Rattle.row_build.specs.Working.Growing.{Adds}
use Rattle.row_build.specs.Working.Kinds.{IsKind, row_of}
use Rattle.row_build.proofs.visits.push_owners.Given as goal

abbrev pub invariant-loop-place : goal.invariant-loop-place
invariant-loop-place l =
    Adds (row_of l.plant l.states l.instances l.task) (IsKind l.plant l.states l.instances) l.fn.kinds l.kinds
    (map (words.stands_once l.plant) (filter (λ context. list_any (words.is_owned l.plant context) l.nodes) (map (context_at l.plant.system) (range_with_len 0 l.place))))
