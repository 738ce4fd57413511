use Rattle.std.proofs.Common.{◌≡◌, false, map, take}
use Rattle.std.specs.List.{list_any}
use Rattle.osek_kernel.specs.Contexts.{context_at}
use Rattle.row_build.specs.Columns.{may_stand}
use Rattle.row_build.specs.Working.Numbered.{start_of}
use Rattle.row_build.proofs.positions.any_stands.Given as goal

abbrev pub invariant-loop-number : goal.invariant-loop-number
invariant-loop-number l =
    list_any (may_stand l.plant l.task l.node (context_at l.plant.system l.place)) (map (start_of l.states) (take l.number l.starts)) ≡ false
