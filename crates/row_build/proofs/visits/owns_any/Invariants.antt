use Rattle.std.proofs.Common.{◌≡◌, false, take}
use Rattle.std.specs.List.{list_any}
use Rattle.osek_kernel.specs.Contexts.{context_at}
use Rattle.row_build.specs.Families as words
use Rattle.row_build.proofs.visits.owns_any.Given as goal

abbrev pub invariant-loop-number : goal.invariant-loop-number
invariant-loop-number l =
    list_any (words.is_owned l.plant (context_at l.plant.system l.place)) (take l.number l.nodes) ≡ false
