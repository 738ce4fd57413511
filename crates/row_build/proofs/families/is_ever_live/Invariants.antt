use Rattle.std.proofs.Common.{◌≡◌, false}
use Rattle.std.specs.List.{list_any, range_with_len}
use Rattle.osek_kernel.specs.Sources.{source_at, is_live}
use Rattle.row_build.proofs.families.is_ever_live.Given as goal

abbrev pub invariant-loop-mode : goal.invariant-loop-mode
invariant-loop-mode l =
    list_any (λ mode. is_live l.plant.system mode (source_at l.plant.system l.source)) (range_with_len 0 l.mode) ≡ false
