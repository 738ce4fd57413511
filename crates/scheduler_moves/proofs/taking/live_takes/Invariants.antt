use Rattle.std.proofs.Common.{◌≡◌, map}
use Rattle.std.specs.Prelude.{filter}
use Rattle.std.specs.List.{range_with_len}
use Rattle.osek_kernel.specs.Sources.{source_at, is_live}
use Rattle.scheduler_moves.specs.Moves.{take_move}
use Rattle.scheduler_moves.proofs.taking.live_takes.Given as goal

abbrev pub invariant-loop-source : goal.invariant-loop-source
invariant-loop-source l =
    l.moves ≡ map (take_move l.plant l.state) (filter (λ source. is_live l.plant.system l.state.mode (source_at l.plant.system source))
    (range_with_len 0 l.source))
