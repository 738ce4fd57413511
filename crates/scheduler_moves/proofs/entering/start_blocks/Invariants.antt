use Rattle.std.proofs.Common.{◌≡◌, map}
use Rattle.std.specs.List.{range_with_len}
use Rattle.osek_kernel.specs.Contexts.{context_at}
use Rattle.scheduler_moves.specs.Moves.{start_block}
use Rattle.scheduler_moves.proofs.entering.start_blocks.Given as goal

abbrev pub invariant-loop-place : goal.invariant-loop-place
invariant-loop-place l = l.blocks.items ≡ map (λ n. start_block l.plant l.kernel (context_at l.plant.system n)) (range_with_len 0 l.place)
