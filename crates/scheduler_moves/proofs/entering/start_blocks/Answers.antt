use Rattle.std.proofs.Common.{arith}
use Rattle.std.proofs.lemmas.List.FromFn.{map-range_with_len_more}
use Rattle.std.proofs.lemmas.Grind.{common_steps}
use Rattle.osek_kernel.specs.Contexts.{context_at}
use Rattle.scheduler_moves.specs.Moves.{start_block}
use Rattle.scheduler_moves.proofs.entering.start_blocks.Goals as goal

pub loop-place-preserved : goal.loop-place-preserved
loop-place-preserved c =
    rw (map-range_with_len_more (λ n. start_block c.args.plant.now c.args.kernel.now (context_at c.args.plant.now.system n)) 0 c.loop-place.place
    c.loop-place.place (omega arith))
    (grind (arith, common_steps))
