use Rattle.std.proofs.Common.{◌≡◌, map, take}
use Rattle.osek_kernel.specs.Contexts.{context_at}
use Rattle.scheduler_moves.proofs.starting.owners.Given as goal

abbrev pub invariant-loop-block : goal.invariant-loop-block
invariant-loop-block l = l.owners ≡ map (λ block. context_at l.plant.system block.begin.owner) (take l.block l.plant.blocks.blocks)
