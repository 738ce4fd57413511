use Rattle.std.proofs.Common.{◌≡◌, ap, subst}
use Rattle.std.specs.Prelude.{slice_get, IsSomeAnd}
use Rattle.osek_kernel.specs.Contexts.{context_at}
use Rattle.scheduler_moves.proofs.MappedLists.{numbers_more}
use Rattle.scheduler_moves.proofs.starting.owners.Goals as goal

pub loop-block-preserved : goal.loop-block-preserved
loop-block-preserved c =
    let plant = c.args.plant.now in let i = c.loop-block.block in
    let blocks = ap (λ p. p.blocks.blocks) c.plant.view_is in
    let system = ap (λ p. p.system) c.plant.view_is in
    let owner = subst (λ bs. IsSomeAnd (slice_get bs i) (λ b. b.begin.owner ≡ c.owner.result)) blocks c.owner.ensures in
    let more = numbers_more (λ block. block.begin.owner) (context_at plant.system) plant.blocks.blocks i c.owner.result owner in
    cc (more, c.in_ok-push.ensures.ok, c.loop-block.invariant, c.at.ensures, system)
