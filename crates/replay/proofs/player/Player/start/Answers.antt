-- The player stands at the start.
use Rattle.std.proofs.Common.{◌≡◌, [], None, refl, ap, ◌∙◌, replicate, subst}
use Rattle.osek_kernel.specs.Sources.{source_count}
use Rattle.wcet_atomic_blocks.specs.Plants.{PlantData}
use Rattle.replay.specs.Working.Laps.{AreKept}
use Rattle.replay.proofs.Starting.{starts}
use Rattle.replay.proofs.player.Player.start.Goals as goal

pub returns-clause-stands : goal.returns-clause-stands
returns-clause-stands c =
    let plant : PlantData = c.args.plant.now in
    starts plant c.args.schedule.now _ c.in_ok-machine.ensures.begins c.in_ok-machine.ensures.fits
    (subst (λ (p : PlantData). c.in_ok-newest.newest.items ≡ replicate (source_count p.system) None) c.plant.view_is (c.in_ok-newest.ensures ∙ ap (λ n. replicate n None) c.count.ensures))
    c.in_ok-active.ensures
    (subst (λ (p : PlantData). AreKept p.image p.system p.timing [] c.in_ok-laps.laps) c.plant.view_is (c.in_ok-laps.ensures c.plant.inside.image))
    refl refl refl refl
