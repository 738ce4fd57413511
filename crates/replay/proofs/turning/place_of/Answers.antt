-- The running context stands somewhere.
use Rattle.std.proofs.Common.{◌≡◌, sym, ap, ◌∙◌, subst}
use Rattle.std.specs.Prelude.{option_map}
use Rattle.std.proofs.lemmas.Option.{none-some}
use Rattle.osek_kernel.specs.Contexts.{IsContext}
use Rattle.osek_machine.specs.State.{standing_of}
use Rattle.osek_machine.specs.Machine.{state_of}
use Rattle.osek_machine.proofs.Kept.{running_exists}
use Rattle.osek_machine.proofs.Machines.{running_stands}
use Rattle.wcet_atomic_blocks.specs.Plants.{PlantData}
use Rattle.replay.proofs.turning.place_of.Goals as goal

pub place-requires-clause-exists : goal.place-requires-clause-exists
place-requires-clause-exists c =
    subst (λ (p : PlantData). IsContext p.system c.args.context) (sym c.plant.view_is)
    (running_exists c.args.plant.now.system (state_of c.args.machine.now) c.args.context c.requires.fits.room c.requires.running)

pub unreachable-requires : goal.unreachable-requires
unreachable-requires c =
    let stands = running_stands c.args.plant.now.image c.args.plant.now.system c.args.machine.now c.args.context c.requires.fits c.requires.running in
    let there : c.place.result ≡ option_map (λ s. s.place) (standing_of c.args.plant.now.system (state_of c.args.machine.now) c.args.context) =
    subst (λ (p : PlantData). c.place.result ≡ option_map (λ s. s.place) (standing_of p.system (state_of c.args.machine.now) c.args.context)) c.plant.view_is c.place.ensures in
    none-some stands.0.place (sym c.in-None.is ∙ (there ∙ ap (option_map (λ s. s.place)) stands.1))
