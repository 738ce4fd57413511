-- The running context exists and isn't stuck, and its call is judged.
use Rattle.std.proofs.Common.{◌≡◌, sym, ap, ◌∙◌, subst}
use Rattle.std.specs.Prelude.{Err, []}
use Rattle.std.specs.Option.{option_map_or}
use Rattle.osek_kernel.specs.Contexts.{IsContext}
use Rattle.osek_machine.specs.declared.labels.Label.{Label}
use Rattle.osek_machine.specs.declared.labels.Label.TheVariants as labels
use Rattle.osek_machine.specs.State.{standing_of}
use Rattle.osek_machine.specs.Stuck.{IsStuck}
use Rattle.osek_machine.specs.Machine.{Fits, Made, MadeCall, StepGives, state_of}
use Rattle.osek_machine.proofs.Kept.{running_exists}
use Rattle.wcet_atomic_blocks.specs.Plants.{PlantData}
use Rattle.replay.proofs.Calling.{answered_as, served_gives}
use Rattle.replay.proofs.player.Player.serve.Goals as goal

pub sites-requires-clause-exists : goal.sites-requires-clause-exists
sites-requires-clause-exists c =
    subst (λ (p : PlantData). IsContext p.system c.args.caller) (sym c.plant.view_is)
    (running_exists c.args.plant.now.system (state_of c.args.self.now.machine) c.args.caller c.requires.fits.room c.requires.runs.running)

pub call_cost-cost-requires-clause-exists : goal.call_cost-cost-requires-clause-exists
call_cost-cost-requires-clause-exists c =
    running_exists c.args.plant.now.system (state_of c.args.self.now.machine) c.args.caller c.requires.fits.room c.requires.runs.running

pub judge_service-requires-clause-exists : goal.judge_service-requires-clause-exists
judge_service-requires-clause-exists c =
    running_exists c.args.plant.now.system (state_of c.args.self.now.machine) c.args.caller c.requires.fits.room c.requires.runs.running

pub unreachable-requires-in-Err-Kind : goal.unreachable-requires-in-Err-Kind
unreachable-requires-in-Err-Kind c =
    let gives = subst (λ r. StepGives c.plant.inside.image c.plant.inside.system 0 c.call_cost-cost.result (state_of c.args.self.now.machine) (state_of c.step.new.self) r)
    (c.in-Err-Kind.is ∙ ap Err c.in-Err-Kind.field-0-is) c.step.ensures.step in
    c.requires.goes c.in-Err-Kind.field-0-0.context c.in-Err-Kind.field-0-0.at
    (subst (λ (p : PlantData). IsStuck p.image p.system (state_of c.args.self.now.machine) c.in-Err-Kind.field-0-0.context c.in-Err-Kind.field-0-0.at) c.plant.view_is gives.0)

pub returns-in-Ok-Service : goal.returns-in-Ok-Service
returns-in-Ok-Service c =
    let plant : PlantData = c.args.plant.now in
    let state = state_of c.args.self.now.machine in
    let sites : c.in_ok-sites.sites ≡ c.requires.runs.standing.calls =
    c.in_ok-sites.ensures
    ∙ (subst (λ (p : PlantData). c.sites.result.now ≡ option_map_or (λ s. s.calls) (standing_of p.system state c.args.caller) []) c.plant.view_is c.sites.ensures
    ∙ ap (λ o. option_map_or (λ s. s.calls) o []) c.requires.runs.stands) in
    let made : MadeCall plant.image plant.system c.call_cost-cost.result state (state_of c.step.new.self)
    (labels.Service c.in-Ok-Service.field-0-0 c.in-Ok-Service.field-0-1 c.in-Ok-Service.number c.in-Ok-Service.argument c.in-Ok-Service.code c.in-Ok-Service.misuse) =
    subst (λ (p : PlantData). MadeCall p.image p.system c.call_cost-cost.result state (state_of c.step.new.self)
    (labels.Service c.in-Ok-Service.field-0-0 c.in-Ok-Service.field-0-1 c.in-Ok-Service.number c.in-Ok-Service.argument c.in-Ok-Service.code c.in-Ok-Service.misuse)) c.plant.view_is
    (subst (λ (l : Label). Made c.plant.inside.image c.plant.inside.system 0 c.call_cost-cost.result state (state_of c.step.new.self) l) c.in-Ok-Service.field-0-is c.in-Ok-Service.ensures.step) in
    served_gives plant c.args.caller c.args.place c.in-Ok-Service.number c.in-Ok-Service.argument c.in-Ok-Service.code c.in-Ok-Service.misuse c.in_ok-sites.sites c.moment-start.result
    c.args.self.now c.judge_service.new.self c.step.new.self
    (answered_as plant c.args.caller c.in-Ok-Service.field-0-0 c.args.place c.in-Ok-Service.field-0-1 c.in-Ok-Service.number c.in-Ok-Service.argument c.in-Ok-Service.code
    c.call_cost-cost.result c.in-Ok-Service.misuse c.in_ok-sites.sites c.args.self.now c.step.new.self c.requires.runs made c.call_cost-cost.ensures sites)
    (subst (λ (p : PlantData). Fits p.image p.system c.step.new.self) c.plant.view_is c.in-Ok-Service.ensures.fits)
    c.moment-start.ensures c.judge_service.result c.judge_service.ensures
