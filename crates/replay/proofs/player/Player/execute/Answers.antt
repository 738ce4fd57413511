-- The running context exists, and its step is judged.
use Rattle.std.proofs.Common.{◌≡◌, refl, sym, ap, ◌∙◌, subst}
use Rattle.std.specs.Prelude.{Err, []}
use Rattle.std.specs.Option.{option_map_or}
use Rattle.osek_kernel.specs.Contexts.{IsContext}
use Rattle.osek_machine.specs.Loops.{innermost}
use Rattle.osek_machine.specs.declared.labels.Label.{Label}
use Rattle.osek_machine.specs.declared.labels.Label.TheVariants as labels
use Rattle.osek_machine.specs.State.{standing_of}
use Rattle.osek_machine.specs.Machine.{Fits, Made, MadeInsn, StepGives, state_of}
use Rattle.osek_machine.proofs.Kept.{running_exists}
use Rattle.wcet_atomic_blocks.specs.Plants.{PlantData}
use Rattle.replay.proofs.Executing.{judged_gives, told}
use Rattle.replay.proofs.player.Player.execute.Goals as goal

pub sites-requires-clause-exists : goal.sites-requires-clause-exists
sites-requires-clause-exists c =
    subst (λ (p : PlantData). IsContext p.system c.args.context) (sym c.plant.view_is)
    (running_exists c.args.plant.now.system (state_of c.args.self.now.machine) c.args.context c.requires.fits.room c.requires.runs.running)

pub judge-requires-clause-exists : goal.judge-requires-clause-exists
judge-requires-clause-exists c =
    running_exists c.args.plant.now.system (state_of c.args.self.now.machine) c.args.context c.requires.fits.room c.requires.runs.running

pub returns-in-Ok-Insn : goal.returns-in-Ok-Insn
returns-in-Ok-Insn c =
    let plant : PlantData = c.args.plant.now in
    let before = c.args.self.now in
    let state = state_of c.args.self.now.machine in
    let at = c.requires.runs in
    let cost = c.insn_cost-cost.ensures c.args.context c.requires.runs in
    let sites : c.sites.result.now ≡ c.requires.runs.standing.calls =
    subst (λ (p : PlantData). c.sites.result.now ≡ option_map_or (λ s. s.calls) (standing_of p.system state c.args.context) []) c.plant.view_is c.sites.ensures
    ∙ ap (λ o. option_map_or (λ s. s.calls) o []) c.requires.runs.stands in
    let made : MadeInsn plant.image plant.system 0 c.insn_cost-cost.result state (state_of c.step.new.self)
    (labels.Insn c.in-Ok-Insn.field-0-0 c.in-Ok-Insn.field-0-1 c.in-Ok-Insn.to c.in-Ok-Insn.stored c.in-Ok-Insn.paired) =
    subst (λ (p : PlantData). MadeInsn p.image p.system 0 c.insn_cost-cost.result state (state_of c.step.new.self)
    (labels.Insn c.in-Ok-Insn.field-0-0 c.in-Ok-Insn.field-0-1 c.in-Ok-Insn.to c.in-Ok-Insn.stored c.in-Ok-Insn.paired)) c.plant.view_is
    (subst (λ (l : Label). Made c.plant.inside.image c.plant.inside.system 0 c.insn_cost-cost.result state (state_of c.step.new.self) l) c.in-Ok-Insn.field-0-is c.in-Ok-Insn.ensures.step) in
    judged_gives plant c.args.context c.args.place c.in-Ok-Insn.to c.innermost-call.result c.in-Ok-Insn.stored c.in-Ok-Insn.paired c.moment-start.result
    c.args.self.now c.judge.new.self c.step.new.self
    (told plant c.args.context c.in-Ok-Insn.field-0-0 c.args.insn.now c.args.place c.in-Ok-Insn.field-0-1 c.in-Ok-Insn.to c.insn_cost-cost.result c.innermost-call.result
    c.in-Ok-Insn.stored c.in-Ok-Insn.paired c.args.self.now c.step.new.self c.requires.runs made cost (c.innermost-call.ensures ∙ ap innermost sites))
    (subst (λ (p : PlantData). Fits p.image p.system c.step.new.self) c.plant.view_is c.in-Ok-Insn.ensures.fits)
    c.moment-start.ensures c.judge.result c.judge.ensures

pub returns-in-Err-Memory : goal.returns-in-Err-Memory
returns-in-Err-Memory c = record {
  state = subst (λ r. StepGives c.plant.inside.image c.plant.inside.system 0 c.insn_cost-cost.result (state_of c.args.self.now.machine) (state_of c.step.new.self) r)
      (c.in-Err-Memory.is ∙ ap Err c.in-Err-Memory.field-0-is) c.step.ensures.step;
  fits = subst (λ (p : PlantData). Fits p.image p.system c.step.new.self) c.plant.view_is c.step.ensures.fits;
  same = refl;
}
