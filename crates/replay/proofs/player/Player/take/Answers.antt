-- What the machine did, what is known of activations and laps, and the least pending source then.
use Rattle.std.proofs.Common.{◌≡◌, ℕ, length, Option, refl, sym, ap, ◌∙◌, subst, rules}
use Rattle.std.proofs.lemmas.List.{with_items_is}
use Rattle.osek_kernel.specs.declared.context.Context.{Context}
use Rattle.osek_kernel.specs.declared.source.Source.{Source}
use Rattle.osek_kernel.specs.Sources.{source_at}
use Rattle.osek_kernel.specs.Taken.{taken}
use Rattle.osek_machine.specs.Events.{Taking}
use Rattle.osek_machine.specs.Declarations.{take_cost}
use Rattle.osek_machine.specs.Machine.{state_of, taking_of, Fits}
use Rattle.osek_machine.specs.Steps.{Takes}
use Rattle.wcet_atomic_blocks.specs.Plants.{PlantData}
use Rattle.replay.specs.Working.Moves.{active_from}
use Rattle.replay.proofs.player.Player.take.Goals as goal

pub returns : goal.returns
returns c =
    let before = c.args.self.now in
    let state = state_of c.args.self.now.machine in
    let plant : PlantData = c.args.plant.now in
    let long : length c.activate.new.active ≡ before.active.len = search rules in
    let at : c.at-from.result ≡ source_at plant.system c.args.source =
    subst (λ (p : PlantData). c.at-from.result ≡ source_at p.system c.args.source) c.plant.view_is c.at-from.ensures in
    let cost : c.take_cost.result ≡ take_cost plant.timing (source_at plant.system c.args.source) =
    subst (λ (p : PlantData). c.take_cost.result ≡ take_cost p.timing c.at-from.result) c.plant.view_is c.take_cost.ensures ∙ ap (take_cost plant.timing) at in
    let taking : Taking = taking_of plant.image plant.system c.args.source (take_cost plant.timing (source_at plant.system c.args.source)) state in
    let started : c.started_by-started.result ≡ taking.started = c.started_by-started.ensures ∙ ap (λ (s : Source). (taken plant.system state.kernel s).started) at in
    record {
      step = subst (λ (n : ℕ). Takes plant.image plant.system (taking_of plant.image plant.system c.args.source n state) state (state_of c.take.new.self)) cost
          (subst (λ (p : PlantData). Takes p.image p.system (taking_of p.image p.system c.args.source c.take_cost.result state) state (state_of c.take.new.self)) c.plant.view_is c.take.ensures.step);
      fits = subst (λ (p : PlantData). Fits p.image p.system c.take.new.self) c.plant.view_is c.take.ensures.fits;
      arrivals = record { arrivals = refl; newest = refl };
      pending = c.least_pending-self.ensures;
      active = with_items_is before.active c.activate.new.active long
          ∙ (c.activate.ensures ∙ (ap (λ (w : Option Context). active_from w c.moment-moment.result c.deref_mut.result.now) started
          ∙ (ap (λ (n : ℕ). active_from taking.started n c.deref_mut.result.now) c.moment-moment.ensures
          ∙ ap (active_from taking.started state.moment) c.deref_mut.ensures.value)));
      laps = c.start_laps.ensures taking (sym started);
      made = refl;
      ended = refl;
      fault = refl;
    }
