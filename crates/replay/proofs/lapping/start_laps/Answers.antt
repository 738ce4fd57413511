-- The context starts in the laps as in the run.
use Rattle.std.proofs.Common.{sym, subst, ◌∷◌, Option}
use Rattle.std.specs.Prelude.{IfSome}
use Rattle.osek_kernel.specs.declared.context.Context.{Context}
use Rattle.osek_kernel.specs.Contexts.{IsContext}
use Rattle.osek_machine.specs.Events.{Take}
use Rattle.wcet_atomic_blocks.specs.Plants.{PlantData}
use Rattle.replay.specs.Working.Laps.{AreKept, Starts}
use Rattle.replay.proofs.LapsKept.{kept_fits, kept_within, take_kept}
use Rattle.replay.proofs.lapping.start_laps.Goals as goal

pub begin_if-requires-clause-fits : goal.begin_if-requires-clause-fits
begin_if-requires-clause-fits c =
    kept_fits c.plant.inside.image c.plant.inside.system c.plant.inside.timing c.requires.kept.0 c.args.laps.now c.plant.invariant.system c.plant.invariant.timing
    (subst (λ (p : PlantData). AreKept p.image p.system p.timing c.requires.kept.0 c.args.laps.now) (sym c.plant.view_is) c.requires.kept.1)

pub returns : goal.returns
returns c = λ taking is events kept within.
    let plant : PlantData = c.args.plant.now in
    let starts : Starts plant.system plant.timing.loops taking.started c.args.laps.now.contexts.items c.begin_if.new.self.contexts.items =
    subst (λ (o : Option Context). Starts plant.system plant.timing.loops o c.args.laps.now.contexts.items c.begin_if.new.self.contexts.items) (sym is)
    (subst (λ (p : PlantData). Starts p.system p.timing.loops c.args.started c.args.laps.now.contexts.items c.begin_if.new.self.contexts.items) c.plant.view_is c.begin_if.ensures.starts) in
    let after : AreKept plant.image plant.system plant.timing (Take taking ∷ events) c.begin_if.new.self =
    take_kept plant.image plant.system plant.timing taking events c.args.laps.now c.begin_if.new.self
    (subst (λ (o : Option Context). IfSome o (IsContext plant.system)) (sym is) c.requires.exists) starts kept in
    (after, kept_within plant.image plant.system plant.timing (Take taking ∷ events) c.begin_if.new.self after)
