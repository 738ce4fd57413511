-- The laps are served as those of the run are.
use Rattle.std.proofs.Common.{ℕ, Bool, sym, subst, Option}
use Rattle.std.specs.Prelude.{IfSome, is_none, option_map}
use Rattle.osek_kernel.specs.declared.context.Context.{Context}
use Rattle.osek_kernel.specs.declared.context.Context.TheVariants as contexts
use Rattle.osek_kernel.specs.Contexts.{IsContext}
use Rattle.wcet_atomic_blocks.specs.Plants.{PlantData}
use Rattle.replay.specs.Working.Laps.{AreKept, HasServed}
use Rattle.replay.proofs.LapsKept.{kept_fits, serve_answers}
use Rattle.replay.proofs.lapping.serve_laps.Goals as goal

pub serve-requires-clause-fits : goal.serve-requires-clause-fits
serve-requires-clause-fits c =
    kept_fits c.plant.inside.image c.plant.inside.system c.plant.inside.timing c.requires.kept.0 c.args.laps.now c.plant.invariant.system c.plant.invariant.timing
    (subst (λ (p : PlantData). AreKept p.image p.system p.timing c.requires.kept.0 c.args.laps.now) (sym c.plant.view_is) c.requires.kept.1)

pub returns : goal.returns
returns c = λ call who from ended activated events kept within.
    let plant : PlantData = c.args.plant.now in
    let old = c.args.laps.now.contexts.items in
    let new = c.serve.new.self.contexts.items in
    let told : HasServed plant.system plant.timing.loops c.args.caller c.args.at (is_none c.args.ended) (option_map contexts.Task c.args.activated) old new c.serve.result =
    subst (λ (o : Option Context). HasServed plant.system plant.timing.loops c.args.caller c.args.at (is_none c.args.ended) o old new c.serve.result) c.started_by.ensures
    (subst (λ (b : Bool). HasServed plant.system plant.timing.loops c.args.caller c.args.at b c.started_by.result old new c.serve.result) c.goes_on.ensures
    (subst (λ (p : PlantData). HasServed p.system p.timing.loops c.args.caller c.args.at c.goes_on.result c.started_by.result old new c.serve.result) c.plant.view_is c.serve.ensures)) in
    serve_answers plant.image plant.system plant.timing call events c.args.laps.now c.serve.new.self c.serve.result (subst (IsContext plant.system) (sym who) c.requires.caller_exists)
    (subst (λ (o : Option ℕ). IfSome (option_map contexts.Task o) (IsContext plant.system)) (sym activated) c.requires.task_exists)
    (subst (λ (d : Context). HasServed plant.system plant.timing.loops d call.before.place (is_none call.reply.ended) (option_map contexts.Task call.reply.activated) old new c.serve.result) (sym who)
    (subst (λ (n : ℕ). HasServed plant.system plant.timing.loops c.args.caller n (is_none call.reply.ended) (option_map contexts.Task call.reply.activated) old new c.serve.result) (sym from)
    (subst (λ (o : Option Context). HasServed plant.system plant.timing.loops c.args.caller c.args.at (is_none o) (option_map contexts.Task call.reply.activated) old new c.serve.result) (sym ended)
    (subst (λ (o : Option ℕ). HasServed plant.system plant.timing.loops c.args.caller c.args.at (is_none c.args.ended) (option_map contexts.Task o) old new c.serve.result) (sym activated) told))))
    kept
