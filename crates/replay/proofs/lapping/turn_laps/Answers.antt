-- The laps turn as those of the run do.
use Rattle.std.proofs.Common.{ℕ, sym, subst, Option, Some}
use Rattle.rv32_machine.specs.declared.turns.Turn.{Turn}
use Rattle.rv32_machine.specs.Code.{insn_at}
use Rattle.rv32_machine.specs.Places.{turn_at}
use Rattle.osek_kernel.specs.declared.context.Context.{Context}
use Rattle.osek_kernel.specs.Contexts.{IsContext, place_of}
use Rattle.osek_machine.specs.Loops.{innermost}
use Rattle.wcet_atomic_blocks.specs.Plants.{PlantData}
use Rattle.replay.specs.Working.Laps.{AreKept, Changes, MayTurnAt, turning}
use Rattle.replay.proofs.LapsKept.{execute_answers, kept_fits}
use Rattle.replay.proofs.lapping.turn_laps.Goals as goal

pub go_on-requires-clause-fits : goal.go_on-requires-clause-fits
go_on-requires-clause-fits c =
    kept_fits c.plant.inside.image c.plant.inside.system c.plant.inside.timing c.requires.kept.kept.0 c.args.laps.now c.plant.invariant.system c.plant.invariant.timing
    (subst (λ (p : PlantData). AreKept p.image p.system p.timing c.requires.kept.kept.0 c.args.laps.now) (sym c.plant.view_is) c.requires.kept.kept.1)

pub go_on-requires-clause-shallow : goal.go_on-requires-clause-shallow
go_on-requires-clause-shallow c =
    subst (λ (p : PlantData). MayTurnAt p.system c.args.context (Some c.args.turn) c.args.laps.now.contexts.items) (sym c.plant.view_is)
    (subst (λ (o : Option Turn). MayTurnAt c.args.plant.now.system c.args.context o c.args.laps.now.contexts.items) (sym c.requires.turn) c.requires.kept.shallow)

pub returns : goal.returns
returns c = λ e who from to call events kept within.
    let plant : PlantData = c.args.plant.now in
    let old = c.args.laps.now.contexts.items in
    let new = c.go_on.new.self.contexts.items in
    let told : Changes (turning (turn_at (insn_at plant.image) c.args.from) c.args.from c.args.to c.args.call) plant.timing.loops (place_of plant.system c.args.context) old new c.go_on.result =
    subst (λ (o : Option Turn). Changes (turning o c.args.from c.args.to c.args.call) plant.timing.loops (place_of plant.system c.args.context) old new c.go_on.result) c.requires.turn
    (subst (λ (p : PlantData). Changes (turning (Some c.args.turn) c.args.from c.args.to c.args.call) p.timing.loops (place_of p.system c.args.context) old new c.go_on.result) c.plant.view_is c.go_on.ensures) in
    execute_answers plant.image plant.system plant.timing e events c.args.laps.now c.go_on.new.self c.go_on.result (subst (IsContext plant.system) (sym who) c.requires.exists)
    (subst (λ (d : Context). Changes (turning (turn_at (insn_at plant.image) e.before.place) e.before.place e.after.place (innermost e.before.calls)) plant.timing.loops (place_of plant.system d) old new c.go_on.result) (sym who)
    (subst (λ (n : ℕ). Changes (turning (turn_at (insn_at plant.image) n) n e.after.place (innermost e.before.calls)) plant.timing.loops (place_of plant.system c.args.context) old new c.go_on.result) (sym from)
    (subst (λ (n : ℕ). Changes (turning (turn_at (insn_at plant.image) c.args.from) c.args.from n (innermost e.before.calls)) plant.timing.loops (place_of plant.system c.args.context) old new c.go_on.result) (sym to)
    (subst (λ (o : Option ℕ). Changes (turning (turn_at (insn_at plant.image) c.args.from) c.args.from c.args.to o) plant.timing.loops (place_of plant.system c.args.context) old new c.go_on.result) (sym call) told))))
    kept
