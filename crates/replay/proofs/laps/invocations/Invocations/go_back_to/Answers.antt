use Rattle.replay.proofs.LapsSteps.{pop_within, pop_changes}
use Rattle.replay.proofs.laps.invocations.Invocations.go_back_to.Goals as goal

pub move_on-requires-clause-bounds : goal.move_on-requires-clause-bounds
move_on-requires-clause-bounds c =
    pop_within c.args.loops.now c.args.self.now c.self.inside.rows.items c.self.inside.depth c.self.view_is c.if-self-eq0.false c.requires.bounds

pub returns-clause-changes : goal.returns-clause-changes
returns-clause-changes c =
    pop_changes c.args.loops.now c.args.call c.args.self.now c.move_on.new.self c.self.inside.rows.items c.self.inside.depth
    c.self.view_is c.if-self-eq0.false c.move_on.ensures.changes
