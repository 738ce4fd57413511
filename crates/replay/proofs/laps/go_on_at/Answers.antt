use Rattle.replay.specs.Working.Laps.{turning}
use Rattle.replay.proofs.LapsContexts.{room_here, bounds_here, there, changed}
use Rattle.replay.proofs.laps.go_on_at.Goals as goal

pub go_on-requires-clause-room : goal.go_on-requires-clause-room
go_on-requires-clause-room c = room_here c.args.loops.now c.args.contexts.now c.args.place c.index-contexts-place.result c.requires.there c.requires.sound

pub go_on-requires-clause-bounds : goal.go_on-requires-clause-bounds
go_on-requires-clause-bounds c = bounds_here c.args.loops.now c.args.contexts.now c.args.place c.index-contexts-place.result c.requires.there c.requires.sound

pub go_on-requires-clause-shallow : goal.go_on-requires-clause-shallow
go_on-requires-clause-shallow c = c.requires.shallow _ (there c.args.contexts.now c.args.place c.index-contexts-place.result c.requires.there)

pub returns : goal.returns
returns c = changed (turning c.args.turn c.args.from c.args.to c.args.call) c.args.loops.now c.args.place c.args.contexts.now c.index-contexts-place.result c.go_on.new.self
    c.go_on.result c.requires.there c.go_on.ensures.changes c.go_on.ensures.answers
