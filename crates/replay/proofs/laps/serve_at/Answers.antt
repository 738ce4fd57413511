use Rattle.replay.specs.Working.Laps.{going_on}
use Rattle.replay.proofs.LapsContexts.{room_here, bounds_here, changed}
use Rattle.replay.proofs.laps.serve_at.Goals as goal

pub serve-requires-clause-room : goal.serve-requires-clause-room
serve-requires-clause-room c = room_here c.args.loops.now c.args.contexts.now c.args.place c.index-contexts-place.result c.requires.there c.requires.sound

pub serve-requires-clause-bounds : goal.serve-requires-clause-bounds
serve-requires-clause-bounds c = bounds_here c.args.loops.now c.args.contexts.now c.args.place c.index-contexts-place.result c.requires.there c.requires.sound

pub returns : goal.returns
returns c = changed (going_on c.args.stays c.args.at) c.args.loops.now c.args.place c.args.contexts.now c.index-contexts-place.result c.serve.new.self
    c.serve.result c.requires.there c.serve.ensures.changes c.serve.ensures.answers
