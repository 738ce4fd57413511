use Rattle.replay.specs.Working.Laps.{starting}
use Rattle.replay.proofs.LapsContexts.{room_here, changed, sure}
use Rattle.replay.proofs.laps.begin_at.Goals as goal

pub begin-requires : goal.begin-requires
begin-requires c = record {
  room = room_here c.args.loops.now c.args.contexts.now c.args.place c.index-contexts-place.result c.requires.there c.requires.sound;
}

pub returns : goal.returns
returns c = changed starting c.args.loops.now c.args.place c.args.contexts.now c.index-contexts-place.result c.begin.new.self _ c.requires.there
    c.begin.ensures.changes (sure c.args.loops.now c.begin.new.self c.begin.ensures.bounds)
