-- The step that the turn tells is recorded.
use Rattle.std.proofs.Common.{◌<◌, ◌^◌, arith}
use Rattle.trace_record.proofs.Rounds.{has_room, plays_up_to, serves_context, turn_gives}
use Rattle.trace_record.proofs.recording.record_turn.Goals as goal

pub note-requires-clause-context : goal.note-requires-clause-context
note-requires-clause-context c =
    let after = c.requires.recording.1 in
    serves_context c.args.plant.now c.args.schedule.now c.requires.recording.0 c.args.player.now c.turn.new.self c.in-Ok.turn
    c.belongs_together.ensures (c.in-Ok.ensures.gives c.requires.recording.0 after.stands)

pub note-requires-clause-room : goal.note-requires-clause-room
note-requires-clause-room c =
    let after = c.requires.recording.1 in
    has_room c.args.plant.now c.args.schedule.now c.requires.recording.0 c.args.player.now c.turn.new.self c.in-Ok.turn c.args.recorder.now c.made-made.result
    (c.in-Ok.ensures.gives c.requires.recording.0 after.stands) c.made-made.ensures after.recorded

pub returns-in_ok-note-in-Ok : goal.returns-in_ok-note-in-Ok
returns-in_ok-note-in-Ok c = λ events after.
    let fits : c.made-made.result < 2 ^ 64 = omega arith in
    turn_gives c.args.plant.now c.args.schedule.now events c.args.player.now c.turn.new.self c.in-Ok.turn c.args.recorder.now c.note.new.self
    c.in_ok-note-in-Ok.field-0 c.made-made.result (c.in-Ok.ensures.gives events after.stands) after c.made-made.ensures fits c.in_ok-note-in-Ok.ensures

pub returns-in-Err-Kind : goal.returns-in-Err-Kind
returns-in-Err-Kind c = λ events after.
    let stops = rw c.in-Err-Kind.field-0-is at (c.in-Err-Kind.ensures.gives events after.stands) in
    plays_up_to c.args.plant.now c.args.schedule.now events c.turn.new.self c.in-Err-Kind.kind stops.stands stops.broken
