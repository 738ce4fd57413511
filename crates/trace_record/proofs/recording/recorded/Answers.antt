-- The rounds begin with nothing recorded, and the recording is finished at the run's end.
use Rattle.std.proofs.Common.{[]}
use Rattle.trace_record.proofs.Lawful.{records_are_lawful}
use Rattle.trace_record.proofs.Rounds.{record_gives}
use Rattle.trace_record.proofs.recording.recorded.Goals as goal

pub record_on-requires-clause-recording : goal.record_on-requires-clause-recording
record_on-requires-clause-recording c =
    ([], record { stands = c.in_ok-player.ensures.stands; recorded = c.new-recorder.ensures c.args.plant.now.system })

pub returns-clause-gives : goal.returns-clause-gives
returns-clause-gives c =
    let ended = c.in_ok-record_on.ensures in
    record_gives c.args.plant.now c.args.schedule.now ended.0 c.record_on.new.player c.record_on.new.recorder c.finish.result ended.1 c.finish.ensures

pub returns-clause-lawful : goal.returns-clause-lawful
returns-clause-lawful c =
    let ended = c.in_ok-record_on.ensures in
    records_are_lawful c.args.plant.now c.args.schedule.now c.finish.result c.belongs_together.ensures c.requires
    (record_gives c.args.plant.now c.args.schedule.now ended.0 c.record_on.new.player c.record_on.new.recorder c.finish.result ended.1 c.finish.ensures)
