use Rattle.json_fields.proofs.Laws.{IfOk-from_Answers}
use Rattle.replay.specs.Lawful.{IsLawful}
use Rattle.replay.proofs.Laws.{schedule_in-lawful}
use Rattle.replay.proofs.reading.read_schedule.Goals as goal

pub returns-clause-lawful : goal.returns-clause-lawful
returns-clause-lawful c =
    IfOk-from_Answers (IsLawful c.args.system.now) _ _ c.args.bytes.now c.read_file.result c.read_file.ensures (schedule_in-lawful c.args.system.now)
