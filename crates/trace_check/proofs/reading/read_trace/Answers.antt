use Rattle.json_fields.proofs.Laws.{IfOk-from_Answers}
use Rattle.trace_check.specs.Trace.{IsLawful}
use Rattle.trace_check.proofs.Laws.{trace_in-lawful}
use Rattle.trace_check.proofs.reading.read_trace.Goals as goal

pub returns-clause-lawful : goal.returns-clause-lawful
returns-clause-lawful c =
    IfOk-from_Answers (IsLawful c.args.system.now) _ _ c.args.bytes.now c.read_file.result c.read_file.ensures (trace_in-lawful c.args.system.now)
