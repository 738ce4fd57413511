use Rattle.trace_record.proofs.Limits.{recordings_are_lawful}
use Rattle.trace_record.proofs.laws.recordings_are_lawful.Goals as goal

pub returns : goal.returns
returns c = recordings_are_lawful
