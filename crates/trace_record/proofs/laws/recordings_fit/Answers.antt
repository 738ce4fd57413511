use Rattle.trace_record.proofs.Fitting.{recordings_fit}
use Rattle.trace_record.proofs.laws.recordings_fit.Goals as goal

pub returns : goal.returns
returns c = recordings_fit
