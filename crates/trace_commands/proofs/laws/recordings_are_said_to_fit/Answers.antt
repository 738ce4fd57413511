use Rattle.command_steps.specs.Steps.{IsCall}
use Rattle.trace_commands.proofs.Saying.{said_to_fit}
use Rattle.trace_commands.proofs.laws.recordings_are_said_to_fit.Goals as goal

pub returns : goal.returns
returns g c = said_to_fit (IsCall g.F.Files.outside g.F.Files.reads) c.good_certificates_fit.ensures
