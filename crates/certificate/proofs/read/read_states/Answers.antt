use Rattle.json_fields.proofs.Laws.{IfOk-from_Answers}
use Rattle.abstract_sched.specs.Fits.{AreLawful}
use Rattle.certificate.proofs.Laws.{states_in-lawful}
use Rattle.certificate.proofs.read.read_states.Goals as goal

pub returns-clause-lawful : goal.returns-clause-lawful
returns-clause-lawful c =
    IfOk-from_Answers (AreLawful c.args.rules.now) _ _ c.args.bytes.now c.read_file.result c.read_file.ensures (states_in-lawful c.args.rules.now)
