use Rattle.json_fields.proofs.Laws.{IfOk-from_Answers}
use Rattle.certificate.specs.Lawful.{IsLawful}
use Rattle.certificate.proofs.Laws.{cert_in-lawful}
use Rattle.certificate.proofs.read.read_cert.Goals as goal

pub returns-clause-lawful : goal.returns-clause-lawful
returns-clause-lawful c =
    IfOk-from_Answers (IsLawful c.args.rules.now c.args.task) _ _ c.args.bytes.now c.read_file.result c.read_file.ensures (cert_in-lawful c.args.rules.now c.args.task c.args.name.now)
