use Rattle.json_fields.proofs.Laws.{IfOk-from_Answers}
use Rattle.split_cert.specs.Lawful.{IsLawful}
use Rattle.split_cert.proofs.Limits.{split_in-lawful}
use Rattle.split_cert.proofs.read.read_split.Goals as goal

pub returns-clause-lawful : goal.returns-clause-lawful
returns-clause-lawful c =
    IfOk-from_Answers (IsLawful c.args.rules.now c.args.task) _ _ c.args.bytes.now c.read_file.result c.read_file.ensures (split_in-lawful c.args.rules.now c.args.task c.args.name.now)
