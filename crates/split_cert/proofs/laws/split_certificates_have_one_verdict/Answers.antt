use Rattle.split_cert.proofs.OneVerdict.{one_verdict}
use Rattle.split_cert.proofs.laws.split_certificates_have_one_verdict.Goals as goal

pub returns : goal.returns
returns c = one_verdict c.certificates_have_one_verdict.ensures
