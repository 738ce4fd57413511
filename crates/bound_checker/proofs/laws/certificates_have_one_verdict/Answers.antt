use Rattle.bound_checker.proofs.OneVerdict.{one_verdict}
use Rattle.bound_checker.proofs.laws.certificates_have_one_verdict.Goals as goal

pub returns : goal.returns
returns c = one_verdict
