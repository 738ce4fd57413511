use Rattle.bound_checker.proofs.Sample.{sample_is_judged}
use Rattle.bound_checker.proofs.laws.sample_is_judged.Goals as goal

pub returns : goal.returns
returns c = sample_is_judged
