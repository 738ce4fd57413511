use Rattle.std.proofs.Common.{◌≡◌}
use Rattle.certificate.specs.declared.verdict.Verdict.{Verdict}
use Rattle.certificate.specs.declared.verdict.Verdict.TheVariants.{Yes, No}
use Rattle.certificate.specs.declared.verdict.Why.{Why}
use Rattle.demo_command.proofs.judging.judged.Goals as goal

apart : (verdict : Verdict) (why : Why) → Yes ≡ verdict → verdict ≡ No why → ⊥
apart verdict why one other = cc

pub unreachable-requires : goal.unreachable-requires
unreachable-requires c =
    let verdict : Verdict = c.in_ok-check.field-0 in
    apart verdict c.in-No.field-0
    (c.certificates_have_one_verdict.ensures c.args.plant.now c.args.task c.args.cert Yes verdict c.requires.good c.in_ok-check.ensures) c.in-No.is
