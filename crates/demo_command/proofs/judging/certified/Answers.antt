use Rattle.std.proofs.Common.{sym, subst}
use Rattle.scheduler_moves.specs.Moves.{rules_of}
use Rattle.certificate.specs.declared.cert.Cert.{Cert}
use Rattle.certificate.specs.Lawful.{IsLawful}
use Rattle.bound_checker.specs.Good.{IsGood}
use Rattle.demo_command.proofs.Judged.{cert_lawful, cert_good}
use Rattle.demo_command.proofs.judging.certified.Goals as goal

pub judged-requires-clause-lawful : goal.judged-requires-clause-lawful
judged-requires-clause-lawful c =
    let plant = c.args.plant.now in
    let optimum = c.args.optimum.now in
    subst (λ (cert : Cert). IsLawful (rules_of plant) c.args.task cert) (sym c.in_ok-cert.ensures)
    (cert_lawful plant c.args.states.now c.args.task optimum.multipliers optimum.denominator optimum.bound c.belongs_together.ensures c.requires.ready
    c.requires.optimum)

pub judged-requires-clause-good : goal.judged-requires-clause-good
judged-requires-clause-good c =
    let plant = c.args.plant.now in
    let optimum = c.args.optimum.now in
    subst (λ (cert : Cert). IsGood plant c.args.task cert) (sym c.in_ok-cert.ensures)
    (cert_good plant c.args.states.now c.args.task optimum.multipliers optimum.denominator optimum.bound c.belongs_together.ensures c.requires.ready
    c.requires.optimum)
