use Rattle.std.proofs.Common.{inl, inr}
use Rattle.inputs.proofs.Halts.{err_is}
use Rattle.trace_commands.proofs.judge.judge_on.Goals as goal

pub returns-in_err-cert : goal.returns-in_err-cert
returns-in_err-cert g c =
    let halt = c.in_err-cert.field-0.0 in
    inr (halt, c.in_err-cert.ensures.steps, err_is c.from_residual.result halt c.from_residual.ensures.0 c.from_residual.ensures.1)

pub returns : goal.returns
returns g c = inl (c.in_ok-cert.cert, c.good_certificate.new.files, c.in_ok-cert.ensures.steps, c.judge_by.ensures)
