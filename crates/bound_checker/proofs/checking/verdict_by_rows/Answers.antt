use Rattle.bound_checker.proofs.Judging.{verdict_is}
use Rattle.bound_checker.proofs.checking.verdict_by_rows.Goals as goal

pub returns : goal.returns
returns c =
    verdict_is c.args.plant.now c.args.task c.args.cert.now c.as_slice.result.now c.in_ok-rows.rows c.verdict_on.result
    c.requires.closed c.as_slice.ensures c.in_ok-rows.ensures.rows c.verdict_on.ensures
