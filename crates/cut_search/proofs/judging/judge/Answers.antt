use Rattle.std.proofs.Common.{Err, sym, subst}
use Rattle.cut_search.specs.declared.fault.SplitFault.{SplitFault}
use Rattle.cut_search.specs.Working.Searching.{IsNodeRay, SaysNode}
use Rattle.cut_search.proofs.NodeAnswers.{refusal_ray, refusal_says}
use Rattle.cut_search.proofs.judging.judge.Goals as goal

pub judged_by-requires-clause-optimum : goal.judged_by-requires-clause-optimum
judged_by-requires-clause-optimum c = record { outcome = c.in-Ok.ensures.outcome; greatest = c.in-Ok.ensures.optimum }

pub returns-in-Err-clause-says : goal.returns-in-Err-clause-says
returns-in-Err-clause-says c =
    subst (λ (fault : SplitFault). SaysNode c.args.base.now c.args.bound c.args.limits.now (Err fault)) (sym c.told.ensures)
    (refusal_says c.args.base.now c.args.bound c.args.limits.now c.in-Err.fault c.in-Err.ensures.outcome)

pub returns-in-Err-clause-ray : goal.returns-in-Err-clause-ray
returns-in-Err-clause-ray c =
    subst (IsNodeRay c.args.base.now c.args.limits.now) (sym c.told.ensures)
    (refusal_ray c.args.base.now c.args.limits.now c.in-Err.fault c.in-Err.ensures.outcome c.in-Err.ensures.ray)
