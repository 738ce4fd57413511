use Rattle.std.proofs.Common.{◌≡◌, ◌<◌, List, length, get_or, subst, sym, ap, ◌∙◌, arith}
use Rattle.trace_check.specs.declared.trace.Event.{Event}
use Rattle.trace_check.proofs.Following.{goes_on, judged, none_from}
use Rattle.trace_check.specs.Working.Following.{Goes}
use Rattle.trace_check.proofs.judging.judge_on.Goals as goal

pub loop-place-preserved : goal.loop-place-preserved
loop-place-preserved c =
    let judging = c.loop-place.invariant in
    let event = c.index-events-place.result in
    let within = subst (λ (es : List Event). c.loop-place.place < length es) c.as_slice-events.ensures c.loop-place-test.true in
    let is = subst (λ (es : List Event). event ≡ get_or es c.loop-place.place event) c.as_slice-events.ensures c.index-events-place.is in
    let goes = subst (Goes c.args.plant.now c.args.cert.now c.loop-place.place judging.f event c.follow.new.follower)
    (none_from c.in_ok-verdict.field-0 c.in_default.not-Some) (c.in_ok-verdict.ensures.goes judging.f judging.follows) in
    goes_on c.args.plant.now c.args.cert.now c.args.trace.now c.loop-place.tables c.follow.new.tables c.loop-place.follower c.follow.new.follower
    c.loop-place.place event judging within is c.in_ok-verdict.ensures.tables goes

pub returns : goal.returns
returns c =
    let judging = c.loop-place.invariant in
    let all = ap length c.as_slice-events.ensures in
    let place : c.loop-place.place ≡ length c.as_slice-events.result.now = omega (arith, c.loop-place-test.false, c.loop-place.auto.place-end) in
    judged c.args.plant.now c.args.cert.now c.args.trace.now c.loop-place.tables c.loop-place.follower c.loop-place.place c.verdict_at_end.result judging
    (sym all ∙ sym place) (rw (place) (c.verdict_at_end.ensures c.args.plant.now c.args.cert.now.states judging.f judging.follows))
