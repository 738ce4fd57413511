use Rattle.std.proofs.Common.{◌∙◌, sym}
use Rattle.demo_command.proofs.GreatestSeen.{seen_more}
use Rattle.demo_command.proofs.seeing.seen_of.Goals as goal

pub loop-response-preserved : goal.loop-response-preserved
loop-response-preserved c =
    c.seen_with-seen.ensures
    ∙ rw c.loop-response.invariant (sym (seen_more c.args.task c.args.responses.now c.loop-response.response-index _ c.loop-response-test.true))
