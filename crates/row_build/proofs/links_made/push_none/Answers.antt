use Rattle.std.proofs.Common.{ℕ, None, refl}
use Rattle.row_build.proofs.LinkLists.{links_more}
use Rattle.row_build.proofs.links_made.push_none.Goals as goal

pub loop-number-preserved : goal.loop-number-preserved
loop-number-preserved c =
    links_more (λ (number : ℕ). None) c.loop-number._number c.args.links.now c.loop-number.links c.push.new.self None c.loop-number.invariant refl c.in_ok-push.ensures.ok
