use Rattle.std.proofs.Common.{sym, ◌∙◌}
use Rattle.listed.proofs.Apart.{among_more, apart_more, apart_none, was_true, was_false}
use Rattle.listed.proofs.differ.all_differ.Goals as goal

pub returns-then-not-branch : goal.returns-then-not-branch
returns-then-not-branch g c =
    sym (apart_none g.T.PartialEq.eq g.met.T.Eq.laws.symm c.args.members.now c.loop-member.member-index c.member-item.result c.loop-member-test.true c.member-item.is
    (was_true _ _ (rw c.loop-member.invariant.seen at c.in_ok-insert.ensures.added) c.if-not-branch.true))

pub loop-member-preserved : goal.loop-member-preserved
loop-member-preserved g c = record {
  apart = apart_more g.T.PartialEq.eq g.met.T.Eq.laws.symm c.args.members.now c.loop-member.member-index c.member-item.result c.loop-member-test.true c.member-item.is c.loop-member.invariant.apart
      (was_false _ _ (rw c.loop-member.invariant.seen at c.in_ok-insert.ensures.added) c.if-not-branch.false);
  seen = λ k. c.in_ok-insert.ensures.updates.0 k ∙ (rw (c.loop-member.invariant.seen k) (among_more g.T.PartialEq.eq g.T.Ord.cmp g.met.T.Eq.laws.symm g.met.T.Ord.matches_eq c.args.members.now c.loop-member.member-index c.member-item.result k.now c.loop-member-test.true c.member-item.is));
}
