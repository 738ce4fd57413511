use Rattle.std.proofs.Common.{◌≡◌, true, take}
use Rattle.std.specs.BTreeSet.{contains}
use Rattle.std.specs.List.{list_any}
use Rattle.listed.specs.Lists.{differ}
use Rattle.listed.proofs.differ.all_differ.Given as goal

abbrev pub invariant-loop-member : goal.invariant-loop-member
invariant-loop-member g l = record {
  apart : differ g.T.PartialEq.eq (take l.member-index l.members) ≡ true;
  seen : (k : _) → contains (λ x y. g.T.Ord.cmp x.now y.now) l.seen k ≡ list_any (g.T.PartialEq.eq k.now) (take l.member-index l.members);
}
