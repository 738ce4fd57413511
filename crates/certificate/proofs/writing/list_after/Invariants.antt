use Rattle.std.proofs.Common.{◌≡◌, ◌++◌, map, take}
use Rattle.serde_json.specs.View.{view}
use Rattle.certificate.proofs.writing.list_after.Given as goal

abbrev pub invariant-loop-member : goal.invariant-loop-member
invariant-loop-member g l = map view l.values.items ≡ map view l.fn.front.items ++ map g.T.Written.data_of (take l.member-index l.members)
