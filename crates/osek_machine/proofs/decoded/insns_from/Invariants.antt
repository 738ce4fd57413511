use Rattle.std.proofs.Common.{◌≡◌, length}
use Rattle.osek_machine.specs.Working.Tables.{AreWordsFrom}
use Rattle.osek_machine.proofs.decoded.insns_from.Given as goal

abbrev pub invariant-loop-k : goal.invariant-loop-k
invariant-loop-k l = (length l.insns.items ≡ l.k) × AreWordsFrom l.image l.first l.insns.items
