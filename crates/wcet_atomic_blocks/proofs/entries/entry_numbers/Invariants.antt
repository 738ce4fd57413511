use Rattle.wcet_atomic_blocks.specs.Working.Rooted.{AreEntriesAmong}
use Rattle.wcet_atomic_blocks.proofs.entries.entry_numbers.Given as goal

abbrev pub invariant-loop-number : goal.invariant-loop-number
invariant-loop-number l = AreEntriesAmong l.addresses l.flow l.number l.entries.items
