use Rattle.wcet_atomic_blocks.specs.Working.Tables.{AreEntriesBelow}
use Rattle.wcet_atomic_blocks.proofs.tables.entry_table.Given as goal

abbrev pub invariant-loop-number : goal.invariant-loop-number
invariant-loop-number l = AreEntriesBelow l.begins l.number l.contexts l.table.items
