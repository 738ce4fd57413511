use Rattle.wcet_atomic_blocks.specs.Working.Tables.{AreAftersBelow}
use Rattle.wcet_atomic_blocks.proofs.tables.after_table.Given as goal

abbrev pub invariant-loop-number : goal.invariant-loop-number
invariant-loop-number l = AreAftersBelow l.begins l.number l.nodes l.table.items
