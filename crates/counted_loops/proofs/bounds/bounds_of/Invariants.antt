-- So far each loop has its bound.
use Rattle.std.proofs.Common.{take}
use Rattle.std.specs.List.{AllZip}
use Rattle.rv32_machine.specs.Code.{insn_at}
use Rattle.counted_loops.specs.Counted.{IsFound}
use Rattle.counted_loops.proofs.bounds.bounds_of.Given as goal

abbrev pub invariant-loop-l : goal.invariant-loop-l
invariant-loop-l l = AllZip (IsFound (insn_at l.image) l.entries l.flow) (take l.l-index l.loops) l.found
