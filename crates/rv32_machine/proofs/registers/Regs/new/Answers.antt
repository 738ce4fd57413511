-- Zeros are registers.
use Rattle.rv32_machine.proofs.ExecutionLaws.{zeros_are_registers}
use Rattle.rv32_machine.proofs.registers.Regs.new.Goals as goal

pub invariant_of-result : goal.invariant_of-result
invariant_of-result c = zeros_are_registers
