-- The parts of a store hold bytes.
use Rattle.std.proofs.Common.{subst}
use Rattle.rv32_machine.specs.Memory.{memory_of, BytesFit}
use Rattle.rv32_machine.proofs.MemoryLaws.{bytes_fit}
use Rattle.rv32_machine.proofs.store.Store.holds_bytes.Goals as goal

pub returns : goal.returns
returns c = subst (λ ps. BytesFit (memory_of ps)) c.self.view_is (bytes_fit c.self.inside.parts.items c.self.invariant)
