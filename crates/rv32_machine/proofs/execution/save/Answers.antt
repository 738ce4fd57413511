-- One byte after another is stored.
use Rattle.std.proofs.Common.{◌∙◌, ap, sym}
use Rattle.rv32_machine.specs.Execution.{saved}
use Rattle.rv32_machine.specs.Memory.{memory_of, after_stores}
use Rattle.rv32_machine.proofs.MemoryLaws.{two_stores, four_stores}
use Rattle.rv32_machine.proofs.execution.save.Goals as goal

pub returns-in-Sh-clause-memory : goal.returns-in-Sh-clause-memory
returns-in-Sh-clause-memory c =
    two_stores _ _ _ _ _ c.save_byte.ensures c.save_byte-in-Sh.ensures
    ∙ ap (λ op. after_stores (memory_of c.args.memory.now) (saved op c.args.address c.args.word)) (sym c.in-Sh.is)

pub returns-in-Sw-clause-memory : goal.returns-in-Sw-clause-memory
returns-in-Sw-clause-memory c =
    four_stores _ _ _ _ _ _ _ _ _ c.save_byte.ensures c.save_byte-in-Sw.ensures c.save_byte-in-Sw-2.ensures c.save_byte-in-Sw-3.ensures
    ∙ ap (λ op. after_stores (memory_of c.args.memory.now) (saved op c.args.address c.args.word)) (sym c.in-Sw.is)
