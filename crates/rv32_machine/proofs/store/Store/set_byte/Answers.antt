-- The store changes the byte that memory holds at the address, and keeps the parts apart.
use Rattle.std.proofs.Common.{◌∙◌, sym, ap, subst}
use Rattle.rv32_machine.specs.Memory.{memory_of, after_store}
use Rattle.rv32_machine.specs.Working.Parts.{IsKept}
use Rattle.rv32_machine.proofs.MemoryLaws.{kept-stored_at, memory_of-stored_at}
use Rattle.rv32_machine.proofs.store.Store.set_byte.Goals as goal

pub invariant_of-self : goal.invariant_of-self
invariant_of-self c =
    subst IsKept (sym c.set_byte_in.ensures)
    (kept-stored_at c.self.inside.parts.items c.args.address c.args.value c.self.invariant c.ranges.value.fits)

pub returns : goal.returns
returns c =
    ap memory_of c.set_byte_in.ensures
    ∙ memory_of-stored_at c.self.inside.parts.items c.args.address c.args.value c.self.invariant.full
    ∙ ap (λ ps. after_store (memory_of ps) (c.args.address, c.args.value)) c.self.view_is
