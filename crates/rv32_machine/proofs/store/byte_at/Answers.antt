-- The first part that covers the address has the byte.
use Rattle.std.proofs.Common.{◌∙◌, sym, ap, Some}
use Rattle.elf_image.specs.Image.{byte_in}
use Rattle.rv32_machine.proofs.MemoryLaws.{memory_at, memory_none}
use Rattle.rv32_machine.proofs.store.byte_at.Goals as goal

pub returns-in_err-i : goal.returns-in_err-i
returns-in_err-i c =
    c.from_residual.ensures ∙ sym (memory_none c.args.parts.now c.args.address c.in_err-i.ensures.none)

pub returns : goal.returns
returns c =
    let found = memory_at c.args.parts.now c.args.address c.in_ok-i.i c.in_ok-i.ensures.found in
    ap Some (c.byte.ensures ∙ ap (λ p. byte_in p c.args.address) c.index-parts-i.is) ∙ sym (found c.index-parts-i.result)
