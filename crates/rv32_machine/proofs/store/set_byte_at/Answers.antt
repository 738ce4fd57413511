-- The store changes the first part that covers the address.
use Rattle.std.proofs.Common.{◌∙◌, sym, ap, set}
use Rattle.rv32_machine.proofs.MemoryLaws.{stored_first, stored_none}
use Rattle.rv32_machine.proofs.store.set_byte_at.Goals as goal

pub returns-in-Some : goal.returns-in-Some
returns-in-Some c =
    let first = stored_first c.args.parts.now c.args.address c.args.value c.in-Some.i c.in-Some.ensures.found in
    ap (set c.args.parts.now c.in-Some.i) c.set_byte.ensures ∙ sym (first c.index-parts-i.result)

pub returns-in_default : goal.returns-in_default
returns-in_default c = sym (stored_none c.args.parts.now c.args.address c.args.value c.in_default.ensures.none)
