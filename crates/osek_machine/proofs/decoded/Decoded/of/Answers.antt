-- Each section has its part.
use Rattle.std.proofs.Common.{arith}
use Rattle.osek_machine.proofs.Tables.{parts_more, all_parts, sections_end}
use Rattle.osek_machine.proofs.decoded.Decoded.of.Goals as goal

pub part_of-requires : goal.part_of-requires
part_of-requires c =
    sections_end c.args.image.now c.code-section-items.result.now c.loop-section.section-index (record { address = 0; size = 0 }) c.is_lawful.ensures
    c.code-section-items.ensures (omega arith)

pub loop-section-preserved : goal.loop-section-preserved
loop-section-preserved c =
    rw c.in_ok-push.ensures.items
    (parts_more c.args.image.now c.code-section-items.result.now c.loop-section.parts.items c.loop-section.section-index (record { address = 0; size = 0 }) c.in_ok-part_of.field-0
    c.code-section-items.ensures c.loop-section.invariant (omega arith) c.in_ok-part_of.ensures)

pub returns : goal.returns
returns c =
    all_parts c.args.image.now c.code-section-items.result.now c.loop-section.parts.items c.loop-section.section-index c.code-section-items.ensures
    c.loop-section.invariant (omega arith)
