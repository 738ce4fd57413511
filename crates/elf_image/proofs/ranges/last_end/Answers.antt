use Rattle.elf_image.proofs.NameEnds.{has_end-is}
use Rattle.elf_image.proofs.ranges.last_end.Goals as goal

pub returns-else-names-end-ne0 : goal.returns-else-names-end-ne0
returns-else-names-end-ne0 c = λ place.
    has_end-is c.args.names.now c.loop-end.end place c.loop-end-test.true c.loop-end.invariant.within c.if-names-end-ne0.false c.loop-end.invariant.none
