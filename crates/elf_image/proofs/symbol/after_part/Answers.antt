use Rattle.std.proofs.Common.{◌∙◌, arith}
use Rattle.elf_image.proofs.Names.{agree}
use Rattle.elf_image.proofs.symbol.after_part.Goals as goal

pub loop-i-preserved : goal.loop-i-preserved
loop-i-preserved c = λ more.
    c.loop-i.invariant more
    ∙ agree c.args.text.now c.args.part.now more c.loop-i.i (omega arith) c.loop-i-test.true c.if-byte-eq0.false c.if-text-i.false
