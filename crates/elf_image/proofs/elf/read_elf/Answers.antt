use Rattle.std.proofs.Common.{sym}
use Rattle.elf_image.proofs.Verdict.{long_enough}
use Rattle.elf_image.proofs.elf.read_elf.Goals as goal

pub read_body-requires : goal.read_body-requires
read_body-requires c = long_enough c.args.bytes.now (sym c.in-None.ensures)
