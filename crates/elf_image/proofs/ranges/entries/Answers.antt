use Rattle.std.proofs.Common.{arith}
use Rattle.elf_image.proofs.TableLemmas.{symbols_in_file}
use Rattle.elf_image.proofs.ranges.entries.Goals as goal

pub entries_from-requires : goal.entries_from-requires
entries_from-requires c = let places = symbols_in_file c.args.bytes.now c.args.table.now c.requires in omega (arith, places.entries)
