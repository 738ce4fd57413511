use Rattle.std.proofs.Common.{arith}
use Rattle.elf_image.proofs.TableLemmas.{tables_in_file}
use Rattle.elf_image.proofs.ranges.names_header.Goals as goal

pub section_header-requires : goal.section_header-requires
section_header-requires c = let places = tables_in_file c.args.bytes.now c.requires.fit in omega (arith, places.sections)
