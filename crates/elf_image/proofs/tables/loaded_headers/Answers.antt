use Rattle.std.proofs.Common.{arith}
use Rattle.elf_image.proofs.TableLemmas.{tables_in_file}
use Rattle.elf_image.proofs.tables.loaded_headers.Goals as goal

pub loaded_from-requires : goal.loaded_from-requires
loaded_from-requires c = let places = tables_in_file c.args.bytes.now c.requires.fit in omega (arith, places.programs)
