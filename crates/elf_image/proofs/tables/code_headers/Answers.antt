use Rattle.std.proofs.Common.{arith}
use Rattle.elf_image.proofs.TableLemmas.{tables_in_file}
use Rattle.elf_image.proofs.tables.code_headers.Goals as goal

pub code_from-requires : goal.code_from-requires
code_from-requires c = let places = tables_in_file c.args.bytes.now c.requires.fit in omega (arith, places.sections)
