use Rattle.std.proofs.Common.{arith}
use Rattle.elf_image.proofs.TableLemmas.{tables_in_file}
use Rattle.elf_image.proofs.tables.symbol_table.Goals as goal

pub symbol_table_from-requires : goal.symbol_table_from-requires
symbol_table_from-requires c = let places = tables_in_file c.args.bytes.now c.requires.fit in omega (arith, places.sections)
