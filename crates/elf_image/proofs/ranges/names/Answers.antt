use Rattle.elf_image.proofs.TableLemmas.{symbols_in_file}
use Rattle.elf_image.proofs.ranges.names.Goals as goal

pub names_header-header-requires-clause-link : goal.names_header-header-requires-clause-link
names_header-header-requires-clause-link c = (symbols_in_file c.args.bytes.now c.args.table.now c.requires.fits).link

pub part-requires : goal.part-requires
part-requires c =
    let places = symbols_in_file c.args.bytes.now c.args.table.now c.requires.fits in
    rw (c.names_header-header.ensures) places.names
