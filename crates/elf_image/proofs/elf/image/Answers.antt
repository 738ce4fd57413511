-- The parts of a file that fit make a lawful image.
use Rattle.std.proofs.Common.{◌∙◌, ap, sym, subst, map}
use Rattle.elf_image.specs.Image.{IsLawful, symbol_in}
use Rattle.elf_image.specs.Elf.{section_of, segment_of}
use Rattle.elf_image.proofs.Lawful.{image_lawful}
use Rattle.elf_image.proofs.elf.image.Goals as goal

pub new-requires : goal.new-requires
new-requires c =
    let symbols = map (symbol_in c.in_ok-names.names) c.from_vec.result in
    let bytes = c.args.bytes.now in
    let loaded = c.args.parts.now.loaded.items in
    let sections = c.args.parts.now.code.items in
    subst (λ code. IsLawful (record { code = code; memory = c.in_ok-memory.memory; symbols = symbols }))
    (sym (c.in_ok-code.ensures ∙ ap (map section_of) c.deref.ensures.value))
    (subst (λ memory. IsLawful (record { code = map section_of sections; memory = memory; symbols = symbols }))
    (sym (c.in_ok-memory.ensures ∙ ap (map (segment_of bytes)) c.deref-2.ensures.value))
    (image_lawful bytes loaded sections symbols c.are_bytes.ensures c.requires.fit c.requires.apart c.requires.code))
