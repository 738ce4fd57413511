use Rattle.std.proofs.Common.{refl}
use Rattle.elf_image.specs.Plain.{file_of}
use Rattle.elf_image.proofs.plain.whole_file.Goals as goal

pub returns-clause-file : goal.returns-clause-file
unfolding file_of
returns-clause-file c =
    rw (
      c.in_ok-put_section_headers.ensures,
      c.in_ok-put_padding.ensures,
      c.in_ok-put_bytes.ensures,
      c.in_ok-put_symbols.ensures.file,
      c.in_ok-put_words.ensures,
      c.in_ok-put_segment_header.ensures,
      c.in_ok-put_file_header.ensures,
      c.new-file.ensures.items,
    ) refl
