use Rattle.std.proofs.Common.{◌≡◌, ◌^◌, ◌<◌, All, subst, sym, ◌∙◌, ap, arith}
use Rattle.elf_image.specs.Elf.{IsImageOf}
use Rattle.elf_image.specs.Plain.{file_of, places_of, strings_of, plain_file, plain_image}
use Rattle.elf_image.specs.declared.symbol.Symbol.{Symbol}
use Rattle.elf_image.proofs.PlainImage.{strings_size, plain_file_is_image}
use Rattle.elf_image.proofs.plain.plain_elf.Goals as goal

pub layout-places-requires-clause-strings : goal.layout-places-requires-clause-strings
layout-places-requires-clause-strings c =
    rw (c.deref.ensures.value, c.in_ok-strings.ensures, c.as_slice-symbols.ensures)
    (let size = strings_size c.args.symbols.now c.requires.names in omega (arith, size, c.requires.few_symbols))

pub returns-clause-image : goal.returns-clause-image
returns-clause-image c =
    let strings : c.deref-2.result.now ≡ strings_of c.args.symbols.now =
    c.deref-2.ensures.value ∙ c.in_ok-strings.ensures ∙ ap strings_of c.as_slice-symbols.ensures in
    let values = subst (λ symbols. All (λ (symbol : Symbol). symbol.value < 2 ^ 32) symbols) c.as_slice-symbols.ensures c.in_ok-file.ensures.values in
    let file : c.from_vec.result ≡ plain_file c.args.base c.args.words.now c.args.symbols.now =
    c.from_vec.ensures ∙ c.in_ok-file.ensures.file
    ∙ ap (λ places. file_of places c.args.words.now c.as_slice-symbols.result.now c.deref-2.result.now) c.layout-places.ensures.are
    ∙ ap (λ symbols. file_of (places_of c.args.base c.args.words.now symbols) c.args.words.now symbols c.deref-2.result.now) c.as_slice-symbols.ensures
    ∙ ap (file_of (places_of c.args.base c.args.words.now c.args.symbols.now) c.args.words.now c.args.symbols.now) strings in
    subst (λ bytes. IsImageOf bytes (plain_image c.args.base c.args.words.now c.args.symbols.now)) (sym file)
    (plain_file_is_image c.args.base c.args.words.now c.args.symbols.now c.requires (omega (arith, c.ranges.base.fits)) values)
