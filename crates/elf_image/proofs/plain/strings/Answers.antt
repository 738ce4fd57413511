use Rattle.std.proofs.Common.{◌++◌, sym, ◌∙◌, ap, append-nil}
use Rattle.elf_image.specs.Plain.{names_bytes, strings_of}
use Rattle.std.proofs.lemmas.List.{drop_all}
use Rattle.elf_image.proofs.plain.strings.Goals as goal

pub returns : goal.returns
unfolding strings_of
returns c =
    sym (append-nil c.loop-symbol.strings.items)
    ∙ ap (λ left. c.loop-symbol.strings.items ++ names_bytes left) (sym (drop_all c.loop-symbol.symbol-index c.args.symbols.now c.loop-symbol-test.false))
    ∙ c.loop-symbol.invariant
