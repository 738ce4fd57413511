use Rattle.std.proofs.Common.{rules, filter, ap, ◌∙◌}
use Rattle.std.proofs.lemmas.List.Elements.{filter_from_retain}
use Rattle.elf_image.specs.Elf.{is_code}
use Rattle.elf_image.proofs.tables.code_from.Goals as goal

pub returns : goal.returns
returns c = filter_from_retain _ is_code (λ p x b q says. search rules) _ _ _ c.retain.ensures.filtered ∙ ap (filter is_code) c.in_ok-found.ensures
