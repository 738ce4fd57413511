use Rattle.std.proofs.Common.{rules, filter, ap, ◌∙◌}
use Rattle.std.proofs.lemmas.List.Elements.{filter_from_retain}
use Rattle.elf_image.specs.Elf.{is_loaded}
use Rattle.elf_image.proofs.tables.loaded_from.Goals as goal

pub returns : goal.returns
returns c = filter_from_retain _ is_loaded (λ p x b q says. search rules) _ _ _ c.retain.ensures.filtered ∙ ap (filter is_loaded) c.in_ok-found.ensures
