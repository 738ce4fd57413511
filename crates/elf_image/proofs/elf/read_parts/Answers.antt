use Rattle.std.proofs.Common.{◌<◌, sym, ◌∙◌, subst}
use Rattle.std.proofs.lemmas.List.Elements.{All-same}
use Rattle.elf_image.specs.Working.Spans.{IsInOrder}
use Rattle.elf_image.specs.declared.headers.SectionHeader.{SectionHeader}
use Rattle.elf_image.proofs.Verdict.{parts_without_tables, parts_from, code_is_filled}
use Rattle.elf_image.proofs.elf.read_parts.Goals as goal

pub returns-then-not-tables_fit : goal.returns-then-not-tables_fit
returns-then-not-tables_fit c = parts_without_tables _ (sym c.if-not-tables_fit.ensures)

pub lie_in_range-requires-clause-filled : goal.lie_in_range-requires-clause-filled
lie_in_range-requires-clause-filled c =
    All-same (λ (section : SectionHeader). 0 < section.size) _ _ (c.deref-3.ensures.value ∙ c.in_ok-code.ensures) (code_is_filled c.args.bytes.now)

pub returns-then-fit : goal.returns-then-fit
returns-then-fit c = record {
  fit = parts_from c.args.bytes.now _ _ _ (sym c.if-not-tables_fit.ensures) (c.deref-2.ensures.value ∙ c.in_ok-loaded.ensures)
      (c.deref-3.ensures.value ∙ c.in_ok-code.ensures) c.in_ok-fit.ensures ∙ c.if-fit.true;
  loaded = c.in_ok-loaded.ensures;
  code = c.in_ok-code.ensures;
  order = subst (λ loaded. IsInOrder loaded c.in_ok-spans.spans.items) (c.deref.ensures.value ∙ c.in_ok-loaded.ensures) c.in_ok-spans.ensures;
}

pub returns-else-fit : goal.returns-else-fit
returns-else-fit c =
    parts_from c.args.bytes.now _ _ _ (sym c.if-not-tables_fit.ensures) (c.deref-2.ensures.value ∙ c.in_ok-loaded.ensures)
    (c.deref-3.ensures.value ∙ c.in_ok-code.ensures) c.in_ok-fit.ensures ∙ c.if-fit.false
