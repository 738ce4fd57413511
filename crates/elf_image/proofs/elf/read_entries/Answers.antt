use Rattle.std.proofs.Common.{sym, ◌∙◌}
use Rattle.elf_image.proofs.Verdict.{symbols_without_table, symbols_from}
use Rattle.elf_image.proofs.elf.read_entries.Goals as goal

pub returns-then-not-symbol_table_fits : goal.returns-then-not-symbol_table_fits
returns-then-not-symbol_table_fits c = symbols_without_table _ _ (sym c.if-not-symbol_table_fits.ensures)

pub returns-then-names_end : goal.returns-then-names_end
returns-then-names_end c = record {
  table_fits = sym c.if-not-symbol_table_fits.ensures;
  fit = symbols_from c.args.bytes.now c.args.table.now c.names.result.now c.deref.result.now _ (sym c.if-not-symbol_table_fits.ensures) c.names.ensures
      (c.deref.ensures.value ∙ c.in_ok-entries.ensures) c.if-names_end.ensures;
  are = c.in_ok-entries.ensures;
}

pub returns-else-names_end : goal.returns-else-names_end
returns-else-names_end c =
    symbols_from c.args.bytes.now c.args.table.now c.names.result.now c.deref.result.now _ (sym c.if-not-symbol_table_fits.ensures) c.names.ensures
    (c.deref.ensures.value ∙ c.in_ok-entries.ensures) c.if-names_end.ensures
