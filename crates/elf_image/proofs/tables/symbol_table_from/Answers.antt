use Rattle.std.proofs.Common.{sym, ◌∙◌, ap, arith, Some}
use Rattle.std.proofs.lemmas.Bool.{eq-eqb}
use Rattle.elf_image.specs.Elf.{section_header, is_symbol_table}
use Rattle.elf_image.proofs.TableLemmas.{find-headers_from, find-headers_from-nowhere}
use Rattle.elf_image.proofs.tables.symbol_table_from.Goals as goal

pub returns-then-header-eq2 : goal.returns-then-header-eq2
returns-then-header-eq2 c =
    ap Some c.section_header-header.ensures
    ∙ sym
    (find-headers_from is_symbol_table (section_header c.args.bytes.now) c.args.table 40 c.args.count c.loop-i.i c.loop-i-test.true
    c.loop-i.invariant (ap is_symbol_table (sym c.section_header-header.ensures) ∙ eq-eqb _ _ c.if-header-eq2.true))

pub returns : goal.returns
returns c =
    sym
    (find-headers_from-nowhere is_symbol_table (section_header c.args.bytes.now) c.args.table 40 c.args.count
    (λ k below. c.loop-i.invariant k (omega arith)))
