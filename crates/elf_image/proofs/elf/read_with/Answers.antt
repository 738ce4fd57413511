use Rattle.std.proofs.Common.{sym, ◌∙◌, ap, Ok}
use Rattle.std.proofs.lemmas.Option.{MatchOption-at_some, MatchOption-at_none}
use Rattle.elf_image.specs.Elf.{late_fault_of}
use Rattle.elf_image.proofs.Verdict.{tables_of_parts, segments_of_parts, judged_fault, judged_image, body_symbols, late_is}
use Rattle.elf_image.proofs.Lawful.{apart_of_late, code_of_parts}
use Rattle.elf_image.proofs.elf.read_with.Goals as goal

pub read_entries-requires-clause-fit : goal.read_entries-requires-clause-fit
read_entries-requires-clause-fit c = tables_of_parts c.args.bytes.now c.requires.parts.fit

pub names-requires-clause-fit : goal.names-requires-clause-fit
names-requires-clause-fit c = tables_of_parts c.args.bytes.now c.requires.parts.fit

pub names-requires-clause-fits : goal.names-requires-clause-fits
names-requires-clause-fits c = (MatchOption-at_some _ _ _ c.in-Some.is c.in_ok-read_entries.ensures).table_fits

pub image-requires-clause-fit : goal.image-requires-clause-fit
image-requires-clause-fit c = segments_of_parts c.args.bytes.now c.args.parts.now.loaded.items c.requires.parts.loaded c.requires.parts.fit

pub image-requires-clause-apart : goal.image-requires-clause-apart
image-requires-clause-apart c =
    apart_of_late c.args.parts.now.loaded.items c.args.parts.now.code.items
    (ap (λ l. late_fault_of l c.args.parts.now.code.items) (sym c.deref.ensures.value)
    ∙ ap (late_fault_of c.deref.result.now) (sym c.deref-in-Some.ensures.value) ∙ sym c.in-None-late_fault.ensures)

pub image-requires-clause-code : goal.image-requires-clause-code
image-requires-clause-code c =
    code_of_parts c.args.bytes.now c.args.parts.now.loaded.items c.args.parts.now.code.items c.requires.parts.loaded c.requires.parts.code c.requires.parts.fit

pub returns-in-None : goal.returns-in-None
returns-in-None c =
    judged_fault c.args.bytes.now _
    (body_symbols c.args.bytes.now c.args.table.now c.requires.parts.fit c.requires.table (MatchOption-at_none _ _ c.in-None.is c.in_ok-read_entries.ensures))

pub returns-in-Some-late_fault : goal.returns-in-Some-late_fault
returns-in-Some-late_fault c =
    judged_fault c.args.bytes.now _
    (late_is c.args.bytes.now c.args.table.now _ _ _ c.requires.parts.fit c.requires.table
    (MatchOption-at_some _ _ _ c.in-Some.is c.in_ok-read_entries.ensures).fit
    (c.deref.ensures.value ∙ c.requires.parts.loaded) (c.deref-in-Some.ensures.value ∙ c.requires.parts.code) c.in-Some-late_fault.ensures)

pub returns-in_ok-image-in-None-late_fault : goal.returns-in_ok-image-in-None-late_fault
returns-in_ok-image-in-None-late_fault c =
    let entries = MatchOption-at_some _ _ _ c.in-Some.is c.in_ok-read_entries.ensures in
    judged_image c.args.bytes.now c.args.table.now c.args.parts.now.loaded.items c.args.parts.now.code.items c.names.result.now c.in-Some.entries.items
    c.requires.parts.fit c.requires.table entries.fit
    (ap (λ l. late_fault_of l c.args.parts.now.code.items) (sym c.deref.ensures.value)
    ∙ ap (late_fault_of c.deref.result.now) (sym c.deref-in-Some.ensures.value) ∙ sym c.in-None-late_fault.ensures)
    c.requires.parts.loaded c.requires.parts.code c.names.ensures entries.are
    ∙ ap Ok (sym c.in_ok-image-in-None-late_fault.ensures)
