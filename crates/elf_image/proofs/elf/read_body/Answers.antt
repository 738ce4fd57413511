use Rattle.std.proofs.Common.{sym}
use Rattle.std.proofs.lemmas.Option.{MatchOption-at_some, MatchOption-at_none}
use Rattle.elf_image.proofs.Verdict.{tables_of_parts, judged_fault, body_parts, body_no_symbols}
use Rattle.elf_image.proofs.elf.read_body.Goals as goal

pub returns-in-None : goal.returns-in-None
returns-in-None c =
    judged_fault c.args.bytes.now _ (body_parts c.args.bytes.now (MatchOption-at_none _ _ c.in-None.is c.in_ok-read_parts.ensures))

pub symbol_table-requires-clause-fit : goal.symbol_table-requires-clause-fit
symbol_table-requires-clause-fit c =
    tables_of_parts c.args.bytes.now (MatchOption-at_some _ _ _ c.in-Some.is c.in_ok-read_parts.ensures).fit

pub returns-in-None-symbol_table : goal.returns-in-None-symbol_table
returns-in-None-symbol_table c =
    judged_fault c.args.bytes.now _
    (body_no_symbols c.args.bytes.now (MatchOption-at_some _ _ _ c.in-Some.is c.in_ok-read_parts.ensures).fit (sym c.in-None-symbol_table.ensures))
