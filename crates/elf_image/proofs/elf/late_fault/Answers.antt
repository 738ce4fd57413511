use Rattle.std.proofs.Common.{sym, ◌∙◌}
use Rattle.elf_image.proofs.Verdict.{late_overlap, late_no_code, late_large, late_none}
use Rattle.elf_image.proofs.elf.late_fault.Goals as goal

pub returns-then-overlapping : goal.returns-then-overlapping
returns-then-overlapping c =
    sym (late_overlap _ c.args.code.now (sym (c.overlapping.ensures c.args.loaded.now c.requires) ∙ c.if-overlapping.true))

pub returns-then-is_empty : goal.returns-then-is_empty
returns-then-is_empty c =
    sym (late_no_code _ _ (sym (c.overlapping.ensures c.args.loaded.now c.requires) ∙ c.if-overlapping.false) (sym c.if-is_empty.ensures))

pub returns-then-is_large : goal.returns-then-is_large
returns-then-is_large c =
    sym (late_large _ _ (sym (c.overlapping.ensures c.args.loaded.now c.requires) ∙ c.if-overlapping.false) (sym c.if-is_empty.ensures) (sym c.if-is_large.ensures))

pub returns-else-is_large : goal.returns-else-is_large
returns-else-is_large c =
    sym (late_none _ _ (sym (c.overlapping.ensures c.args.loaded.now c.requires) ∙ c.if-overlapping.false) (sym c.if-is_empty.ensures) (sym c.if-is_large.ensures))
