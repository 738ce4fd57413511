use Rattle.std.proofs.Common.{◌≡◌, false, ℕ, ◌<◌, get_or, take}
use Rattle.elf_image.specs.Elf.{shares}
use Rattle.elf_image.specs.Working.Spans.{reach_of}
use Rattle.elf_image.specs.declared.headers.ProgramHeader.{ProgramHeader}
use Rattle.elf_image.proofs.spans.overlapping.Given as goal

abbrev pub invariant-loop-span : goal.invariant-loop-span
invariant-loop-span l = record {
  reach : l.reach ≡ reach_of (take l.span-index l.spans);
  apart : (j i : ℕ) (d : ProgramHeader) → j < i → i < l.span-index → shares (get_or l.spans j d) (get_or l.spans i d) ≡ false;
}
