use Rattle.std.proofs.Common.{◌≡◌, true, List, take, All}
use Rattle.std.specs.List.{list_all}
use Rattle.std.proofs.Common.{◌<◌}
use Rattle.elf_image.specs.Elf.{code_fits}
use Rattle.elf_image.specs.Working.Spans.{IsInOrder}
use Rattle.elf_image.specs.declared.headers.ProgramHeader.{ProgramHeader}
use Rattle.elf_image.proofs.spans.all_within.Given as goal

abbrev pub invariant-loop-section : goal.invariant-loop-section
invariant-loop-section l =
    (loaded : List ProgramHeader) → IsInOrder loaded l.spans → All (λ section. 0 < section.size) l.code
    → list_all (code_fits loaded) (take l.section-index l.code) ≡ true
