use Rattle.std.proofs.Common.{◌≡◌, filter, take}
use Rattle.elf_image.specs.Working.Spans.{is_filled}
use Rattle.elf_image.proofs.spans.filled.Given as goal

abbrev pub invariant-loop-header : goal.invariant-loop-header
invariant-loop-header l = l.spans.items ≡ filter is_filled (take l.header-index l.loaded)
