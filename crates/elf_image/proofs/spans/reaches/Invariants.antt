use Rattle.std.proofs.Common.{◌≡◌, ℕ, ◌<◌, ◌+◌, length, get_or, take}
use Rattle.elf_image.specs.Working.Spans.{reach_of}
use Rattle.elf_image.proofs.spans.reaches.Given as goal

abbrev pub invariant-loop-span : goal.invariant-loop-span
invariant-loop-span l = record {
  reach : l.reach ≡ reach_of (take l.span-index l.spans);
  as_many : length l.reaches.items ≡ l.span-index;
  each : (k : ℕ) → k < l.span-index → get_or l.reaches.items k 0 ≡ reach_of (take (k + 1) l.spans);
}
