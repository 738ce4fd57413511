use Rattle.std.proofs.Common.{ℕ, ◌≤◌, take}
use Rattle.whole_simplex.specs.Sizes.{AreWithin}
use Rattle.whole_simplex.proofs.narrow.largest.Given as goal

abbrev pub invariant-loop-entry : goal.invariant-loop-entry
invariant-loop-entry l = AreWithin l.largest (take l.entry-index l.entries) × ((bound : ℕ) → AreWithin bound l.entries → l.largest ≤ bound)
