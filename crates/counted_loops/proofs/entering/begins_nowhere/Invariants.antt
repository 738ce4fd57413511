-- No context so far begins there.
use Rattle.std.proofs.Common.{◌≡◌, ◌<◌, ℕ, Option, IfSome, false, get_or}
use Rattle.counted_loops.specs.Working.Entering as entering
use Rattle.counted_loops.proofs.entering.begins_nowhere.Given as goal

abbrev pub invariant-loop-entry : goal.invariant-loop-entry
invariant-loop-entry l = (k : ℕ) (d : Option ℕ) → k < l.entry-index → IfSome (get_or l.entries k d) (λ address. entering.has l.here address ≡ false)
