use Rattle.std.proofs.Common.{◌<◌, length}
use Rattle.std.specs.Option.{ForSome}
use Rattle.whole_simplex.proofs.RatioSearch.{IsSearched}
use Rattle.whole_simplex.proofs.ratio_test.leaving.Given as goal

abbrev pub invariant-loop-i : goal.invariant-loop-i
invariant-loop-i l = IsSearched l.width l.place l.lines l.i l.best × ForSome l.best (λ b. b < length l.lines)
