use Rattle.std.proofs.Common.{ℕ, ◌<◌, get_or}
use Rattle.cut_search.specs.declared.limits.Limits.{Limits}
use Rattle.cut_search.specs.Working.Limits.{IsFree}
use Rattle.cut_search.proofs.limits.are_free.Given as goal

abbrev pub invariant-loop-place : goal.invariant-loop-place
invariant-loop-place l = (k : ℕ) (d : Limits) → k < l.place → IsFree (get_or l.limits k d)
