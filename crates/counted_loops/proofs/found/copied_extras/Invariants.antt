-- Those so far are copied.
use Rattle.std.proofs.Common.{◌≡◌, take}
use Rattle.counted_loops.proofs.found.copied_extras.Given as goal

abbrev pub invariant-loop-extra : goal.invariant-loop-extra
invariant-loop-extra l = l.copy ≡ take l.extra-index l.extras
