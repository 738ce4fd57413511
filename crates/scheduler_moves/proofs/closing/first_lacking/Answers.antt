use Rattle.std.proofs.Common.{arith, get_or}
use Rattle.std.proofs.lemmas.Option.{slice_get-get_or}
use Rattle.scheduler_moves.proofs.closing.first_lacking.Goals as goal

pub returns : goal.returns
returns c = λ k d lt. c.loop-number.invariant k (get_or c.args.moves.now k d) (omega arith) (slice_get-get_or c.args.moves.now k d lt)
