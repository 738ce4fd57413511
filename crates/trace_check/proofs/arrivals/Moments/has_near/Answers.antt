use Rattle.std.proofs.lemmas.Option.{slice_get_read}
use Rattle.std.proofs.Common.{refl}
use Rattle.trace_check.specs.Verdict.{moments_of}
use Rattle.trace_check.proofs.arrivals.Moments.has_near.Goals as goal

pub returns : goal.returns
returns c = λ sources arrivals kept.
    c.is_near.ensures (moments_of c.args.source arrivals) (kept.each c.args.source _ (slice_get_read _ _ _ _ refl c.requires c.index.ensures))
