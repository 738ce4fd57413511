use Rattle.std.proofs.lemmas.Option.{slice_get_read}
use Rattle.std.proofs.Common.{refl}
use Rattle.trace_check.proofs.Arriving.{kept_after}
use Rattle.trace_check.proofs.arrivals.Moments.add.Goals as goal

pub returns : goal.returns
returns c = λ sources arrivals kept.
    kept_after c.args.self.now.sets.items sources c.args.source c.args.at c.index_mut.result.now c.insert.new.self arrivals
    (slice_get_read _ _ _ _ refl c.requires c.index_mut.ensures.value) c.in_ok-_new.ensures.updates.0 kept
