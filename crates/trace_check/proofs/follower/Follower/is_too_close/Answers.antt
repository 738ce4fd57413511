use Rattle.std.proofs.Common.{ap, ◌∙◌}
use Rattle.std.specs.List.{list_any}
use Rattle.osek_kernel.specs.Sources.{source_at}
use Rattle.wcet_atomic_blocks.specs.Plants.{PlantData}
use Rattle.trace_check.specs.Verdict.{is_near, moments_of}
use Rattle.trace_check.proofs.follower.Follower.is_too_close.Goals as goal

pub returns : goal.returns
returns c = λ f follows.
    c.is_too_close.ensures _ f.arrivals follows.arrivals
    ∙ ap (λ (p : PlantData). list_any (is_near p (source_at p.system c.args.source) c.args.at) (moments_of c.args.source f.arrivals)) c.plant.view_is
