use Rattle.std.proofs.Common.{◌∙◌, refl}
use Rattle.trace_check.proofs.follower.is_too_close.Goals as goal

pub returns : goal.returns
returns c = λ count arrivals kept.
    c.has_near.ensures count arrivals kept
    ∙ rw (c.is_one_shot-once.ensures, c.distance_of-distance.ensures, c.at-kind.ensures) refl
