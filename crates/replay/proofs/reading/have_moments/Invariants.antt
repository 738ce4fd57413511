use Rattle.std.proofs.Common.{◌≡◌, map, drop}
use Rattle.serde_json.specs.View.{view}
use Rattle.replay.specs.Schedule.{have_moments_from}
use Rattle.replay.proofs.reading.have_moments.Given as goal

abbrev pub invariant-loop-arrival : goal.invariant-loop-arrival
invariant-loop-arrival l =
    have_moments_from l.low (map view (drop l.arrival-index l.arrivals)) ≡ have_moments_from 0 (map view l.arrivals)
