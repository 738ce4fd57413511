use Rattle.std.proofs.Common.{◌++◌, take}
use Rattle.wcet_io.proofs.InPieces.{Appends_join, written_and_left}
use Rattle.wcet_io.proofs.host_sink.write_whole.Goals as goal

pub loop-rest-preserved : goal.loop-rest-preserved
loop-rest-preserved g c = (
  c.loop-rest.invariant.0 ++ take c.in-Ok.count c.loop-rest.rest.now,
  written_and_left _ _ _ _ c.loop-rest.invariant.1 c.in-Ok.ensures.bound,
  Appends_join _ _ _ _ _ c.loop-rest.invariant.2 c.in-Ok.ensures.bytes,
)
