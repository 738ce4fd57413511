use Rattle.flow_graph.proofs.Graphs.{entries_push}
use Rattle.flow_graph.proofs.building.first_entries.Goals as goal

pub loop-place-preserved : goal.loop-place-preserved
loop-place-preserved c =
    entries_push c.args.image.now c.args.system.now c.loop-place.place c.loop-place.entries c.push.new.self c.entry_at.result
    c.loop-place.invariant c.entry_at.ensures c.in_ok-push.ensures.ok
