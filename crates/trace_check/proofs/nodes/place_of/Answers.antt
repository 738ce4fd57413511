use Rattle.std.proofs.Common.{sym, refl, []}
use Rattle.flow_graph.proofs.Numbers.{found_there, not_missed}
use Rattle.shadow_runs.proofs.Finding.{found_at}
use Rattle.trace_check.proofs.NodePlaces.{not_among}
use Rattle.trace_check.proofs.nodes.place_of.Goals as goal

pub returns-in-Ok : goal.returns-in-Ok
returns-in-Ok c =
    let node = c.args.node.now in
    sym (found_at c.args.nodes.now node.context (record { registers = []; place = node.address; calls = node.sites }) c.in-Ok.place node c.requires
    (found_there _ _ _ c.in-Ok.ensures.bound c.in-Ok.ensures.ok) refl refl refl)

pub returns-in-Err : goal.returns-in-Err
returns-in-Err c = not_among c.args.nodes.now c.args.node.now (λ listed. not_missed _ _ _ c.requires listed c.in-Err.ensures.position)
