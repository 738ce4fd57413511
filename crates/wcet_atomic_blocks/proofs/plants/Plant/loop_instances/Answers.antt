use Rattle.std.proofs.Common.{sym}
use Rattle.flow_graph.specs.Graph.{program_of}
use Rattle.flow_graph.specs.Judging.{IsLeaving}
use Rattle.wcet_atomic_blocks.proofs.GraphFacts.{zip_length}
use Rattle.wcet_atomic_blocks.proofs.plants.Plant.loop_instances.Goals as goal

pub loop_instances-requires : goal.loop_instances-requires
loop_instances-requires c =
    let plant = c.self.inside in let graph = c.self.invariant.graph.graph in
    let leaving = zip_length (IsLeaving (program_of plant.image plant.system plant.timing) plant.flow.nodes) plant.flow.nodes plant.flow.leaving graph.leaving
    in
    record { leaving = sym leaving; order = graph.nodes.are.order }
