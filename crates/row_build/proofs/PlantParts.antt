-- The parts of a plant.
use Rattle.std.proofs.Common.{◌≡◌, length, sym}
use Rattle.flow_graph.specs.Graph.{program_of}
use Rattle.flow_graph.specs.Judging.{IsLeaving}
use Rattle.wcet_atomic_blocks.specs.Plants.{PlantData, IsPlant}
use Rattle.wcet_atomic_blocks.proofs.GraphFacts.{zip_length}

-- what leaves each node is known
pub leaving_count : (plant : PlantData) → IsPlant plant → length plant.flow.leaving ≡ length plant.flow.nodes
leaving_count plant is =
    sym (zip_length (IsLeaving (program_of plant.image plant.system plant.timing) plant.flow.nodes) plant.flow.nodes plant.flow.leaving is.graph.graph.leaving)
