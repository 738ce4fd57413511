-- The answer over three inputs, from that over their code graph.
use Rattle.std.proofs.Common.{Result, Ok, Err}
use Rattle.elf_image.specs.Image.{ImageData}
use Rattle.oil_model.specs.declared.system.System.{System}
use Rattle.timing_file.specs.declared.timing.Timing.{Timing}
use Rattle.flow_graph.specs.declared.flow.Flow.{Flow}
use Rattle.wcet_atomic_blocks.specs.declared.fault.BlockFault.TheVariants as blocks
use Rattle.wcet_atomic_blocks.specs.declared.fault.PlantFault.{PlantFault}
use Rattle.wcet_atomic_blocks.specs.declared.fault.PlantFault.TheVariants.{Code, Block, Memory}
use Rattle.wcet_atomic_blocks.specs.Plants.{PlantData, IsGraphOf}
use Rattle.wcet_atomic_blocks.specs.Planting.{AnswersFlow, IsAnswer}

pub answers_with : (image : ImageData) (system : System) (timing : Timing) (flow : Flow) (answer : Result PlantData PlantFault)
    → IsGraphOf image system timing flow
    → AnswersFlow image system timing flow answer → IsAnswer image system timing answer
answers_with image system timing flow (Ok plant) graph is = is.of
answers_with image system timing flow (Err Memory) graph is = tt
answers_with image system timing flow (Err (Code fault)) graph is = absurd is
answers_with image system timing flow (Err (Block (blocks.Limit count))) graph is = record { flow = flow; graph = graph; many = is }
answers_with image system timing flow (Err (Block blocks.Memory)) graph is = absurd is
