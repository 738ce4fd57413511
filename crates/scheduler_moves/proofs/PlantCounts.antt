-- How long the lists of a plant are.
use Rattle.std.proofs.Common.{◌≡◌, ℕ, zero, suc, length, ◌∙◌, refl, ap}
use Rattle.elf_image.specs.Image.{ImageData}
use Rattle.oil_model.specs.declared.system.System.{System}
use Rattle.osek_kernel.specs.Contexts.{context_count}
use Rattle.flow_graph.specs.Graph.{entries_from}
use Rattle.wcet_atomic_blocks.specs.Plants.{PlantData, IsPlant}

entries_long : (image : ImageData) (system : System) (place count : ℕ) → length (entries_from image system place count) ≡ count
entries_long image system place zero = refl
entries_long image system place (suc count) = ap suc (entries_long image system (suc place) count)

-- each context has the block of its entry
pub entry_count : (plant : PlantData) → IsPlant plant → length plant.blocks.entries ≡ context_count plant.system
entry_count plant belongs =
    belongs.blocks.cut.entry_count ∙ belongs.blocks.entered.count ∙ entries_long plant.image plant.system 0 (context_count plant.system)

-- each node has a block behind it, or none
pub after_count : (plant : PlantData) → IsPlant plant → length plant.blocks.afters ≡ length plant.flow.nodes
after_count plant belongs = belongs.blocks.cut.after_count
