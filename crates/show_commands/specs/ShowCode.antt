-- `show code OIL ELF TIMING`: for each context, in order, the numbers of its nodes, its blocks and its loops. A loop is counted for
-- each string of open calls in which code goes round in it.
use Rattle.std.specs.Prelude.{◌≡◌, ℕ, List, ◌==◌, count_by, codes, unwrap_or, Ok}
use Rattle.std.specs.List.{flat_map, range_with_len}
use Rattle.osek_kernel.specs.Contexts.{context_count}
use Rattle.wcet_atomic_blocks.specs.Loops.{loop_instances}
use Rattle.wcet_atomic_blocks.specs.Plants.{PlantData}
use Rattle.command_steps.specs.Steps.{Calls, Step, Judged, Then}
use Rattle.reports.specs.Code.{context_line}
use Rattle.inputs.specs.Plants.{PlantOf, name_at}

abbrev pub nodes_of : PlantData → ℕ → ℕ
nodes_of plant context = count_by (λ node. node.context == context) plant.flow.nodes

abbrev pub blocks_of : PlantData → ℕ → ℕ
blocks_of plant context = count_by (λ block. block.begin.owner == context) plant.blocks.blocks

abbrev pub loops_of : PlantData → ℕ → ℕ
loops_of plant context =
    count_by (λ l. l.context == context) (loop_instances plant.flow plant.blocks.blocks plant.timing.loops)

abbrev pub line_of : PlantData → ℕ → List ℕ
line_of plant context =
    context_line (unwrap_or (name_at plant.system context) (codes "")) (nodes_of plant context) (blocks_of plant context) (loops_of plant context)

abbrev pub code_text : PlantData → List ℕ
code_text plant = flat_map (line_of plant) (range_with_len 0 (context_count plant.system))

abbrev pub ShowCode : {F : Type 0} → Calls F → List ℕ → List ℕ → List ℕ → Step F (List ℕ)
ShowCode calls oil elf timing = Then (PlantOf calls oil elf timing) (λ plant. Judged (λ given. given ≡ Ok (code_text plant)))
