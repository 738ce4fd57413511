-- What `cut` answers.
use Rattle.std.specs.Prelude.{◌≡◌, ℕ, ◌<◌, ◌≤◌, List, length, Result, Ok, Err}
use Rattle.flow_graph.specs.declared.flow.Flow.{Flow}
use Rattle.wcet_atomic_blocks.specs.declared.block.Blocks.{Blocks}
use Rattle.wcet_atomic_blocks.specs.declared.fault.BlockFault.{BlockFault}
use Rattle.wcet_atomic_blocks.specs.declared.fault.BlockFault.TheVariants.{Limit, Memory}
use Rattle.wcet_atomic_blocks.specs.Blocks.{IsCut, beginnings}

abbrev pub block_count : Flow → List ℕ → ℕ
block_count flow entries = length (beginnings flow entries)

-- The blocks, or their number where there are more than 4,095. Want of memory alone is free.
abbrev pub IsAnswer : Flow → List ℕ → Result Blocks BlockFault → Type 0
IsAnswer flow entries (Ok blocks) = IsCut flow entries blocks × (block_count flow entries ≤ 4095)
IsAnswer flow entries (Err (Limit count)) = (count ≡ block_count flow entries) × (4095 < count)
IsAnswer flow entries (Err Memory) = Unit {0}
