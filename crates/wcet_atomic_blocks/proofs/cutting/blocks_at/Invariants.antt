use Rattle.std.proofs.Common.{◌≡◌, take, map}
use Rattle.std.specs.Prelude.{All}
use Rattle.wcet_atomic_blocks.specs.Blocks.{IsBlock}
use Rattle.wcet_atomic_blocks.proofs.cutting.blocks_at.Given as goal

abbrev pub invariant-loop-begin : goal.invariant-loop-begin
invariant-loop-begin l = record {
  begins : map (λ b. b.begin) l.blocks ≡ take l.begin-index l.begins;
  blocks : All (IsBlock l.flow) l.blocks;
}
