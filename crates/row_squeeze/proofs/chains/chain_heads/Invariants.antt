use Rattle.std.proofs.Common.{◌≡◌, [], take}
use Rattle.std.specs.List.{fold}
use Rattle.row_squeeze.specs.Chains.{with_head}
use Rattle.row_squeeze.proofs.chains.chain_heads.Given as goal

abbrev pub invariant-loop-head : goal.invariant-loop-head
invariant-loop-head l = l.chain_heads.items ≡ fold with_head [] (take l.head-index l.heads)
