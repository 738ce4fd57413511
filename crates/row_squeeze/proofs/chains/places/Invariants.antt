use Rattle.std.proofs.Common.{◌≡◌, map, take}
use Rattle.row_squeeze.specs.Chains.{place_of}
use Rattle.row_squeeze.proofs.chains.places.Given as goal

abbrev pub invariant-loop-head : goal.invariant-loop-head
invariant-loop-head l = l.places.items ≡ map (λ head. place_of head l.chain_heads) (take l.head-index l.heads)
