use Rattle.std.proofs.Common.{◌≡◌, map, filter, take}
use Rattle.rv32_machine.specs.Working.Parts.{filled, has_addresses}
use Rattle.rv32_machine.proofs.store.parts_of.Given as goal

abbrev pub invariant-loop-segment : goal.invariant-loop-segment
invariant-loop-segment l = l.parts.items ≡ map filled (filter has_addresses (take l.segment-index l.segments))
