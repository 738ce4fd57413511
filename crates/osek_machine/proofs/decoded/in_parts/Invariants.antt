use Rattle.std.proofs.Common.{◌≡◌, drop}
use Rattle.osek_machine.specs.Decoded.{in_parts}
use Rattle.osek_machine.proofs.decoded.in_parts.Given as goal

abbrev pub invariant-loop-part : goal.invariant-loop-part
invariant-loop-part l = in_parts l.parts l.word ≡ in_parts (drop l.part-index l.parts) l.word
