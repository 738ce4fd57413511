-- Decoded code, word by word, in parts. Words are counted from address 0.
use Rattle.std.specs.Prelude.{ℕ, ◌-◌, ◌/◌, ◌%◌, ◌==◌, ◌&&◌, nat_le, nat_lt, Bool, List, [], ◌∷◌, length, Option, None, slice_index_or, if◌then◌else◌}
use Rattle.rv32_decode.specs.declared.instruction.Insn.{Insn}
use Rattle.osek_machine.specs.declared.decoded.Part.{Part}

-- whether the part has the word
abbrev pub has_here : Part → ℕ → Bool
has_here part word = nat_le part.first word && nat_lt (word - part.first) (length part.insns.items)

-- what the first part that has the word has there
abbrev pub in_parts : List Part → ℕ → Option Insn
in_parts [] word = None
in_parts (part ∷ parts) word =
    if has_here part word then slice_index_or part.insns.items (word - part.first) None else in_parts parts word

-- what stands at the address
abbrev pub looked_up : List Part → ℕ → Option Insn
looked_up parts address = if address % 4 == 0 then in_parts parts (address / 4) else None
