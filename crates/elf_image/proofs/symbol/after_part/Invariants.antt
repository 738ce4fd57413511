use Rattle.std.proofs.Common.{◌≡◌, ◌==◌, ◌++◌, List, ℕ, not, take_while, bytes_eq, drop}
use Rattle.elf_image.proofs.symbol.after_part.Given as goal

-- behind the bytes that agree, the rest of the text is compared with the rest of the part
abbrev pub invariant-loop-i : goal.invariant-loop-i
invariant-loop-i l =
    (more : List ℕ)
    → bytes_eq (take_while (λ byte. not (byte == 0)) l.text) (l.part ++ more)
    ≡ bytes_eq (take_while (λ byte. not (byte == 0)) (drop l.i l.text)) (drop l.i l.part ++ more)
