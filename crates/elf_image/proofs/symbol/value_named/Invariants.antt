use Rattle.std.proofs.Common.{◌≡◌, ◌++◌, false, ℕ, ◌<◌, get_or, bytes_eq}
use Rattle.elf_image.specs.Image.{name_at}
use Rattle.elf_image.specs.declared.symbol.Entry.{Entry}
use Rattle.elf_image.proofs.symbol.value_named.Given as goal

-- no entry so far has the name
abbrev pub invariant-loop-entry : goal.invariant-loop-entry
invariant-loop-entry l =
    (k : ℕ) (d : Entry) → k < l.entry-index → bytes_eq (name_at l.names (get_or l.entries k d).place) (l.prefix ++ l.name) ≡ false
