use Rattle.std.proofs.Common.{◌≡◌, ◌++◌, ◌+◌, ◌*◌, ◌^◌, ◌<◌, ◌≤◌, drop, take, flat_map, All}
use Rattle.elf_image.specs.Plain.{symbol_bytes, entries_from}
use Rattle.elf_image.proofs.plain.put_symbols.Given as goal

-- with the symbols that are left it is whole
abbrev pub invariant-loop-symbol : goal.invariant-loop-symbol
invariant-loop-symbol l = record {
  whole : l.file.items ++ flat_map symbol_bytes (entries_from l.place (drop l.symbol-index l.symbols))
      ≡ l.initial.file.items ++ flat_map symbol_bytes (entries_from 23 l.symbols);
  near : l.place ≤ 23 + 65 * l.symbol-index;
  values : All (λ symbol. symbol.value < 2 ^ 32) (take l.symbol-index l.symbols);
}
