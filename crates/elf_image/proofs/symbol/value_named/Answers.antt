use Rattle.std.proofs.Common.{◌++◌, Some, None, refl, sym, ◌∙◌, map, bytes_eq, arith}
use Rattle.std.proofs.lemmas.List.Recursion.{found_at, found_nowhere}
use Rattle.elf_image.specs.Image.{name_at, symbol_in, value_of}
use Rattle.elf_image.proofs.symbol.value_named.Goals as goal

pub returns-then-is_named : goal.returns-then-is_named
returns-then-is_named c =
    sym
    (found_at (λ es. value_of (map (symbol_in c.args.names.now) es) (c.args.prefix.now ++ c.args.name.now))
    (λ e. bytes_eq (name_at c.args.names.now e.place) (c.args.prefix.now ++ c.args.name.now)) (λ e. Some e.value) None refl
    (λ _ _. refl) c.args.entries.now c.loop-entry.entry-index (record { place = 0; value = 0 }) c.loop-entry-test.true
    (λ k below. c.loop-entry.invariant k _ below) (sym c.is_named.ensures ∙ c.if-is_named.true))

pub returns : goal.returns
returns c =
    sym
    (found_nowhere (λ es. value_of (map (symbol_in c.args.names.now) es) (c.args.prefix.now ++ c.args.name.now))
    (λ e. bytes_eq (name_at c.args.names.now e.place) (c.args.prefix.now ++ c.args.name.now)) (λ e. Some e.value) None refl
    (λ _ _. refl) c.args.entries.now (record { place = 0; value = 0 })
    (λ k below. c.loop-entry.invariant k _ (omega arith)))
