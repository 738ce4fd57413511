-- Writing the symbols of a plain file one by one.
use Rattle.std.proofs.Common.{◌≡◌, ℕ, suc, ◌+◌, ◌<◌, List, ◌∷◌, ◌++◌, length, get_or, drop, flat_map, sym, ◌∙◌, ap, add-one, drop-cons, append_assoc, add_assoc}
use Rattle.elf_image.specs.Plain.{symbol_bytes, entries_from}
use Rattle.elf_image.specs.declared.symbol.Symbol.{Symbol}

rest_at : (symbols : List Symbol) (i : ℕ) (s : Symbol) → i < length symbols → s ≡ get_or symbols i s → drop i symbols ≡ s ∷ drop (i + 1) symbols
rest_at symbols i s below is = rw add-one (drop-cons symbols i s below ∙ ap (λ x. x ∷ drop (suc i) symbols) (sym is))

pub symbols-step : (old new : List ℕ) (place i : ℕ) (symbols : List Symbol) (s : Symbol) → i < length symbols → s ≡ get_or symbols i s
    → new ≡ old ++ symbol_bytes (record { place = place; value = s.value })
    → new ++ flat_map symbol_bytes (entries_from (place + (length s.name + 1)) (drop (i + 1) symbols))
    ≡ old ++ flat_map symbol_bytes (entries_from place (drop i symbols))
symbols-step old new place i symbols s below is pushed =
    ap (λ xs. xs ++ flat_map symbol_bytes (entries_from (place + (length s.name + 1)) (drop (i + 1) symbols))) pushed
    ∙ append_assoc old (symbol_bytes (record { place = place; value = s.value })) _
    ∙ ap (λ n. old ++ (symbol_bytes (record { place = place; value = s.value }) ++ flat_map symbol_bytes (entries_from n (drop (i + 1) symbols)))) (sym (add_assoc place (length s.name) 1))
    ∙ ap (λ left. old ++ flat_map symbol_bytes (entries_from place left)) (sym (rest_at symbols i s below is))
