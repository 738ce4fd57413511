use Rattle.std.proofs.Common.{ℕ, ◌-◌, ◌≡◌, [], List, ◌++◌, sym, ◌∙◌, ap, length, take, drop, bytes_eq, append-nil}
use Rattle.std.proofs.lemmas.Bool.{eqb-true, eqb-false}
use Rattle.std.proofs.lemmas.List.{take_rest}
use Rattle.elf_image.proofs.Names.{front, ends_with_text, ends_at_zero}
use Rattle.elf_image.proofs.symbol.is_named.Goals as goal

-- the name at the place is the front of what stands from there on
at_place : (names : List ℕ) (place : ℕ) (word : List ℕ) → bytes_eq (front (take (length names - place) (drop place names))) word ≡ bytes_eq (front (drop place names)) word
at_place names place word = ap (λ text. bytes_eq (front text) word) (take_rest names place)

pub returns-then-is_empty-2 : goal.returns-then-is_empty-2
returns-then-is_empty-2 c =
    c.if-is_empty-2.true ∙ sym (ends_with_text c.in-Some-after_part.rest.now (eqb-true _ _ (sym c.if-is_empty-2.ensures)))
    ∙ sym (c.in-Some-after_part.ensures []) ∙ ap (bytes_eq (front c.in-Some.rest.now)) (append-nil c.args.name.now)
    ∙ sym (c.in-Some.ensures c.args.name.now) ∙ at_place c.args.names.now c.args.place (c.args.prefix.now ++ c.args.name.now)

pub returns-else-is_empty-2 : goal.returns-else-is_empty-2
returns-else-is_empty-2 c =
    ends_at_zero c.in-Some-after_part.rest.now (eqb-false _ _ (sym c.if-is_empty-2.ensures))
    ∙ sym (c.in-Some-after_part.ensures []) ∙ ap (bytes_eq (front c.in-Some.rest.now)) (append-nil c.args.name.now)
    ∙ sym (c.in-Some.ensures c.args.name.now) ∙ at_place c.args.names.now c.args.place (c.args.prefix.now ++ c.args.name.now)

pub returns-in-None-after_part : goal.returns-in-None-after_part
returns-in-None-after_part c =
    sym (c.in-None-after_part.ensures []) ∙ ap (bytes_eq (front c.in-Some.rest.now)) (append-nil c.args.name.now)
    ∙ sym (c.in-Some.ensures c.args.name.now) ∙ at_place c.args.names.now c.args.place (c.args.prefix.now ++ c.args.name.now)
