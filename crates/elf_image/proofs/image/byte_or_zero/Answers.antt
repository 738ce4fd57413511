use Rattle.std.proofs.Common.{Some, None, [], refl, sym, ◌∙◌, ap, unwrap_or, arith}
use Rattle.std.proofs.lemmas.List.Recursion.{found_at, found_nowhere}
use Rattle.elf_image.specs.Image.{covers, byte_in, initial_byte}
use Rattle.elf_image.proofs.image.byte_or_zero.Goals as goal

pub returns-then-covers : goal.returns-then-covers
returns-then-covers c =
    c.byte.ensures
    ∙ ap (λ segment. byte_in segment c.args.address) c.segment-item.is
    ∙ ap (λ found. unwrap_or found 0)
    (sym
    (found_at (λ memory. initial_byte memory c.args.address) (λ segment. covers segment c.args.address)
    (λ segment. Some (byte_in segment c.args.address)) None refl (λ _ _. refl) c.args.memory.now c.loop-segment.segment-index
    c.segment-item.result c.loop-segment-test.true (λ k below. c.loop-segment.invariant k _ below)
    (ap (λ segment. covers segment c.args.address) (sym c.segment-item.is) ∙ sym c.covers.ensures ∙ c.if-covers.true)))

pub returns : goal.returns
returns c =
    ap (λ found. unwrap_or found 0)
    (sym
    (found_nowhere (λ memory. initial_byte memory c.args.address) (λ segment. covers segment c.args.address)
    (λ segment. Some (byte_in segment c.args.address)) None refl (λ _ _. refl) c.args.memory.now
    (record { address = 0; bytes = []; size = 0 }) (λ k below. c.loop-segment.invariant k _ (omega arith))))
