-- The parts in the order of their addresses are the memory of the image.
use Rattle.std.proofs.Common.{◌∙◌, ap, subst, map, filter, rules}
use Rattle.std.specs.Prelude.{IsPermutation}
use Rattle.std.proofs.lemmas.List.Sorted.{IsNonDecreasingBy-from_sort_by_key}
use Rattle.rv32_machine.specs.Working.Parts.{filled, has_addresses}
use Rattle.rv32_machine.proofs.LoadLaws.{same_memory, loaded_kept}
use Rattle.rv32_machine.proofs.store.Store.load.Goals as goal

pub invariant_of-result : goal.invariant_of-result
invariant_of-result c =
    let made = c.in_ok-parts.ensures ∙ ap (λ m. map filled (filter has_addresses m)) c.memory.ensures in
    loaded_kept c.args.image.now c.sort_unstable_by_key.new.self.items c.is_lawful.ensures
    (subst (λ ps. IsPermutation ps c.sort_unstable_by_key.new.self.items) made c.sort_unstable_by_key.ensures.permutation)
    (IsNonDecreasingBy-from_sort_by_key (λ part. part.address) _ c.sort_unstable_by_key.ensures.sorted (λ a r q k. search rules))

pub returns : goal.returns
returns c =
    let made = c.in_ok-parts.ensures ∙ ap (λ m. map filled (filter has_addresses m)) c.memory.ensures in
    same_memory c.args.image.now c.sort_unstable_by_key.new.self.items c.is_lawful.ensures
    (subst (λ ps. IsPermutation ps c.sort_unstable_by_key.new.self.items) made c.sort_unstable_by_key.ensures.permutation)
