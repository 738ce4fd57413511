use Rattle.std.proofs.Common.{rules}
use Rattle.std.proofs.lemmas.List.Sorted.{IsNonDecreasingBy-from_sort_by_key}
use Rattle.elf_image.proofs.spans.in_order.Goals as goal

pub returns : goal.returns
returns c = record {
  same = rw (← c.in_ok-spans.ensures) c.sort_unstable_by_key.ensures.permutation;
  rises = IsNonDecreasingBy-from_sort_by_key (λ span. span.address) _ c.sort_unstable_by_key.ensures.sorted (λ a r q k. search rules);
}
