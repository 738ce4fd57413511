-- The bound is that of the entries.
use Rattle.std.proofs.Common.{◌-◌, ◌^◌, List, ℤ, sym, ◌∙◌, subst, arith}
use Rattle.whole_simplex.specs.Sizes.{AreSmall, AreWithin}
use Rattle.whole_simplex.proofs.Subtracting.{small_is_within}
use Rattle.whole_simplex.proofs.entries.Entries.from_row.Goals as goal

pub invariant_of-result : goal.invariant_of-result
invariant_of-result c =
    let read = c.in_ok-narrow.ensures c.in-Some.narrow c.in-Some.is in
    let small : AreSmall c.as_slice.result.now = subst AreSmall (sym (c.as_slice.ensures.value ∙ read.0)) read.1 in (
      subst (λ (l : List ℤ). AreWithin c.largest-bound.result l) c.as_slice.ensures.value c.largest-bound.ensures.bound,
      omega (arith, c.largest-bound.ensures.least (2 ^ 63 - 1) (small_is_within c.as_slice.result.now small)),
    )
