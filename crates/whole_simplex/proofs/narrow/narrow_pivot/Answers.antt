-- The bound is that of the entries.
use Rattle.std.proofs.Common.{◌≡◌, ◌-◌, ◌^◌, List, ℤ, ap, ◌∙◌, sym, subst, arith}
use Rattle.whole_simplex.specs.Places.{places_of}
use Rattle.whole_simplex.specs.Sizes.{AreWithin}
use Rattle.whole_simplex.proofs.Subtracting.{small_is_within}
use Rattle.whole_simplex.proofs.narrow.narrow_pivot.Goals as goal

pub returns : goal.returns
returns c =
    let same : c.in_ok-entries.entries.items ≡ c.args.entries.now = c.in_ok-entries.ensures.items in (
      same,
      record {
        places_are = c.in_ok-places.ensures ∙ ap places_of (sym same);
        within = subst (λ (l : List ℤ). AreWithin c.largest-bound.result l) (sym same) c.largest-bound.ensures.bound;
        small = omega (arith, c.largest-bound.ensures.least (2 ^ 63 - 1) (small_is_within c.args.entries.now c.requires));
      },
    )
