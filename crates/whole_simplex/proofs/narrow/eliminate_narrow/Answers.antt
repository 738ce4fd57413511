-- The combination of the parts has the primitive row of the whole combination.
use Rattle.std.proofs.Common.{◌≡◌, ◌≢◌, ◌<◌, ◌≤◌, ◌^◌, List, ℕ, ℤ, pos, length, get_or, refl, sym, ap, ◌∙◌, subst, rules, arith}
use Rattle.std.specs.Prelude.{unsigned_abs, int_div}
use Rattle.std.specs.Int.{w64}
use Rattle.std.proofs.lemmas.Int.{to_z-of_z}
use Rattle.std.proofs.lemmas.List.{get_or_default}
use mir.Val.{SFits, to_z, of_z}
use Rattle.whole_rows.specs.Row.{nat_gcd, primitive_of}
use Rattle.whole_simplex.specs.Sizes.{AreWithin}
use Rattle.whole_simplex.specs.Tables.{entry}
use Rattle.whole_simplex.proofs.Scaled.{eliminated_shared, shared_above, shared_small}
use Rattle.whole_simplex.proofs.Subtracting.{combined_within}
use Rattle.whole_simplex.proofs.narrow.eliminate_narrow.Goals as goal

-- the divisor of the entries at the entering place
record IsShared (x y : ℤ) (d : ℕ) : Type 0 where
  is : d ≡ nat_gcd (unsigned_abs x) (unsigned_abs y)
  above : 0 < d
  small : d < 2 ^ 63

is_shared : (x y : ℤ) (a p d bound : ℕ) → x ≢ pos 0 → unsigned_abs x ≤ bound → bound < 2 ^ 63 → a ≡ unsigned_abs x → p ≡ unsigned_abs y → d ≡ nat_gcd a p → IsShared x y d
is_shared x y a p d bound apart within small at_a at_p at_d =
    let is : d ≡ nat_gcd (unsigned_abs x) (unsigned_abs y) = at_d ∙ ap (λ s. nat_gcd s p) at_a ∙ ap (λ s. nat_gcd (unsigned_abs x) s) at_p in
    record {
      is = is;
      above = subst (λ (g : ℕ). 0 < g) (sym is) (shared_above x (unsigned_abs y) apart);
      small = omega (arith, is, shared_small x (unsigned_abs y) apart);
    }

pub quotient-p-requires-clause-above : goal.quotient-p-requires-clause-above
quotient-p-requires-clause-above c =
    let x_fits : SFits w64 (get_or c.args.row.now c.args.place (pos 0)) = search rules in
    let y_fits : SFits w64 c.index.result.now = search rules in
    let at_a : c.unsigned_abs.result ≡ unsigned_abs (get_or c.args.row.now c.args.place (pos 0)) = simp to_z-of_z at c.unsigned_abs.ensures.value in
    let at_p : c.unsigned_abs-2.result ≡ unsigned_abs c.index.result.now = simp to_z-of_z at c.unsigned_abs-2.ensures.value in
    (is_shared (get_or c.args.row.now c.args.place (pos 0)) c.index.result.now c.unsigned_abs.result c.unsigned_abs-2.result c.narrow_gcd-divisor.result c.args.bound c.requires.entry (c.requires.within c.args.place (pos 0) c.requires.place) c.requires.small at_a at_p c.narrow_gcd-divisor.ensures).above

pub quotient-p-requires-clause-small : goal.quotient-p-requires-clause-small
quotient-p-requires-clause-small c =
    let x_fits : SFits w64 (get_or c.args.row.now c.args.place (pos 0)) = search rules in
    let y_fits : SFits w64 c.index.result.now = search rules in
    let at_a : c.unsigned_abs.result ≡ unsigned_abs (get_or c.args.row.now c.args.place (pos 0)) = simp to_z-of_z at c.unsigned_abs.ensures.value in
    let at_p : c.unsigned_abs-2.result ≡ unsigned_abs c.index.result.now = simp to_z-of_z at c.unsigned_abs-2.ensures.value in
    (is_shared (get_or c.args.row.now c.args.place (pos 0)) c.index.result.now c.unsigned_abs.result c.unsigned_abs-2.result c.narrow_gcd-divisor.result c.args.bound c.requires.entry (c.requires.within c.args.place (pos 0) c.requires.place) c.requires.small at_a at_p c.narrow_gcd-divisor.ensures).small

pub quotient-a-requires-clause-above : goal.quotient-a-requires-clause-above
quotient-a-requires-clause-above c =
    let x_fits : SFits w64 (get_or c.args.row.now c.args.place (pos 0)) = search rules in
    let y_fits : SFits w64 c.index.result.now = search rules in
    let at_a : c.unsigned_abs.result ≡ unsigned_abs (get_or c.args.row.now c.args.place (pos 0)) = simp to_z-of_z at c.unsigned_abs.ensures.value in
    let at_p : c.unsigned_abs-2.result ≡ unsigned_abs c.index.result.now = simp to_z-of_z at c.unsigned_abs-2.ensures.value in
    (is_shared (get_or c.args.row.now c.args.place (pos 0)) c.index.result.now c.unsigned_abs.result c.unsigned_abs-2.result c.narrow_gcd-divisor.result c.args.bound c.requires.entry (c.requires.within c.args.place (pos 0) c.requires.place) c.requires.small at_a at_p c.narrow_gcd-divisor.ensures).above

pub quotient-a-requires-clause-small : goal.quotient-a-requires-clause-small
quotient-a-requires-clause-small c =
    let x_fits : SFits w64 (get_or c.args.row.now c.args.place (pos 0)) = search rules in
    let y_fits : SFits w64 c.index.result.now = search rules in
    let at_a : c.unsigned_abs.result ≡ unsigned_abs (get_or c.args.row.now c.args.place (pos 0)) = simp to_z-of_z at c.unsigned_abs.ensures.value in
    let at_p : c.unsigned_abs-2.result ≡ unsigned_abs c.index.result.now = simp to_z-of_z at c.unsigned_abs-2.ensures.value in
    (is_shared (get_or c.args.row.now c.args.place (pos 0)) c.index.result.now c.unsigned_abs.result c.unsigned_abs-2.result c.narrow_gcd-divisor.result c.args.bound c.requires.entry (c.requires.within c.args.place (pos 0) c.requires.place) c.requires.small at_a at_p c.narrow_gcd-divisor.ensures).small

pub combine-requires-clause-limit : goal.combine-requires-clause-limit
combine-requires-clause-limit c =
    let limit = c.in_ok-limit.ensures c.in_ok-limit.limit refl in
    λ k d h. omega (arith, limit.0, limit.1 k d h)

pub reduce-requires-clause-within : goal.reduce-requires-clause-within
reduce-requires-clause-within c =
    let limit = c.in_ok-limit.ensures c.in_ok-limit.limit refl in
    subst (λ (r : List ℤ). AreWithin c.in_ok-limit.limit r) (sym c.combine.ensures)
    (combined_within (to_z w64 (of_z w64 c.quotient-p.result)) (to_z w64 (of_z w64 c.quotient-a.result)) c.args.row.now c.args.pivot.now.entries.items c.args.pivot.now.bound c.in_ok-limit.limit limit.1 c.requires.pivot.within)

pub returns : goal.returns
returns c =
    let row = c.args.row.now in
    let pivot = c.args.pivot.now.entries.items in
    let x_fits : SFits w64 (get_or c.args.row.now c.args.place (pos 0)) = search rules in
    let y_fits : SFits w64 c.index.result.now = search rules in
    let z_fits : SFits w64 c.index-2.result.now = search rules in
    let p_fits : SFits w64 c.quotient-p.result = search rules in
    let a_fits : SFits w64 c.quotient-a.result = search rules in
    let within : c.args.place < length pivot = omega (arith, c.requires.place, c.requires.same) in
    let at_y : c.index.result.now ≡ entry pivot c.args.place = c.index.ensures ∙ get_or_default pivot c.args.place c.index.result.now (pos 0) within in
    let at_z : c.index-2.result.now ≡ entry pivot c.args.place = c.index-2.ensures ∙ get_or_default pivot c.args.place c.index-2.result.now (pos 0) within in
    let size_a : c.unsigned_abs.result ≡ unsigned_abs (get_or c.args.row.now c.args.place (pos 0)) = simp to_z-of_z at c.unsigned_abs.ensures.value in
    let size_p : c.unsigned_abs-2.result ≡ unsigned_abs c.index.result.now = simp to_z-of_z at c.unsigned_abs-2.ensures.value in
    let shared = is_shared (get_or c.args.row.now c.args.place (pos 0)) (entry pivot c.args.place) c.unsigned_abs.result c.unsigned_abs-2.result c.narrow_gcd-divisor.result c.args.bound c.requires.entry (c.requires.within c.args.place (pos 0) c.requires.place) c.requires.small size_a (size_p ∙ ap unsigned_abs at_y) c.narrow_gcd-divisor.ensures in
    let part_p : c.quotient-p.result ≡ int_div c.index-2.result.now (pos c.narrow_gcd-divisor.result) = simp to_z-of_z at c.quotient-p.ensures in
    let part_a : c.quotient-a.result ≡ int_div (get_or c.args.row.now c.args.place (pos 0)) (pos c.narrow_gcd-divisor.result) = simp to_z-of_z at c.quotient-a.ensures in (
      eliminated_shared c.args.place c.narrow_gcd-divisor.result pivot row c.reduce.new.row (to_z w64 (of_z w64 c.quotient-p.result)) (to_z w64 (of_z w64 c.quotient-a.result)) c.requires.entry shared.is
          (to_z-of_z w64 c.quotient-p.result p_fits ∙ part_p ∙ ap (λ (z : ℤ). int_div z (pos c.narrow_gcd-divisor.result)) at_z)
          (to_z-of_z w64 c.quotient-a.result a_fits ∙ part_a)
          (c.reduce.ensures.primitive ∙ ap primitive_of c.combine.ensures),
      c.reduce.ensures.within,
      c.reduce.ensures.small,
    )
