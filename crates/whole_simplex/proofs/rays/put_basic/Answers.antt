-- The entry is the product of the definition.
use Rattle.std.proofs.Common.{◌≡◌, ◌<◌, ℤ, neg_ℤ, ◌*ℤ◌, length, [], set, get_or, ℕ, ap, ◌∙◌, sym, refl, subst, rules}
use Rattle.std.specs.Prelude.{int_div}
use Rattle.std.specs.Int.{w128}
use Rattle.std.proofs.lemmas.Int.{to_z-of_z}
use Rattle.std.proofs.lemmas.List.Elements.{All-set}
use mir.Val.{SFits}
use Rattle.whole_rows.specs.Row.{IsInRange}
use Rattle.whole_rows.proofs.Combinations.{fits_from_range}
use Rattle.whole_rows.specs.declared.row.RowFault.TheVariants.{Wide}
use Rattle.whole_simplex.specs.Faults.{IsFaultOf}
use Rattle.whole_simplex.specs.Outcome.{AreNarrow, falling, share}
use Rattle.whole_simplex.proofs.FaultLemmas.{product_fault, product_narrow}
use Rattle.whole_simplex.proofs.Multiples.{column_pairs}
use Rattle.whole_simplex.proofs.rays.put_basic.Goals as goal

pub returns-in-Ok-clause-value : goal.returns-in-Ok-clause-value
returns-in-Ok-clause-value c =
    let line = c.args.line.now in
    let e : SFits w128 c.entry.result = fits_from_range c.entry.result c.entry.ensures.in_range in
    let n : SFits w128 c.negated-falling.result = fits_from_range c.negated-falling.result c.negated-falling.ensures.in_range in
    let neg : c.negated-falling.result ≡ neg_ℤ c.entry.result = simp to_z-of_z at c.negated-falling.ensures.value in
    let o : SFits w128 c.entry-2.result = fits_from_range c.entry-2.result c.entry-2.ensures.in_range in
    let m : SFits w128 c.args.multiple = c.ranges.multiple in
    let q_fits : SFits w128 c.quotient-share.result = search rules in
    let below : line.basic < length c.args.ray.now = search rules in
    let q : c.quotient-share.result ≡ int_div c.args.multiple c.entry-2.result = simp to_z-of_z at c.quotient-share.ensures in
    let both : (c.in-Ok.value ≡ c.negated-falling.result *ℤ c.quotient-share.result) × IsInRange c.in-Ok.value = simp to_z-of_z at c.in-Ok.ensures in
    let v_fits : SFits w128 c.in-Ok.value = fits_from_range c.in-Ok.value both.1 in
    let is : c.in-Ok.value ≡ falling c.args.place line *ℤ share c.args.multiple line =
    both.0 ∙ ap (λ z. z *ℤ c.quotient-share.result) (neg ∙ ap neg_ℤ c.entry.ensures.value)
    ∙ ap (λ z. falling c.args.place line *ℤ z) (q ∙ ap (λ z. int_div c.args.multiple z) c.entry-2.ensures.value) in (
      ap (λ z. set c.args.ray.now line.basic z) (to_z-of_z w128 c.in-Ok.value v_fits ∙ is),
      subst AreNarrow (sym (column_pairs (length c.args.ray.now) c.args.place c.args.multiple line below))
          (product_narrow (falling c.args.place line) (share c.args.multiple line) [] (subst IsInRange is both.1) refl),
    )

pub returns-in-Ok-clause-in_range : goal.returns-in-Ok-clause-in_range
returns-in-Ok-clause-in_range c =
    let both = c.in-Ok.ensures.1 in
    let v_fits : SFits w128 c.in-Ok.value = fits_from_range c.in-Ok.value both in
    subst (λ z. (k : ℕ) (d : ℤ) → k < length (set c.args.ray.now c.args.line.now.basic z) → IsInRange (get_or (set c.args.ray.now c.args.line.now.basic z) k d)) (sym (to_z-of_z w128 c.in-Ok.value v_fits))
    (All-set IsInRange c.args.ray.now c.args.line.now.basic c.in-Ok.value both c.requires.in_range)

pub returns-in-Err-clause-value : goal.returns-in-Err-clause-value
returns-in-Err-clause-value c =
    let line = c.args.line.now in
    let e : SFits w128 c.entry.result = fits_from_range c.entry.result c.entry.ensures.in_range in
    let n : SFits w128 c.negated-falling.result = fits_from_range c.negated-falling.result c.negated-falling.ensures.in_range in
    let neg : c.negated-falling.result ≡ neg_ℤ c.entry.result = simp to_z-of_z at c.negated-falling.ensures.value in
    let o : SFits w128 c.entry-2.result = fits_from_range c.entry-2.result c.entry-2.ensures.in_range in
    let m : SFits w128 c.args.multiple = c.ranges.multiple in
    let q_fits : SFits w128 c.quotient-share.result = search rules in
    let below : line.basic < length c.args.ray.now = search rules in
    let q : c.quotient-share.result ≡ int_div c.args.multiple c.entry-2.result = simp to_z-of_z at c.quotient-share.ensures in
    let both : (c.in-Err.fault ≡ Wide c.negated-falling.result c.quotient-share.result) × (IsInRange (c.negated-falling.result *ℤ c.quotient-share.result) → ⊥) = simp to_z-of_z at c.in-Err.ensures in
    let f : c.negated-falling.result ≡ falling c.args.place line = neg ∙ ap neg_ℤ c.entry.ensures.value in
    let s : c.quotient-share.result ≡ share c.args.multiple line = q ∙ ap (λ z. int_div c.args.multiple z) c.entry-2.ensures.value in
    subst (λ pairs. IsFaultOf pairs c.in-Err.fault) (sym (column_pairs (length c.args.ray.now) c.args.place c.args.multiple line below))
    (product_fault (falling c.args.place line) (share c.args.multiple line) [] c.in-Err.fault
    (rw (← f, ← s) both.0) (rw (← f, ← s) both.1))
