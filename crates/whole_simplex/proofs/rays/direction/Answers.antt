-- The pairs of the entries follow those of the multiples.
use Rattle.std.proofs.Common.{◌≡◌, ◌∙◌, ℤ, pos, length, set, replicate, subst}
use Rattle.std.proofs.lemmas.Int.{to_z-of_z}
use Rattle.std.specs.Int.{w128}
use mir.Val.{SFits}
use Rattle.whole_rows.proofs.Combinations.{fits_from_range}
use Rattle.whole_simplex.specs.Faults.{IsFaultOf}
use Rattle.whole_simplex.specs.Outcome.{direction_pairs}
use Rattle.whole_simplex.proofs.Multiples.{direction_entry_wide}
use Rattle.whole_simplex.proofs.rays.direction.Goals as goal

pub returns-in-Err-put_basics : goal.returns-in-Err-put_basics
returns-in-Err-put_basics c =
    let m : SFits w128 c.in-Ok.multiple = fits_from_range c.in-Ok.multiple c.in-Ok.ensures.in_range in
    let s : c.in-Ok-started.ray.items ≡ set (replicate c.args.columns (pos 0)) c.args.place c.in-Ok.multiple = simp to_z-of_z at c.in-Ok-started.ensures.value in
    direction_entry_wide c.args.columns c.args.place c.args.lines.now c.in-Ok.multiple c.deref_mut.result.now c.in-Err-put_basics.fault c.in-Ok.ensures.value
    (c.deref_mut.ensures.value ∙ s)
    (subst (λ (z : ℤ). IsFaultOf (direction_pairs (length c.deref_mut.result.now) c.args.place z c.args.lines.now) c.in-Err-put_basics.fault) (to_z-of_z w128 c.in-Ok.multiple m) c.in-Err-put_basics.ensures.value)
