use Rattle.std.proofs.Common.{◌≡◌, ℕ, ◌+◌, ℤ, List, [], ◌∷◌, ◌++◌, map, take, unsigned_abs, Some, refl, ap, ◌∙◌}
use Rattle.std.specs.Prelude.{slice_get}
use Rattle.std.specs.Int.{w128}
use Rattle.std.proofs.lemmas.Int.{to_z-of_z}
use Rattle.std.proofs.lemmas.List.{take_more, map-append}
use Rattle.std.proofs.lemmas.Option.{slice_get_within, get_or_from_slice_get}
use mir.Val.{SFits}
use Rattle.whole_rows.proofs.Combinations.{fits_from_range}
use Rattle.bound_commands.proofs.solving.magnitudes.Goals as goal

-- one more magnitude
one_more : (row : List ℤ) (place : ℕ) (entry : ℤ) (before after : List ℕ) → slice_get row place ≡ Some entry
    → before ≡ map unsigned_abs (take place row) → after ≡ before ++ unsigned_abs entry ∷ [] → after ≡ map unsigned_abs (take (place + 1) row)
one_more row place entry before after here so_far adds =
    rw (adds, so_far, take_more row place entry (slice_get_within row place entry here), map-append, get_or_from_slice_get row place entry entry here) refl

pub loop-place-preserved : goal.loop-place-preserved
loop-place-preserved c =
    let fits : SFits w128 c.get.result = fits_from_range c.get.result c.get.ensures.in_range in
    let magnitude = simp to_z-of_z at c.unsigned_abs.ensures.value in
    let adds = c.in_ok-push.ensures.ok ∙ ap (λ (n : ℕ). c.loop-place.numbers ++ n ∷ []) magnitude in
    one_more c.args.row.now c.loop-place.place c.get.result c.loop-place.numbers c.push.new.self c.get.ensures.value c.loop-place.invariant adds
