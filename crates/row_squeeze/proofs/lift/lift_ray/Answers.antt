-- A ray of the squeezed rows is one of the full rows, with each chain's value at its columns.
use Rattle.std.proofs.Common.{◌∙◌}
use Rattle.row_squeeze.proofs.Parts.{places-within_ray, full_unbounded}
use Rattle.row_squeeze.proofs.lift.lift_ray.Goals as goal

pub spread-requires : goal.spread-requires
spread-requires c =
    places-within_ray c.args.rows.now c.args.squeezed.now c.args.ray.now c.as_slice.result.now c.requires.squeezed c.requires.ray c.as_slice.ensures

pub returns-clause-ray : goal.returns-clause-ray
returns-clause-ray c =
    full_unbounded c.args.rows.now c.args.squeezed.now c.args.ray.now c.from_vec.result c.as_slice.result.now c.row_count-rows.ensures.rows c.requires.squeezed c.requires.ray c.as_slice.ensures (c.from_vec.ensures ∙ c.in_ok-full.ensures.value)
