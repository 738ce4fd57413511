use Rattle.std.proofs.Common.{◌≡◌, ◌++◌, arith}
use Rattle.std.specs.Prelude.{string_bytes}
use Rattle.std.specs.Int.{w128}
use Rattle.std.proofs.lemmas.Int.{to_z-of_z}
use mir.Val.{SFits}
use Rattle.whole_rows.proofs.Combinations.{fits_from_range}
use Rattle.reports.specs.Solved.{ray_line, ray_text}
use Rattle.reports.proofs.Rays.{next_line, last_line}
use Rattle.reports.proofs.solved.ray_text.Goals as goal

pub loop-column-preserved : goal.loop-column-preserved
loop-column-preserved c =
    let fits : SFits w128 c.get.result = fits_from_range c.get.result c.get.ensures.in_range in
    let added : string_bytes c.push_ray_line.new.text ≡ string_bytes c.loop-column.text ++ ray_line c.loop-column.column c.get.result = simp to_z-of_z at c.in_ok-push_ray_line.ensures in
    next_line (ray_text c.args.ray.now) (string_bytes c.loop-column.text)
    (string_bytes c.push_ray_line.new.text) c.args.ray.now c.loop-column.column c.get.result
    c.loop-column.invariant c.get.ensures.value added

pub returns : goal.returns
returns c =
    last_line (ray_text c.args.ray.now) (string_bytes c.loop-column.text) c.args.ray.now c.loop-column.column (omega arith) c.loop-column.invariant
