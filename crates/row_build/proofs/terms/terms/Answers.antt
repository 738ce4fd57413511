use Rattle.std.proofs.Common.{◌≡◌, ◌∙◌, ◌+◌, ℤ, map, take, length, get_or, ap, arith, rules}
use Rattle.std.proofs.Math.Seq.{take-length}
use Rattle.std.proofs.lemmas.Int.{to_z-of_z}
use Rattle.std.specs.Int.{w128}
use mir.Val.{SFits}
use Rattle.row_build.specs.Columns.{Column}
use Rattle.row_build.specs.declared.numbered.NumberedColumn.TheVariants as numbered
use Rattle.row_build.specs.declared.numbered.NumberedStart.TheVariants as starts
use Rattle.row_build.specs.Working.Kinds.{row_of}
use Rattle.row_build.specs.Working.Numbered.{column_of}
use Rattle.row_build.proofs.Dense.{step, are_of}
use Rattle.row_build.proofs.Growing.{map_map_more, map_map_count}
use Rattle.row_build.proofs.terms.terms.Goals as goal

pub loop-column-preserved : goal.loop-column-preserved
loop-column-preserved c =
    let states = c.args.states.now in let columns = c.args.columns.now in let i = c.loop-column.column in let d = numbered.Starts (starts.In 0 0) in
    let f : Column → ℤ = (row_of c.args.plant.now states c.args.instances.now c.args.task c.args.kind).factor in
    let gives : c.entry.result ≡ f (column_of states (get_or columns i d)) = c.entry.ensures.value ∙ c.factor-found.ensures in
    let fits : SFits w128 c.entry.result = search rules in
    let pushed = simp to_z-of_z at c.in_ok-push_entry.ensures in
    step (map f (map (column_of states) (take i columns))) (map f (map (column_of states) (take (i + 1) columns))) i c.entry.result c.loop-column.terms c.push_entry.new.terms
    (rw gives (map_map_more f (column_of states) columns i d c.loop-column-test.true)) (map_map_count f (column_of states) columns i c.loop-column-test.true)
    c.entry.ensures.in_range c.loop-column.invariant.0 c.loop-column.invariant.1 pushed

pub returns : goal.returns
returns c =
    let all : take c.loop-column.column c.args.columns.now ≡ c.args.columns.now =
    let e : c.loop-column.column ≡ length c.args.columns.now = omega (arith, c.loop-column-test.false, c.loop-column.auto.column-end) in
    ap (λ n. take n c.args.columns.now) e ∙ take-length c.args.columns.now in
    are_of _ c.loop-column.terms (rw (← all) c.loop-column.invariant.0) (rw (← all) c.loop-column.invariant.1)
