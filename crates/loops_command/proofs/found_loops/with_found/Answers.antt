-- There are as many bounds as loops.
use Rattle.std.proofs.Common.{◌≡◌, length, sym, ◌∙◌, ap}
use Rattle.inputs.specs.declared.subjects.Analysed.{Analysed}
use Rattle.counted_loops.proofs.Keeping.{as_many}
use Rattle.loops_command.proofs.found_loops.with_found.Goals as goal

pub loop_lines-requires : goal.loop_lines-requires
loop_lines-requires c =
    let count = as_many c.args.analysed.plant c.args.found.now c.requires in
    let same : length c.as_slice.result.now ≡ length c.args.analysed.plant.timing.loops =
    ap length c.as_slice.ensures ∙ ap (λ (a : Analysed). length a.plant.timing.loops) c.analysed.view_is in
    ap length c.as_slice-2.ensures ∙ (count ∙ sym same)
