-- One link more joins two chains.
use Rattle.std.proofs.Common.{length, ap, ◌∙◌}
use Rattle.std.proofs.lemmas.List.FromFn.{length-range_with_len}
use Rattle.row_squeeze.proofs.chains.heads.Goals as goal

pub loop-row-init : goal.loop-row-init
loop-row-init c =
    (c.in_ok-heads.ensures, ap length c.in_ok-heads.ensures ∙ length-range_with_len 0 c.args.columns)
