-- One more line.
use Rattle.loops_command.proofs.LoopLines.{lines_push}
use Rattle.loops_command.proofs.lines.loop_lines.Goals as goal

pub loop-i-preserved : goal.loop-i-preserved
loop-i-preserved c =
    lines_push c.args.loops.now c.args.found.now c.loop-i.i _ _ c.loop-i.text.items c.push_line.new.text.items c.requires c.loop-i-test.true c.loop-i.invariant
    c.in_ok-push_line.ensures
