-- One more response's line.
use Rattle.std.proofs.Common.{◌<◌, length, arith}
use Rattle.show_commands.specs.Replay.{line_of, responses_text}
use Rattle.show_commands.proofs.Lines.{one_line}
use Rattle.show_commands.proofs.played.text_of.Goals as goal

pub loop-response-preserved : goal.loop-response-preserved
loop-response-preserved c =
    let within : c.loop-response.response-index < length c.args.responses.now = omega arith in
    one_line (line_of c.args.system.now) c.args.responses.now c.loop-response.response-index _ c.loop-response.text.items c.push_line.new.text.items
    (responses_text c.args.system.now c.args.responses.now) within c.in_ok-push_line.ensures c.loop-response.invariant
