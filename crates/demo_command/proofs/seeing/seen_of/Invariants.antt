use Rattle.std.proofs.Common.{◌≡◌, take}
use Rattle.demo_command.specs.Seen.{seen_of}
use Rattle.demo_command.proofs.seeing.seen_of.Given as goal

abbrev pub invariant-loop-response : goal.invariant-loop-response
invariant-loop-response l = l.seen ≡ seen_of l.task (take l.response-index l.responses)
