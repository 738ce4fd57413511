use Rattle.std.proofs.Common.{◌≡◌, ◌++◌, drop}
use Rattle.std.specs.List.{flat_map}
use Rattle.show_commands.specs.Replay.{line_of, responses_text}
use Rattle.show_commands.proofs.played.text_of.Given as goal

abbrev pub invariant-loop-response : goal.invariant-loop-response
invariant-loop-response l = l.text.items ++ flat_map (line_of l.system) (drop l.response-index l.responses) ≡ responses_text l.system l.responses
