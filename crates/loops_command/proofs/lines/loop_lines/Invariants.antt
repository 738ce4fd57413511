-- The lines of the loops so far.
use Rattle.std.proofs.Common.{◌≡◌, take}
use Rattle.loops_command.specs.Loops as words
use Rattle.loops_command.proofs.lines.loop_lines.Given as goal

abbrev pub invariant-loop-i : goal.invariant-loop-i
invariant-loop-i l = l.text.items ≡ words.loop_lines (take l.i l.loops) (take l.i l.found)
