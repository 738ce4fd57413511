-- No word so far writes the register.
use Rattle.std.proofs.Common.{◌≡◌, ◌+◌, ◌*◌}
use Rattle.counted_loops.specs.Working.Writers.{NoneWrites}
use Rattle.counted_loops.proofs.words.first_writer.Given as goal

abbrev pub invariant-loop-word : goal.invariant-loop-word
invariant-loop-word g l = NoneWrites (g.C.Code.code_of l.code) l.register l.from (l.from + 4 * l.word)
