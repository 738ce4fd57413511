-- All words so far just go on.
use Rattle.std.proofs.Common.{◌≡◌, ◌+◌, ◌*◌}
use Rattle.counted_loops.specs.Working.Writers.{AllPlain}
use Rattle.counted_loops.proofs.words.all_plain.Given as goal

abbrev pub invariant-loop-word : goal.invariant-loop-word
invariant-loop-word g l = AllPlain (g.C.Code.code_of l.code) l.from (l.from + 4 * l.word)
