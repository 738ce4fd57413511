use Rattle.std.proofs.Common.{◌≡◌, pos, ◌++◌, map, replicate}
use Rattle.rv32_decode.specs.Instructions.{word_of_insn}
use Rattle.demo_gen.specs.Demo as words
use Rattle.demo_gen.proofs.code.put_steps.Given as goal

abbrev pub invariant-loop-step : goal.invariant-loop-step
invariant-loop-step l = l.made.items ≡ l.fn.made.items ++ map word_of_insn (replicate l.step (words.add 5 5 (pos 1)))
