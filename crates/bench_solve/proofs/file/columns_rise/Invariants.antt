use Rattle.std.proofs.Common.{◌≡◌, length}
use Rattle.bench_solve.specs.RowsFile as words
use Rattle.bench_solve.proofs.file.columns_rise.Given as goal

abbrev pub invariant-loop-first : goal.invariant-loop-first
invariant-loop-first l = words.columns_rise l.rest ≡ words.columns_rise l.fn.terms

abbrev pub decreases-loop-first : goal.decreases-loop-first
decreases-loop-first l = length l.rest
