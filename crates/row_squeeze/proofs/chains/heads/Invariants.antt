use Rattle.std.proofs.Common.{◌≡◌, take, length}
use Rattle.std.specs.List.{range_with_len, fold}
use Rattle.row_squeeze.specs.Chains.{joined}
use Rattle.row_squeeze.proofs.chains.heads.Given as goal

abbrev pub invariant-loop-row : goal.invariant-loop-row
invariant-loop-row l =
    (l.heads.items ≡ fold joined (range_with_len 0 l.columns) (take l.row l.links)) × (length l.heads.items ≡ l.columns)
