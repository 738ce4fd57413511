-- The places of columns and slacks are counted from the rows.
use Rattle.std.proofs.Common.{◌≡◌, ◌+◌, length, ℕ, subst, arith}
use Rattle.std.specs.Prelude.{All}
use Rattle.whole_simplex.specs.Faults.{FindsLeaving}
use Rattle.whole_simplex.specs.Tables.{width}
use Rattle.whole_simplex.specs.declared.line.Line.{Line}
use Rattle.whole_simplex.proofs.solving.leaving_line.Goals as goal

pub leaving-requires-clause-lengths : goal.leaving-requires-clause-lengths
leaving-requires-clause-lengths c =
    let w : width c.args.rows.now ≡ c.column_count.result + c.row_count.result = omega (arith, c.column_count.ensures, c.row_count.ensures.value) in
    subst (λ (n : ℕ). All (λ (line : Line). length line.entries ≡ n + 2) c.args.lines.now) w c.requires.lengths

pub returns-clause-found : goal.returns-clause-found
returns-clause-found c =
    let w : c.column_count.result + c.row_count.result ≡ width c.args.rows.now = omega (arith, c.column_count.ensures, c.row_count.ensures.value) in
    subst (λ (n : ℕ). FindsLeaving n c.args.place c.args.lines.now c.leaving.result) w c.leaving.ensures.found
