-- Every table keeps what table 0 keeps, and has the solutions of table 0.
use Rattle.std.proofs.Common.{◌≡◌, ℕ, zero, suc, ◌<◌, ℤ, pos, ◌<ℤ◌, refl}
use Rattle.std.specs.Prelude.{Option, Some, None}
use Rattle.whole_rows.specs.Rows.{RowsData, AreRows}
use Rattle.whole_simplex.specs.declared.line.Line.{Line}
use Rattle.whole_simplex.specs.Tables.{Table, entry, width, entering, leaving, after_leaving, after_entering, next_table, first_table, table_at}
use Rattle.whole_simplex.proofs.Entering.{entering-some}
use Rattle.whole_simplex.proofs.First.{first_tableau}
use Rattle.whole_simplex.proofs.Leaving.{leaving-is}
use Rattle.whole_simplex.proofs.Solutions.{IsSolution, solution_forth, solution_back}
use Rattle.whole_simplex.proofs.Tableau.{IsTableau, pivoted_tableau}

-- a table that is as good as another one: a tableau with the same solutions
pub record IsEqual (width : ℕ) (first table : Table) : Type 0 where
  pub tableau : IsTableau width table
  pub forth : (v : ℕ → ℤ) → IsSolution first v → IsSolution table v
  pub back : (v : ℕ → ℤ) → IsSolution table v → IsSolution first v

equal_leaving : (width place : ℕ) (first table : Table) (o : Option Line) → leaving width place table.lines ≡ o → place < width → entry table.objective place <ℤ pos 0 → IsEqual width first table → IsEqual width first (after_leaving place table o)
equal_leaving width place first table None e h f q = q
equal_leaving width place first table (Some pivot) e h f q =
    let leaves = leaving-is width place table.lines pivot e in
    record {
      tableau = pivoted_tableau width place table pivot q.tableau leaves h f;
      forth = λ v s. solution_forth width place table pivot q.tableau leaves h f v (q.forth v s);
      back = λ v s. q.back v (solution_back width place table pivot q.tableau leaves h f v s);
    }

equal_entering : (width : ℕ) (first table : Table) (o : Option ℕ) → entering width table.objective ≡ o → IsEqual width first table → IsEqual width first (after_entering width table o)
equal_entering width first table None e q = q
equal_entering width first table (Some place) e q =
    let enters = entering-some width table.objective place e in
    equal_leaving width place first table (leaving width place table.lines) refl enters.0 enters.1 q

pub next_equal : (width : ℕ) (first table : Table) → IsEqual width first table → IsEqual width first (next_table width table)
next_equal width first table q = equal_entering width first table (entering width table.objective) refl q

pub table_equal : (d : RowsData) (number : ℕ) → AreRows d → IsEqual (width d) (first_table d) (table_at d number)
table_equal d zero r = record {
  tableau = first_tableau d r.shape.rows_fit r.shape.rights_fit r.rights_not_negative;
  forth = λ v s. s;
  back = λ v s. s;
}
table_equal d (suc number) r = next_equal (width d) (first_table d) (table_at d number) (table_equal d number r)
