-- The rows of a task in numbers: the cost of each column, and for each row its factor at each column and its right
-- side.
use Rattle.std.specs.Prelude.{ℕ, List, map, pos}
use Rattle.whole_rows.specs.Rows.{RowsData}
use Rattle.wcet_atomic_blocks.specs.Plants.{PlantData}
use Rattle.abstract_sched.specs.declared.states.AbsState.{AbsState}
use Rattle.row_build.specs.Columns
use Rattle.row_build.specs.Families

abbrev pub rows_of : PlantData → List AbsState → ℕ → RowsData
rows_of plant states task =
    let columns = Columns.columns plant states task in
    record {
      costs = map (λ column. pos (Columns.cost plant column)) columns;
      rows = map (λ row. map row.factor columns) (Families.rows plant states task);
      rights = map (λ row. pos row.right) (Families.rows plant states task);
    }
