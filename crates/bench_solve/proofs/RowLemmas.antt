-- Rows that are read one after another.
use Rattle.std.proofs.Common.{◌≡◌, ℕ, suc, List, [], ◌∷◌, Result, Ok, refl}
use Rattle.listed.specs.Lists.{each_from}
use Rattle.listed.specs.Steps.{◌>>=◌}
use Rattle.serde_json.specs.Data.{Data}
use Rattle.bench_solve.specs.declared.file.FileRow.{FileRow}
use Rattle.bench_solve.specs.declared.file.RowsKind.{RowsKind}

-- what each of the values is, by the list alone
abbrev pub read_all : (Data → Result FileRow RowsKind) → List Data → Result (List FileRow) RowsKind
read_all gives [] = Ok []
read_all gives (d ∷ ds) = gives d >>= λ row. (read_all gives ds >>= λ rows. Ok (row ∷ rows))

pub read_all-each_from : (gives : Data → Result FileRow RowsKind) (place : ℕ) (ds : List Data) → read_all gives ds ≡ each_from (λ n. gives) place ds
read_all-each_from gives place [] = refl
read_all-each_from gives place (d ∷ ds) = rw (read_all-each_from gives (suc place) ds) refl
