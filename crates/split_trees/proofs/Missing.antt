-- What the scan of the columns that are cut found.
use Rattle.std.proofs.Common.{◌≡◌, ℕ, zero, suc, ◌<◌, ◌≤◌, Bool, true, false, cond, List, [], ◌∷◌, All, length, take, Some, None, refl, sym, nat_lt, arith}
use Rattle.std.specs.Prelude.{slice_get}
use Rattle.std.proofs.lemmas.Bool.{ltb-true, ltb-false}
use Rattle.std.proofs.lemmas.Option.{none-some, same_Some}
use Rattle.whole_rows.specs.Rows.{RowsData}
use Rattle.split_trees.specs.Good.{IsColumn, LacksColumn}
use Rattle.split_trees.specs.Tree.{Tree, columns_cut}
use Rattle.split_trees.specs.Working.Judging.{first_from}

abbrev Below : ℕ → List ℕ → Type 0
Below count columns = All (λ column. column < count) columns

below_cons : (count column : ℕ) (columns : List ℕ) → column < count → Below count columns → Below count (column ∷ columns)
below_cons count column columns first rest zero d below = first
below_cons count column columns first rest (suc k) d below = rest k d (omega arith)

all_below : (count : ℕ) (columns : List ℕ) → first_from count columns ≡ None → Below count columns
all_below count [] is = λ k d below. absurd (omega arith)
all_below count (column ∷ columns) is = by_test (nat_lt column count) (ltb-true column count) is (λ rest. all_below count columns rest)
  where
    by_test : (test : Bool) → (test ≡ true → column < count) → cond test (first_from count columns) (Some column) ≡ None
        → (first_from count columns ≡ None → Below count columns) → Below count (column ∷ columns)
    by_test true below found rest = below_cons count column columns (below refl) (rest found)
    by_test false below found rest = absurd cc

record IsFirst (count : ℕ) (columns : List ℕ) (column : ℕ) : Type 0 where
  place : ℕ
  there : slice_get columns place ≡ Some column
  lacks : count ≤ column
  first : Below count (take place columns)

here_first : (count own : ℕ) (columns : List ℕ) → count ≤ own → IsFirst count (own ∷ columns) own
here_first count own columns lacks = record { place = 0; there = refl; lacks = lacks; first = λ k d below. absurd (omega arith) }

later_first : (count own : ℕ) (columns : List ℕ) (column : ℕ) → own < count → IsFirst count columns column → IsFirst count (own ∷ columns) column
later_first count own columns column below is = record {
  place = suc is.place;
  there = is.there;
  lacks = is.lacks;
  first = below_cons count own (take is.place columns) below is.first;
}

first_above : (count : ℕ) (columns : List ℕ) (column : ℕ) → first_from count columns ≡ Some column → IsFirst count columns column
first_above count [] column is = absurd (none-some column is)
first_above count (own ∷ columns) column is =
    by_test (nat_lt own count) (ltb-true own count) (ltb-false own count) is (λ rest. first_above count columns column rest)
  where
    by_test : (test : Bool) → (test ≡ true → own < count) → (test ≡ false → count ≤ own) → cond test (first_from count columns) (Some own) ≡ Some column
        → (first_from count columns ≡ Some column → IsFirst count columns column) → IsFirst count (own ∷ columns) column
    by_test true below above found rest = later_first count own columns column (below refl) (rest found)
    by_test false below above found rest = rw (← same_Some own column found) (here_first count own columns (above refl))

pub columns_are_there : (d : RowsData) (count : ℕ) (tree : Tree) → count ≡ length d.costs → None ≡ first_from count (columns_cut tree)
    → All (IsColumn d) (columns_cut tree)
columns_are_there d count tree counted is k e below =
    let inside = all_below count (columns_cut tree) (sym is) k e below in omega (arith, inside, counted)

pub column_is_missing : (d : RowsData) (count : ℕ) (tree : Tree) (column : ℕ) → count ≡ length d.costs → Some column ≡ first_from count (columns_cut tree)
    → LacksColumn d tree column
column_is_missing d count tree column counted is =
    let found = first_above count (columns_cut tree) column (sym is) in
    record {
      place = found.place;
      there = found.there;
      lacks = omega (arith, found.lacks, counted);
      first = λ k e below. let inside = found.first k e below in omega (arith, inside, counted);
    }
