-- What is found in two lists one after the other.
use Rattle.std.proofs.Common.{◌≡◌, ℕ, suc, Bool, true, false, cond, List, [], ◌∷◌, ◌++◌, Option, Some, None, refl, nat_lt}
use Rattle.whole_rows.specs.Duals.{first_failing_of}
use Rattle.whole_rows.specs.Rows.{RowsData}
use Rattle.whole_rows.specs.declared.DualVerdict.{DualVerdict}
use Rattle.whole_rows.specs.declared.DualVerdict.TheVariants.{Yes, Count, Column, Bound}
use Rattle.split_trees.specs.declared.judging.Found.{Found}
use Rattle.split_trees.specs.declared.judging.Found.TheVariants.{Next, Bad}
use Rattle.split_trees.specs.Sides.{split_rows}
use Rattle.split_trees.specs.Tree.{LeafAt}
use Rattle.split_trees.specs.Working.Judging.{first_from, found_at, found_in}

abbrev pub or_else : Option ℕ → Option ℕ → Option ℕ
or_else (Some n) other = Some n
or_else None other = other

or_else_if : (test : Bool) (column : ℕ) (one other : Option ℕ) → cond test (or_else one other) (Some column) ≡ or_else (cond test one (Some column)) other
or_else_if true column one other = refl
or_else_if false column one other = refl

pub first_from_append : (count : ℕ) (xs ys : List ℕ) → first_from count (xs ++ ys) ≡ or_else (first_from count xs) (first_from count ys)
first_from_append count [] ys = refl
first_from_append count (x ∷ xs) ys = rw (first_from_append count xs ys) (or_else_if (nat_lt x count) x (first_from count xs) (first_from count ys))

-- what goes on from the number of the leaf after those that were good
abbrev pub then_found : Found → (ℕ → Found) → Found
then_found (Next number) rest = rest number
then_found (Bad leaf why) rest = Bad leaf why

found_at-then : (number : ℕ) (why : DualVerdict) (one : Found) (rest : ℕ → Found) → found_at number why (then_found one rest) ≡ then_found (found_at number why one) rest
found_at-then number Yes one rest = refl
found_at-then number (Count given wanted) one rest = refl
found_at-then number (Column column) one rest = refl
found_at-then number Bound one rest = refl

pub found_in_append : (d : RowsData) (bound number : ℕ) (xs ys : List LeafAt)
    → found_in d bound number (xs ++ ys) ≡ then_found (found_in d bound number xs) (λ next. found_in d bound next ys)
found_in_append d bound number [] ys = refl
found_in_append d bound number (leaf ∷ xs) ys =
    rw (found_in_append d bound (suc number) xs ys)
    (found_at-then number (first_failing_of (split_rows d leaf.sides) leaf.multipliers leaf.denominator bound) (found_in d bound (suc number) xs) (λ next. found_in d bound next ys))
