-- What the scan of the leaves found.
use Rattle.std.proofs.Common.{◌≡◌, ℕ, zero, suc, ◌+◌, List, [], ◌∷◌, All, take, Some, refl, subst, arith}
use Rattle.std.specs.Prelude.{slice_get}
use Rattle.whole_rows.specs.Duals.{IsFirstFailing, first_failing_of}
use Rattle.whole_rows.specs.Rows.{RowsData}
use Rattle.whole_rows.specs.declared.DualVerdict.{DualVerdict}
use Rattle.whole_rows.specs.declared.DualVerdict.TheVariants.{Yes, Count, Column, Bound}
use Rattle.whole_rows.proofs.Verdicts.{first_failing_holds}
use Rattle.split_trees.specs.declared.judging.Found.TheVariants.{Next, Bad}
use Rattle.split_trees.specs.Good.{IsColumn, IsGoodLeaf, IsGoodTree, HasBadLeaf, FailsByLeaf}
use Rattle.split_trees.specs.Sides.{split_rows}
use Rattle.split_trees.specs.Tree.{Tree, LeafAt, columns_cut, leaves_of}
use Rattle.split_trees.specs.Working.Judging.{found_at, found_in}

abbrev why_of : RowsData → ℕ → LeafAt → DualVerdict
why_of d bound leaf = first_failing_of (split_rows d leaf.sides) leaf.multipliers leaf.denominator bound

Fails : RowsData → ℕ → LeafAt → DualVerdict → Type 0
Fails d bound leaf why = IsFirstFailing (split_rows d leaf.sides) leaf.multipliers leaf.denominator bound why

holds : (d : RowsData) (bound : ℕ) (leaf : LeafAt) (why : DualVerdict) → why_of d bound leaf ≡ why → Fails d bound leaf why
unfolding Fails
holds d bound leaf why is =
    subst (IsFirstFailing (split_rows d leaf.sides) leaf.multipliers leaf.denominator bound) is
    (first_failing_holds (split_rows d leaf.sides) leaf.multipliers leaf.denominator bound)

All-cons : {A : Type 0} (P : A → Type 0) (x : A) (xs : List A) → P x → All P xs → All P (x ∷ xs)
All-cons P x xs first rest zero d below = first
All-cons P x xs first rest (suc k) d below = rest k d (omega arith)

good_here : (d : RowsData) (bound : ℕ) (leaf : LeafAt) → Fails d bound leaf Yes → IsGoodLeaf d bound leaf
unfolding Fails
good_here d bound leaf good = good

-- ---- all are good

pub all_good : (d : RowsData) (bound number next : ℕ) (leaves : List LeafAt) → found_in d bound number leaves ≡ Next next → All (IsGoodLeaf d bound) leaves
all_good d bound number next [] is = λ k e below. absurd (omega arith)
all_good d bound number next (leaf ∷ leaves) is =
    by_why (why_of d bound leaf) refl is (λ rest. all_good d bound (suc number) next leaves rest)
  where
    by_why : (why : DualVerdict) → why_of d bound leaf ≡ why → found_at number why (found_in d bound (suc number) leaves) ≡ Next next
        → (found_in d bound (suc number) leaves ≡ Next next → All (IsGoodLeaf d bound) leaves) → All (IsGoodLeaf d bound) (leaf ∷ leaves)
    by_why Yes same found rest = All-cons (IsGoodLeaf d bound) leaf leaves (good_here d bound leaf (holds d bound leaf Yes same)) (rest found)
    by_why (Count given wanted) same found rest = absurd cc
    by_why (Column column) same found rest = absurd cc
    by_why Bound same found rest = absurd cc

-- ---- one isn't

-- the leaf of this number among leaves that are counted from a number on
record IsBad (d : RowsData) (bound number : ℕ) (leaves : List LeafAt) (bad : ℕ) (why : DualVerdict) : Type 0 where
  place : ℕ
  number_is : bad ≡ number + place
  leaf : LeafAt
  there : slice_get leaves place ≡ Some leaf
  fails : Fails d bound leaf why
  first : All (IsGoodLeaf d bound) (take place leaves)
  not_yes : why ≡ Yes → ⊥

here_bad : (d : RowsData) (bound number : ℕ) (leaf : LeafAt) (leaves : List LeafAt) (why : DualVerdict) → Fails d bound leaf why → (why ≡ Yes → ⊥)
    → IsBad d bound number (leaf ∷ leaves) number why
here_bad d bound number leaf leaves why fails not_yes = record {
  place = 0;
  number_is = omega arith;
  leaf = leaf;
  there = refl;
  fails = fails;
  first = λ k e below. absurd (omega arith);
  not_yes = not_yes;
}

later_bad : (d : RowsData) (bound number : ℕ) (leaf : LeafAt) (leaves : List LeafAt) (bad : ℕ) (why : DualVerdict) → Fails d bound leaf Yes
    → IsBad d bound (suc number) leaves bad why → IsBad d bound number (leaf ∷ leaves) bad why
later_bad d bound number leaf leaves bad why good is = record {
  place = suc is.place;
  number_is = omega (arith, is.number_is);
  leaf = is.leaf;
  there = is.there;
  fails = is.fails;
  first = All-cons (IsGoodLeaf d bound) leaf (take is.place leaves) (good_here d bound leaf good) is.first;
  not_yes = is.not_yes;
}

same_bad : (a b : ℕ) (v w : DualVerdict) → Bad a v ≡ Bad b w → (a ≡ b) × (v ≡ w)
same_bad a b v w is = (cc, cc)

is_bad : (d : RowsData) (bound number : ℕ) (leaves : List LeafAt) (bad : ℕ) (why : DualVerdict) → found_in d bound number leaves ≡ Bad bad why
    → IsBad d bound number leaves bad why
is_bad d bound number [] bad why is = absurd cc
is_bad d bound number (leaf ∷ leaves) bad why is =
    by_why (why_of d bound leaf) refl is (λ rest. is_bad d bound (suc number) leaves bad why rest)
  where
    now : (own : DualVerdict) → why_of d bound leaf ≡ own → (own ≡ Yes → ⊥) → Bad number own ≡ Bad bad why → IsBad d bound number (leaf ∷ leaves) bad why
    now own same not_yes found =
        let parts = same_bad number bad own why found in
        subst (λ (n : ℕ). IsBad d bound number (leaf ∷ leaves) n why) parts.0
        (subst (IsBad d bound number (leaf ∷ leaves) number) parts.1 (here_bad d bound number leaf leaves own (holds d bound leaf own same) not_yes))

    by_why : (own : DualVerdict) → why_of d bound leaf ≡ own → found_at number own (found_in d bound (suc number) leaves) ≡ Bad bad why
        → (found_in d bound (suc number) leaves ≡ Bad bad why → IsBad d bound (suc number) leaves bad why) → IsBad d bound number (leaf ∷ leaves) bad why
    by_why Yes same found rest = later_bad d bound number leaf leaves bad why (holds d bound leaf Yes same) (rest found)
    by_why (Count given wanted) same found rest = now (Count given wanted) same (λ is_yes. cc) found
    by_why (Column column) same found rest = now (Column column) same (λ is_yes. cc) found
    by_why Bound same found rest = now Bound same (λ is_yes. cc) found

-- ---- the tree

pub tree_is_good : (d : RowsData) (bound next : ℕ) (tree : Tree) → All (IsColumn d) (columns_cut tree)
    → found_in d bound 0 (leaves_of tree) ≡ Next next → IsGoodTree d bound tree
tree_is_good d bound next tree columns is = record { columns = columns; leaves = all_good d bound 0 next (leaves_of tree) is }

bad_leaf : (d : RowsData) (bound : ℕ) (tree : Tree) (bad : ℕ) (why : DualVerdict) → All (IsColumn d) (columns_cut tree)
    → IsBad d bound 0 (leaves_of tree) bad why → HasBadLeaf d bound tree bad why
unfolding Fails
bad_leaf d bound tree bad why columns is =
    let same : bad ≡ is.place = omega (arith, is.number_is) in
    record {
      columns = columns;
      leaf = is.leaf;
      there = rw same is.there;
      fails = is.fails;
      first = rw same is.first;
    }

by_leaf : (d : RowsData) (bound : ℕ) (tree : Tree) (bad : ℕ) (why : DualVerdict) → (why ≡ Yes → ⊥) → HasBadLeaf d bound tree bad why
    → FailsByLeaf d bound tree bad why
by_leaf d bound tree bad Yes not_yes has = absurd (not_yes refl)
by_leaf d bound tree bad (Count given wanted) not_yes has = has
by_leaf d bound tree bad (Column column) not_yes has = has
by_leaf d bound tree bad Bound not_yes has = has

pub tree_fails : (d : RowsData) (bound : ℕ) (tree : Tree) (bad : ℕ) (why : DualVerdict) → All (IsColumn d) (columns_cut tree)
    → found_in d bound 0 (leaves_of tree) ≡ Bad bad why → FailsByLeaf d bound tree bad why
tree_fails d bound tree bad why columns is =
    let found = is_bad d bound 0 (leaves_of tree) bad why is in
    by_leaf d bound tree bad why found.not_yes (bad_leaf d bound tree bad why columns found)
