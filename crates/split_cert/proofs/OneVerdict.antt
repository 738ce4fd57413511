-- A split certificate has one verdict: a plain certificate over the same states has one, and of a tree's columns and of its
-- leaves one is the first that isn't as it should be.
use Rattle.std.proofs.Common.{◌≡◌, ℕ, ◌<◌, List, [], All, length, take, get_or, Some, refl, sym, ap, ◌∙◌, subst, inl, inr, ◌⊎◌, arith, length-take}
use Rattle.std.specs.Prelude.{slice_get}
use Rattle.std.proofs.lemmas.Bool.{cases_order}
use Rattle.std.proofs.lemmas.List.{get_or-take}
use Rattle.std.proofs.lemmas.List.Elements.{All-get_or}
use Rattle.std.proofs.lemmas.Option.{same_Some, slice_get_within, get_or_from_slice_get}
use Rattle.whole_rows.specs.Duals.{first_failing_of}
use Rattle.whole_rows.specs.Rows.{RowsData}
use Rattle.whole_rows.specs.declared.DualVerdict.{DualVerdict}
use Rattle.whole_rows.specs.declared.DualVerdict.TheVariants as duals
use Rattle.whole_rows.proofs.Verdicts.{first_failing_is}
use Rattle.wcet_atomic_blocks.specs.Plants.{PlantData}
use Rattle.scheduler_moves.specs.Closed.{IsClosed}
use Rattle.row_build.specs.Rows.{rows_of}
use Rattle.certificate.specs.declared.cert.Cert.{Cert}
use Rattle.certificate.specs.declared.verdict.Verdict.TheVariants as plain
use Rattle.certificate.specs.declared.verdict.Why.{Why}
use Rattle.certificate.specs.declared.verdict.Why.TheVariants.{MissingInitial, Missing, Misuse, Count, Column, Bound}
use Rattle.bound_checker.specs.Good.{IsVerdict as IsPlainVerdict}
use Rattle.bound_checker.specs.Laws.{HaveOneVerdict}
use Rattle.bound_checker.specs.Working.Verdicts.{verdict_of as plain_of, verdict_by}
use Rattle.bound_checker.proofs.Judging.{verdict_is}
use Rattle.split_trees.specs.Good.{IsColumn, IsGoodLeaf, LacksColumn, HasBadLeaf}
use Rattle.split_trees.specs.Sides.{split_rows}
use Rattle.split_trees.specs.Tree.{Tree, LeafAt, columns_cut, leaves_of}
use Rattle.split_cert.specs.declared.cert.SplitCert.{SplitCert}
use Rattle.split_cert.specs.declared.verdict.SplitVerdict.{SplitVerdict}
use Rattle.split_cert.specs.declared.verdict.SplitVerdict.TheVariants.{Yes, No}
use Rattle.split_cert.specs.declared.verdict.SplitWhy.TheVariants.{States, Cut, Leaf}
use Rattle.split_cert.specs.Good.{FailsByStates, HasBad, IsVerdict}
use Rattle.split_cert.specs.Working.Verdicts.{by_leaf}

-- ---- the first of a list that isn't as it should be

record IsFirst {A : Type 0} (P : A → Type 0) (xs : List A) (place : ℕ) (x : A) : Type 0 where
  there : slice_get xs place ≡ Some x
  lacks : P x → ⊥
  before : All P (take place xs)

not_all : {A : Type 0} (P : A → Type 0) (xs : List A) (place : ℕ) (x : A) → IsFirst P xs place x → All P xs → ⊥
not_all P xs place x is all =
    is.lacks (subst P (get_or_from_slice_get xs place x x is.there) (All-get_or P xs place x (slice_get_within xs place x is.there) all))

none_earlier : {A : Type 0} (P : A → Type 0) (xs : List A) (a b : ℕ) (x y : A) → IsFirst P xs a x → IsFirst P xs b y → a < b → ⊥
none_earlier P xs a b x y at_a at_b before =
    let within : a < length (take b xs) = omega (arith, length-take b xs, slice_get_within xs a x at_a.there) in
    let here : get_or (take b xs) a x ≡ x = get_or-take b xs a x before ∙ get_or_from_slice_get xs a x x at_a.there in
    at_a.lacks (subst P here (All-get_or P (take b xs) a x within at_b.before))

one_first : {A : Type 0} (P : A → Type 0) (xs : List A) (a b : ℕ) (x y : A) → IsFirst P xs a x → IsFirst P xs b y → (a ≡ b) × (x ≡ y)
one_first P xs a b x y at_a at_b = by_order (cases_order a b)
  where
    by_order : (a ≡ b) ⊎ ((a < b) ⊎ (b < a)) → (a ≡ b) × (x ≡ y)
    by_order (inl same) = (same, same_Some x y (sym at_a.there ∙ ap (slice_get xs) same ∙ at_b.there))
    by_order (inr (inl before)) = absurd (none_earlier P xs a b x y at_a at_b before)
    by_order (inr (inr after)) = absurd (none_earlier P xs b a y x at_b at_a after)

-- ---- of a tree

first_lacking : (d : RowsData) (tree : Tree) (column : ℕ) (has : LacksColumn d tree column) → IsFirst (IsColumn d) (columns_cut tree) has.place column
first_lacking d tree column has = record { there = has.there; lacks = λ is. omega (arith, is, has.lacks); before = has.first }

first_bad : (d : RowsData) (bound : ℕ) (tree : Tree) (leaf : ℕ) (why : DualVerdict) → (why ≡ duals.Yes → ⊥) → (has : HasBadLeaf d bound tree leaf why)
    → IsFirst (IsGoodLeaf d bound) (leaves_of tree) leaf has.leaf
first_bad d bound tree leaf why not_yes has =
    let is = λ (answer : DualVerdict). first_failing_is (split_rows d has.leaf.sides) has.leaf.multipliers has.leaf.denominator bound answer in
    record { there = has.there; lacks = λ good. not_yes (sym (is why has.fails) ∙ is duals.Yes good); before = has.first }

one_column : (d : RowsData) (tree : Tree) (a b : ℕ) → LacksColumn d tree a → LacksColumn d tree b → a ≡ b
one_column d tree a b at_a at_b =
    (one_first (IsColumn d) (columns_cut tree) at_a.place at_b.place a b (first_lacking d tree a at_a) (first_lacking d tree b at_b)).1

one_bad : (d : RowsData) (bound : ℕ) (tree : Tree) (a b : ℕ) (v w : DualVerdict) → (v ≡ duals.Yes → ⊥) → (w ≡ duals.Yes → ⊥)
    → HasBadLeaf d bound tree a v → HasBadLeaf d bound tree b w → (a ≡ b) × (v ≡ w)
one_bad d bound tree a b v w not_v not_w at_a at_b =
    let left = first_bad d bound tree a v not_v at_a in
    let right = first_bad d bound tree b w not_w at_b in
    let same = one_first (IsGoodLeaf d bound) (leaves_of tree) a b at_a.leaf at_b.leaf left right in
    let of = λ (leaf : LeafAt). first_failing_of (split_rows d leaf.sides) leaf.multipliers leaf.denominator bound in
    let is_v : of at_a.leaf ≡ v = first_failing_is (split_rows d at_a.leaf.sides) at_a.leaf.multipliers at_a.leaf.denominator bound v at_a.fails in
    let is_w : of at_b.leaf ≡ w = first_failing_is (split_rows d at_b.leaf.sides) at_b.leaf.multipliers at_b.leaf.denominator bound w at_b.fails in
    (same.0, sym is_v ∙ ap of same.1 ∙ is_w)

-- ---- of the states: the law of plain certificates, at one with these states and no multipliers

abbrev with_states : SplitCert → Cert
with_states cert = record { task = cert.task; bound = cert.bound; states = cert.states; denominator = 1; multipliers = [] }

plainly : (plant : PlantData) (task : ℕ) (cert : SplitCert) (why : Why) → FailsByStates plant cert.states why
    → IsPlainVerdict plant task (with_states cert) (plain.No why)
plainly plant task cert (MissingInitial mode) fails = fails
plainly plant task cert (Misuse state code) fails = fails
plainly plant task cert (Missing state transition) fails = fails
plainly plant task cert (Count given wanted) fails = absurd fails
plainly plant task cert (Column column) fails = absurd fails
plainly plant task cert Bound fails = absurd fails

same_why : (why other : Why) → plain.No why ≡ plain.No other → why ≡ other
same_why why other same = cc

one_why : HaveOneVerdict → (plant : PlantData) (task : ℕ) (cert : SplitCert) (why other : Why) → FailsByStates plant cert.states why
    → FailsByStates plant cert.states other → why ≡ other
one_why law plant task cert why other fails also =
    same_why why other
    (law plant task (with_states cert) (plain.No why) (plain.No other) (plainly plant task cert why fails) (plainly plant task cert other also))

-- what fails of multipliers isn't what fails of states
not_by_rows : (plant : PlantData) (cert : SplitCert) (why : Why) (answer : DualVerdict) → FailsByStates plant cert.states why
    → plain.No why ≡ plain_of answer → ⊥
not_by_rows plant cert why duals.Yes fails same = absurd cc
not_by_rows plant cert why (duals.Count given wanted) fails same = subst (FailsByStates plant cert.states) (same_why why (Count given wanted) same) fails
not_by_rows plant cert why (duals.Column column) fails same = subst (FailsByStates plant cert.states) (same_why why (Column column) same) fails
not_by_rows plant cert why duals.Bound fails same = subst (FailsByStates plant cert.states) (same_why why Bound same) fails

never_closed : HaveOneVerdict → (plant : PlantData) (task : ℕ) (cert : SplitCert) (why : Why) → FailsByStates plant cert.states why
    → IsClosed plant cert.states → ⊥
never_closed law plant task cert why fails closed =
    let rows = rows_of plant cert.states task in
    let by_rows = verdict_by rows (with_states cert) in
    let is = verdict_is plant task (with_states cert) cert.states rows by_rows closed refl refl refl in
    not_by_rows plant cert why (first_failing_of rows [] 1 cert.bound) fails
    (law plant task (with_states cert) (plain.No why) by_rows (plainly plant task cert why fails) is)

-- ---- of the leaves

record IsBad (plant : PlantData) (task : ℕ) (cert : SplitCert) (leaf : ℕ) (why : Why) : Type 0 where
  answer : DualVerdict
  not_yes : answer ≡ duals.Yes → ⊥
  has : HasBadLeaf (rows_of plant cert.states task) cert.bound cert.tree leaf answer
  is : by_leaf leaf answer ≡ No (Leaf leaf why)

is_bad : (plant : PlantData) (task : ℕ) (cert : SplitCert) (leaf : ℕ) (why : Why) → HasBad plant task cert leaf why → IsBad plant task cert leaf why
is_bad plant task cert leaf (MissingInitial mode) has = absurd has
is_bad plant task cert leaf (Misuse state code) has = absurd has
is_bad plant task cert leaf (Missing state transition) has = absurd has
is_bad plant task cert leaf (Count given wanted) has = record { answer = duals.Count given wanted; not_yes = λ is. cc; has = has; is = refl }
is_bad plant task cert leaf (Column column) has = record { answer = duals.Column column; not_yes = λ is. cc; has = has; is = refl }
is_bad plant task cert leaf Bound has = record { answer = duals.Bound; not_yes = λ is. cc; has = has; is = refl }

not_all_good : (plant : PlantData) (task : ℕ) (cert : SplitCert) (leaf : ℕ) (why : Why) → HasBad plant task cert leaf why
    → All (IsGoodLeaf (rows_of plant cert.states task) cert.bound) (leaves_of cert.tree) → ⊥
not_all_good plant task cert leaf why has all =
    let rows = rows_of plant cert.states task in
    let bad = is_bad plant task cert leaf why has in
    not_all (IsGoodLeaf rows cert.bound) (leaves_of cert.tree) leaf bad.has.leaf (first_bad rows cert.bound cert.tree leaf bad.answer bad.not_yes bad.has) all

-- a bad leaf is known only where each column that is cut is there
columns_there : (plant : PlantData) (task : ℕ) (cert : SplitCert) (leaf : ℕ) (why : Why) → HasBad plant task cert leaf why
    → All (IsColumn (rows_of plant cert.states task)) (columns_cut cert.tree)
columns_there plant task cert leaf why has = let bad = is_bad plant task cert leaf why has in bad.has.columns

one_leaf : (plant : PlantData) (task : ℕ) (cert : SplitCert) (leaf again : ℕ) (why other : Why) → HasBad plant task cert leaf why
    → HasBad plant task cert again other → No (Leaf leaf why) ≡ No (Leaf again other)
one_leaf plant task cert leaf again why other has also =
    let a = is_bad plant task cert leaf why has in
    let b = is_bad plant task cert again other also in
    let same = one_bad (rows_of plant cert.states task) cert.bound cert.tree leaf again a.answer b.answer a.not_yes b.not_yes a.has b.has in
    sym a.is ∙ ap (λ (n : ℕ). by_leaf n a.answer) same.0 ∙ ap (by_leaf again) same.1 ∙ b.is

-- ---- one verdict

not_lacking : (plant : PlantData) (task : ℕ) (cert : SplitCert) (column : ℕ) → LacksColumn (rows_of plant cert.states task) cert.tree column
    → All (IsColumn (rows_of plant cert.states task)) (columns_cut cert.tree) → ⊥
not_lacking plant task cert column lacks all =
    let rows = rows_of plant cert.states task in
    not_all (IsColumn rows) (columns_cut cert.tree) lacks.place column (first_lacking rows cert.tree column lacks) all

pub one_verdict : HaveOneVerdict → (plant : PlantData) (task : ℕ) (cert : SplitCert) (one other : SplitVerdict)
    → IsVerdict plant task cert one → IsVerdict plant task cert other → one ≡ other
one_verdict law plant task cert Yes Yes is also = refl
one_verdict law plant task cert Yes (No (States why)) is also = absurd (never_closed law plant task cert why also is.closed)
one_verdict law plant task cert Yes (No (Cut column)) is also = absurd (not_lacking plant task cert column also.lacks is.good.columns)
one_verdict law plant task cert Yes (No (Leaf leaf why)) is also = absurd (not_all_good plant task cert leaf why also.bad is.good.leaves)
one_verdict law plant task cert (No (States why)) Yes is also = absurd (never_closed law plant task cert why is also.closed)
one_verdict law plant task cert (No (States why)) (No (States other)) is also =
    ap (λ (w : Why). No (States w)) (one_why law plant task cert why other is also)
one_verdict law plant task cert (No (States why)) (No (Cut column)) is also = absurd (never_closed law plant task cert why is also.closed)
one_verdict law plant task cert (No (States why)) (No (Leaf leaf other)) is also = absurd (never_closed law plant task cert why is also.closed)
one_verdict law plant task cert (No (Cut column)) Yes is also = absurd (not_lacking plant task cert column is.lacks also.good.columns)
one_verdict law plant task cert (No (Cut column)) (No (States why)) is also = absurd (never_closed law plant task cert why also is.closed)
one_verdict law plant task cert (No (Cut column)) (No (Cut other)) is also =
    ap (λ (j : ℕ). No (Cut j)) (one_column (rows_of plant cert.states task) cert.tree column other is.lacks also.lacks)
one_verdict law plant task cert (No (Cut column)) (No (Leaf leaf why)) is also =
    absurd (not_lacking plant task cert column is.lacks (columns_there plant task cert leaf why also.bad))
one_verdict law plant task cert (No (Leaf leaf why)) Yes is also = absurd (not_all_good plant task cert leaf why is.bad also.good.leaves)
one_verdict law plant task cert (No (Leaf leaf why)) (No (States other)) is also = absurd (never_closed law plant task cert other also is.closed)
one_verdict law plant task cert (No (Leaf leaf why)) (No (Cut column)) is also =
    absurd (not_lacking plant task cert column also.lacks (columns_there plant task cert leaf why is.bad))
one_verdict law plant task cert (No (Leaf leaf why)) (No (Leaf again other)) is also =
    one_leaf plant task cert leaf again why other is.bad also.bad
