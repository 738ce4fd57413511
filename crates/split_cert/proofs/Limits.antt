-- A split certificate that is read is within its limits.
use Rattle.std.proofs.Common.{◌≡◌, ℕ, zero, suc, ◌-◌, ◌^◌, ◌<◌, Bool, true, false, cond, List, Some, Ok, Err, refl, arith, eqb}
use Rattle.std.specs.Prelude.{bytes_eq, IfOk, nat_le, ok_or}
use Rattle.std.specs.List.{AllByRecursion}
use Rattle.std.proofs.lemmas.Bool.{leb-true}
use Rattle.serde_json.specs.Data.{Data, null, boolean, number, string, array, object, Items, no_items, item}
use Rattle.listed.specs.Faults.{told_as}
use Rattle.listed.specs.Lists.{all_of}
use Rattle.listed.proofs.Answered.{IfOk-step, IfOk-all_of}
use Rattle.json_fields.specs.Lists.{list_in}
use Rattle.json_fields.specs.Numbers.{digits_below, digits_in, whole_in}
use Rattle.json_fields.proofs.Laws.{IfOk-ok_or, IfOk-test, whole_in-range, digits_in-lt, digits_below-lt}
use Rattle.abstract_sched.specs.Fits.{AreLawful}
use Rattle.abstract_sched.specs.declared.rules.StateRules.{StateRules}
use Rattle.certificate.specs.declared.fault.CertKind.TheVariants as cert_kinds
use Rattle.certificate.specs.Certificate.{multiplier_in}
use Rattle.certificate.specs.States.{states_of}
use Rattle.certificate.proofs.Laws.{states_of-lawful, told_as_ok}
use Rattle.split_trees.specs.Lawful.{HasLawfulNumbers, IsLawfulTree}
use Rattle.split_trees.specs.Tree.{Tree, Leaf, height}
use Rattle.split_cert.specs.declared.read.Place.{Place}
use Rattle.split_cert.specs.Certificate.{place_in, leaf_in, tree_in, branch_in, shallow_tree_in, split_in}
use Rattle.split_cert.specs.Form.{split_parts}
use Rattle.split_cert.specs.Lawful.{IsLawful}

positive : (n : ℕ) → eqb n 0 ≡ false → 0 < n
positive zero is = absurd cc
positive (suc n) is = omega arith

leaf_in-lawful : (d ds : Data) → IfOk (leaf_in d ds) HasLawfulNumbers
unfolding leaf_in
leaf_in-lawful d ds =
    IfOk-step (λ denominator. denominator < 2 ^ 80) HasLawfulNumbers (ok_or (digits_in (2 ^ 80) d) cert_kinds.Range) _ (IfOk-ok_or _ _ _ (digits_in-lt (2 ^ 80) d)) (λ denominator small.
    IfOk-step (λ _. Unit {0}) HasLawfulNumbers (ok_or (list_in ds) cert_kinds.Shape) _ (IfOk-ok_or _ _ _ (λ _ _. tt)) (λ members _.
    IfOk-step (AllByRecursion (λ m. m < 2 ^ 80)) HasLawfulNumbers (all_of multiplier_in members) _ (IfOk-all_of multiplier_in (λ m. m < 2 ^ 80) (λ e. IfOk-ok_or _ _ _ (digits_in-lt (2 ^ 80) e)) 0 members) (λ multipliers each.
    at (eqb denominator 0) (Leaf denominator multipliers) (λ not_zero. (positive denominator not_zero, small, each)))))
  where
    at : (test : Bool) (tree : Tree) → (test ≡ false → HasLawfulNumbers tree) → IfOk (cond test (Err cert_kinds.Range) (Ok tree)) HasLawfulNumbers
    at true tree lawful = tt
    at false tree lawful = lawful refl

abbrev IsPlace : Place → Type 0
IsPlace place = (place.column < 2 ^ 32) × (place.k < 2 ^ 31)

below_32 : (d : Data) (n : ℕ) → whole_in 0 (2 ^ 32 - 1) d ≡ Some n → n < 2 ^ 32
below_32 d n is = omega (arith, whole_in-range 0 4294967295 d n is)

below_31 : (d : Data) (n : ℕ) → whole_in 0 (2 ^ 31 - 1) d ≡ Some n → n < 2 ^ 31
below_31 d n is = omega (arith, whole_in-range 0 2147483647 d n is)

place_in-lawful : (column k : Data) → IfOk (place_in column k) IsPlace
place_in-lawful column k =
    IfOk-step (λ j. j < 2 ^ 32) IsPlace (ok_or (whole_in 0 (2 ^ 32 - 1) column) cert_kinds.Range) _ (IfOk-ok_or _ _ _ (below_32 column)) (λ j below.
    IfOk-step (λ most. most < 2 ^ 31) IsPlace (ok_or (whole_in 0 (2 ^ 31 - 1) k) cert_kinds.Range) _ (IfOk-ok_or _ _ _ (below_31 k)) (λ most low. (below, low)))

mutual
  unfolding tree_in branch_in

  tree_in-lawful : (d : Data) → IfOk (tree_in d) HasLawfulNumbers
  tree_in-lawful null = tt
  tree_in-lawful (boolean b) = tt
  tree_in-lawful (number n) = tt
  tree_in-lawful (string s) = tt
  tree_in-lawful (array items) = branch_in-lawful items
  tree_in-lawful (object fields) = tt

  branch_in-lawful : (items : Items) → IfOk (branch_in items) HasLawfulNumbers
  branch_in-lawful no_items = tt
  branch_in-lawful (item a no_items) = tt
  branch_in-lawful (item a (item b no_items)) = tt
  branch_in-lawful (item word (item denominator (item multipliers no_items))) = leaf_in-lawful denominator multipliers
  branch_in-lawful (item a (item b (item c (item d no_items)))) = tt
  branch_in-lawful (item word (item column (item k (item low (item high no_items))))) =
      IfOk-step IsPlace HasLawfulNumbers (place_in column k) _ (place_in-lawful column k) (λ place at.
      IfOk-step HasLawfulNumbers HasLawfulNumbers (tree_in low) _ (tree_in-lawful low) (λ below lawful_below.
      IfOk-step HasLawfulNumbers HasLawfulNumbers (tree_in high) _ (tree_in-lawful high) (λ above lawful_above. (at.0, at.1, lawful_below, lawful_above))))
  branch_in-lawful (item a (item b (item c (item d (item e (item f items)))))) = tt

shallow_tree_in-lawful : (d : Data) → IfOk (shallow_tree_in d) IsLawfulTree
unfolding shallow_tree_in
shallow_tree_in-lawful d =
    IfOk-step HasLawfulNumbers IsLawfulTree (tree_in d) _ (tree_in-lawful d) (λ tree numbers.
    IfOk-test IsLawfulTree (nat_le (height tree) 100) tree _ (λ within. record { depth = leb-true (height tree) 100 within; numbers = numbers }))

pub split_in-lawful : (rules : StateRules) (task : ℕ) (name : List ℕ) (d : Data) → IfOk (split_in rules task name d) (IsLawful rules task)
unfolding split_in
split_in-lawful rules task name d =
    IfOk-step (λ _. Unit {0}) _ (ok_or (split_parts d) cert_kinds.Shape) _ (IfOk-ok_or _ _ _ (λ _ _. tt)) (λ parts _.
    IfOk-step (λ bound. bound < 2 ^ 120) _ (ok_or (digits_below (2 ^ 120) parts.bound) cert_kinds.Range) _ (IfOk-ok_or _ _ _ (digits_below-lt (2 ^ 120) parts.bound)) (λ bound low.
    IfOk-step IsLawfulTree _ (shallow_tree_in parts.tree) _ (shallow_tree_in-lawful parts.tree) (λ tree lawful_tree.
    IfOk-step (AreLawful rules) _ (told_as cert_kinds.State (states_of rules parts.states)) _ (told_as_ok _ _ (states_of rules parts.states) (states_of-lawful rules parts.states)) (λ states lawful.
    IfOk-test (IsLawful rules task) (bytes_eq parts.task name) _ _ (λ _. record {
      for_task = refl;
      bound = low;
      states = lawful;
      tree = lawful_tree;
    })))))
