-- The split certificate that a JSON value is, or the first kind of fault that it has, in the order in which the kinds are
-- listed, each judged over the whole value.
use Rattle.std.specs.Prelude.{ℕ, ◌-◌, ◌^◌, List, ◌==◌, nat_le, bytes_eq, if◌then◌else◌, ok_or, Result, Ok, Err}
use Rattle.listed.specs.Faults.{told_as}
use Rattle.listed.specs.Lists.{all_of}
use Rattle.listed.specs.Steps.{◌>>=◌}
use Rattle.serde_json.specs.Data.{Data, null, boolean, number, string, array, object, Items, no_items, item}
use Rattle.json_fields.specs.Lists.{list_in}
use Rattle.json_fields.specs.Numbers.{digits_below, digits_in, whole_in}
use Rattle.abstract_sched.specs.declared.rules.StateRules.{StateRules}
use Rattle.certificate.specs.declared.fault.CertKind.{CertKind}
use Rattle.certificate.specs.declared.fault.CertKind.TheVariants.{Shape, Range, State, Task}
use Rattle.certificate.specs.Certificate.{multiplier_in}
use Rattle.certificate.specs.States.{states_of}
use Rattle.split_cert.specs.declared.cert.SplitCert.{SplitCert}
use Rattle.split_cert.specs.declared.read.Place.{Place}
use Rattle.split_cert.specs.Form.{split_parts}
use Rattle.split_trees.specs.Tree.{Tree, Leaf, Cut, height}

-- the denominator and the multipliers are below 2^80, and the denominator isn't 0
unfoldable pub leaf_in : Data → Data → Result Tree CertKind
leaf_in d ds = do
  denominator ← ok_or (digits_in (2 ^ 80) d) Range
  members ← ok_or (list_in ds) Shape
  multipliers ← all_of multiplier_in members
  if denominator == 0 then Err Range else Ok (Leaf denominator multipliers)

-- the column is a whole number below 2^32, and k one below 2^31
abbrev pub place_in : Data → Data → Result Place CertKind
place_in column k = do
  j ← ok_or (whole_in 0 (2 ^ 32 - 1) column) Range
  most ← ok_or (whole_in 0 (2 ^ 31 - 1) k) Range
  Ok (record { column = j; k = most })

-- the tree that a value of its form is, however deep its cuts nest
unfoldable mutual
  pub tree_in : Data → Result Tree CertKind
  tree_in null = Err Shape
  tree_in (boolean b) = Err Shape
  tree_in (number n) = Err Shape
  tree_in (string s) = Err Shape
  tree_in (array items) = branch_in items
  tree_in (object fields) = Err Shape

  pub branch_in : Items → Result Tree CertKind
  branch_in (item word (item denominator (item multipliers no_items))) = leaf_in denominator multipliers
  branch_in (item word (item column (item k (item low (item high no_items))))) = do
    place ← place_in column k
    below ← tree_in low
    above ← tree_in high
    Ok (Cut place.column place.k below above)
  branch_in _ = Err Shape

-- its cuts nest at most 100 deep
unfoldable pub shallow_tree_in : Data → Result Tree CertKind
shallow_tree_in d = do
  tree ← tree_in d
  if nat_le (height tree) 100 then Ok tree else Err Range

-- for the task of this id and name
unfoldable pub split_in : StateRules → ℕ → List ℕ → Data → Result SplitCert CertKind
split_in rules task name d = do
  parts ← ok_or (split_parts d) Shape
  bound ← ok_or (digits_below (2 ^ 120) parts.bound) Range
  tree ← shallow_tree_in parts.tree
  states ← told_as State (states_of rules parts.states)
  if bytes_eq parts.task name then Ok (record { task = task; bound = bound; states = states; tree = tree }) else Err Task
