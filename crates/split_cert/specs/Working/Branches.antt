-- What is known of a value by the list that it is, where that is as long as one that has the form of a tree.
use Rattle.std.specs.Prelude.{◌≡◌, ◌<◌, ◌&&◌, false, Option, Some, None, Err, Ok}
use Rattle.listed.specs.Steps.{◌>>=◌}
use Rattle.serde_json.specs.Data.{Data, depth}
use Rattle.serde_json.specs.View.{view}
use Rattle.certificate.specs.declared.fault.CertKind.TheVariants.{Shape}
use Rattle.split_trees.specs.Tree.{Cut}
use Rattle.split_cert.specs.declared.form.Branch.{Branch}
use Rattle.split_cert.specs.declared.form.Branch.TheVariants.{Three, Five}
use Rattle.split_cert.specs.Certificate.{place_in, leaf_in, tree_in}
use Rattle.split_cert.specs.Form.{is_leaf, is_cut, is_tree}

pub record HasNoForm (d : Data) : Type 0 where
  pub form : is_tree d ≡ false
  pub reads : tree_in d ≡ Err Shape

pub record IsThree (d word denominator multipliers : Data) : Type 0 where
  pub form : is_tree d ≡ is_leaf word denominator multipliers
  pub reads : tree_in d ≡ leaf_in denominator multipliers

pub record IsFive (d word column k low high : Data) : Type 0 where
  pub form : is_tree d ≡ (is_cut word column k && is_tree low && is_tree high)
  pub reads : tree_in d
      ≡ (place_in column k >>= λ place. tree_in low >>= λ below. tree_in high >>= λ above. Ok (Cut place.column place.k below above))
  pub low_depth : depth low < depth d
  pub high_depth : depth high < depth d

abbrev pub IsBranchOf : Data → Option Branch → Type 0
IsBranchOf d None = HasNoForm d
IsBranchOf d (Some (Three word denominator multipliers)) = IsThree d (view word.now) (view denominator.now) (view multipliers.now)
IsBranchOf d (Some (Five word column k low high)) =
    IsFive d (view word.now) (view column.now) (view k.now) (view low.now) (view high.now)
