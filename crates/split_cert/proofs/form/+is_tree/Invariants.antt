use Rattle.serde_json.specs.Data.{depth}
use Rattle.serde_json.specs.View.{view}
use Rattle.split_cert.proofs.form.+is_tree.Given as goal

abbrev pub decreases-is_tree : goal.decreases-is_tree
decreases-is_tree l = depth (view l.value.now)
