use Rattle.serde_json.specs.Data.{depth}
use Rattle.serde_json.specs.View.{view}
use Rattle.split_cert.proofs.read.+tree_in.Given as goal

abbrev pub decreases-tree_in : goal.decreases-tree_in
decreases-tree_in l = depth (view l.value.now)
