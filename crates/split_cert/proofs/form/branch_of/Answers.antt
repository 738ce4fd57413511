use Rattle.std.proofs.Common.{sym, subst, map}
use Rattle.serde_json.specs.Data.{Data}
use Rattle.serde_json.specs.View.{view}
use Rattle.split_cert.specs.Working.Branches.{IsBranchOf}
use Rattle.split_cert.proofs.Branches.{array_of, no_list}
use Rattle.split_cert.proofs.form.branch_of.Goals as goal

pub returns-in-Some : goal.returns-in-Some
returns-in-Some c =
    subst (λ (d : Data). IsBranchOf d c.branch_in.result) (sym (array_of (view c.args.value.now) (map view c.in-Some.members.now) c.in-Some.ensures)) c.branch_in.ensures

pub returns-in-None : goal.returns-in-None
returns-in-None c = no_list (view c.args.value.now) c.in-None.ensures
