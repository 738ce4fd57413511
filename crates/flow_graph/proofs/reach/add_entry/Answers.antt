use Rattle.std.proofs.lemmas.Result.{IfOk-weaker}
use Rattle.flow_graph.proofs.Reaching.{entry_added, entry_missing}
use Rattle.flow_graph.proofs.reach.add_entry.Goals as goal

pub returns-in-Some : goal.returns-in-Some
returns-in-Some c =
    IfOk-weaker c.add.result _ _
    (λ after adds. entry_added c.args.entries.now c.args.context c.in-Some.address _ c.new.result c.args.found after
    c.requires.bound c.in-Some.is c.new.ensures c.requires.before adds) c.add.ensures

pub returns-in-None : goal.returns-in-None
returns-in-None c = entry_missing c.args.entries.now c.args.context _ c.args.found c.requires.bound c.in-None.is c.requires.before
