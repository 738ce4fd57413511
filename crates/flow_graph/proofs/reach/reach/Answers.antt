use Rattle.std.proofs.lemmas.Result.{IfOk-weaker}
use Rattle.flow_graph.specs.Working.Judged.{program_in}
use Rattle.flow_graph.proofs.Reaching.{search_begins, entry_within, reaches}
use Rattle.flow_graph.proofs.reach.reach.Goals as goal

pub follow-requires : goal.follow-requires
follow-requires c = search_begins (program_in c.args.program.now) _ _ (entry_within c.args.program.now.entries.now) c.in_ok-entries.ensures

pub returns : goal.returns
returns c = IfOk-weaker c.into_nodes.result _ _ (λ ordered same. reaches
    (program_in c.args.program.now) c.in_ok-found.found ordered c.in_ok-found.ensures same) c.into_nodes.ensures
