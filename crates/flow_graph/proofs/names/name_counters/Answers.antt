use Rattle.std.proofs.Common.{◌∙◌}
use Rattle.flow_graph.proofs.NameSets.{all_agree}
use Rattle.flow_graph.proofs.names.name_counters.Goals as goal

pub returns : goal.returns
returns c = c.are_in.ensures ∙ all_agree _ _ (λ ticks. c.in_ok-names.ensures ticks.name) c.args.numbers.now
