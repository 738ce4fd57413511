use Rattle.std.proofs.Common.{ap, ◌∙◌, true}
use Rattle.std.specs.Prelude.{max, slice_set}
use Rattle.std.proofs.lemmas.List.{length-set}
use Rattle.osek_kernel.specs.Sources.{source_count}
use Rattle.trace_check.proofs.follower.Follower.add.Goals as goal

pub returns : goal.returns
returns c = λ f follows. record {
  state = follows.state;
  pending = ap (λ p. slice_set p c.args.source true) follows.pending;
  room = length-set f.pending c.args.source true ∙ follows.room;
  last_start = follows.last_start;
  latest = c.greater-self.ensures ∙ ap (λ n. max n c.args.at) follows.latest;
  arrivals = c.in_ok-add.ensures (source_count c.args.plant.now.system) f.arrivals follows.arrivals;
  since = follows.since;
}
