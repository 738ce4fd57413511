use Rattle.std.proofs.Common.{Ok, rules}
use Rattle.serde_json.specs.View.{view}
use Rattle.timing_file.specs.Working.InRange.{AreAllCosts}
use Rattle.timing_file.proofs.Lists.{few_loops, few_extras}
use Rattle.timing_file.proofs.reading.timing_of.Goals as goal

pub returns-clause-range : goal.returns-clause-range
returns-clause-range c =
    let costs : AreAllCosts c.in_ok-costs.costs = search rules in
    record {
      classes = costs.classes;
      services = costs.services;
      alarm = costs.alarm;
      interrupt = costs.interrupt;
      taken = costs.taken;
      ticks = c.in_ok-ticks.ensures.lawful;
      distances = c.in_ok-distances.ensures.lawful;
      loops = few_loops (view c.args.value.now) (Ok c.in_ok-loops.loops) c.in_ok-loops.ensures;
      extra = few_extras (view c.args.value.now) (Ok c.in_ok-extra.extra) c.in_ok-extra.ensures;
    }
