use Rattle.std.proofs.Common.{◌≡◌, drop, map, None}
use Rattle.std.specs.Prelude.{option_map}
use Rattle.abstract_sched.specs.States.{active_of}
use Rattle.osek_kernel.specs.Running.{first_from}
use Rattle.scheduler_moves.proofs.running.first_of_all.Given as goal

-- the first so far, and what is left, have the first of all
abbrev pub invariant-loop-task : goal.invariant-loop-task
invariant-loop-task l =
    first_from l.system (option_map (λ r. record {
      task = r.task;
      rank = record {
        current = r.rank.current;
        raised = r.rank.raised;
        own = r.rank.own;
      };
    }) l.first) l.task (map active_of (drop l.task l.tasks))
    ≡ first_from l.system None 0 (map active_of l.tasks)
