use Rattle.std.proofs.Common.{◌≡◌, drop}
use Rattle.std.specs.Prelude.{filter_map}
use Rattle.listed.specs.Lists.{all_of}
use Rattle.scheduler_moves.specs.Moves.{service_move, serving_at}
use Rattle.scheduler_moves.proofs.AllOf.{behind}
use Rattle.scheduler_moves.proofs.serving.service_moves.Given as goal

-- the moves so far, and those of the exits that are left, are all
abbrev pub invariant-loop-node : goal.invariant-loop-node
invariant-loop-node l =
    all_of (service_move l.plant l.state l.caller) (filter_map (serving_at l.plant l.state l.caller) l.exits)
    ≡ behind l.moves (all_of (service_move l.plant l.state l.caller) (filter_map (serving_at l.plant l.state l.caller) (drop l.node-index l.exits)))
