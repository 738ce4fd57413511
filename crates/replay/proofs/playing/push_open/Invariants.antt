use Rattle.std.proofs.Common.{◌≡◌, ◌++◌}
use Rattle.std.specs.Prelude.{filter_map}
use Rattle.std.specs.List.{range_with_len}
use Rattle.osek_machine.specs.Machine.{state_of}
use Rattle.replay.specs.Working.Rounds.{open_at}
use Rattle.replay.proofs.playing.push_open.Given as goal

abbrev pub invariant-loop-task : goal.invariant-loop-task
invariant-loop-task l =
    l.responses ≡ l.initial.responses ++ filter_map (open_at (state_of l.player.machine).moment l.player.active.items) (range_with_len 0 l.task)
