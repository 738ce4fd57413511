use Rattle.std.proofs.Common.{◌≡◌, ◌++◌}
use Rattle.split_search.specs.Working.Flags.{mode_flags}
use Rattle.split_search.proofs.takes.push_modes.Given as goal

abbrev pub invariant-loop-mode : goal.invariant-loop-mode
invariant-loop-mode l = l.found ≡ l.initial.found ++ mode_flags l.plant l.task l.mode
