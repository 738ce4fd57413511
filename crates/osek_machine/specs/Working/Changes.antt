-- What the ends of steps change in a machine.
use Rattle.std.specs.Prelude.{ℕ, ◌+◌}
use Rattle.oil_model.specs.declared.system.System.{System}
use Rattle.osek_kernel.specs.Running.{runs, dispatched}
use Rattle.osek_machine.specs.declared.machine.Machine.{Machine}

-- so many cycles pass
abbrev pub passed : ℕ → Machine → Machine
passed cycles machine = record machine { moment = machine.moment + cycles; last_start = machine.moment }

-- the running context is dispatched
abbrev pub settled : System → Machine → Machine
settled system machine =
    let kernel = dispatched system machine.kernel in
    record machine { kernel = kernel; running = runs system kernel }
