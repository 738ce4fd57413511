-- The machine begins as the mode does.
use Rattle.std.proofs.Common.{◌∙◌, ap, refl, replicate, false}
use Rattle.osek_machine.specs.declared.machine.Machine.{Machine}
use Rattle.osek_machine.proofs.Starting.{begins}
use Rattle.osek_machine.proofs.start.begin.Goals as goal

pub returns : goal.returns
returns c =
    let machine : Machine = record {
      kernel = c.in_ok-kernel.kernel;
      stances = c.in_ok-stances.stances;
      memory = c.in_ok-memory.memory;
      pending = c.in_ok-pending.pending;
      moment = 0;
      last_start = 0;
      code = c.in_ok-code.code;
      running = c.running-running.result;
    } in
    begins c.args.image.now c.args.system.now c.args.mode machine c.requires.mode c.requires.lawful c.requires.entries c.in_ok-kernel.ensures c.in_ok-stances.ensures
    c.in_ok-memory.ensures (c.in_ok-pending.ensures ∙ ap (λ n. replicate n false) c.count.ensures) refl refl c.running-running.ensures c.in_ok-code.ensures
