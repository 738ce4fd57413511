-- The instruction doesn't break.
use Rattle.std.proofs.Common.{subst}
use Rattle.osek_machine.specs.Machine.{state_of}
use Rattle.replay.specs.Working.Moves.{RunsAt}
use Rattle.replay.proofs.Running.{never_breaks}
use Rattle.replay.proofs.player.Player.run_insn.Goals as goal

pub unreachable-requires : goal.unreachable-requires
unreachable-requires c =
    never_breaks c.args.plant.now c.args.self.now c.args.context c.args.place c.requires.ready
    (subst (λ insn. RunsAt c.args.plant.now.image c.args.plant.now.system (state_of c.args.self.now.machine) c.args.context c.args.place insn) c.in-Ebreak.is c.requires.runs)
