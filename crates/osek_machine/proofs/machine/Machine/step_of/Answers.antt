-- The running context exists, and stands at the instruction.
use Rattle.std.proofs.Common.{◌≡◌, sym, subst, rules}
use Rattle.std.specs.Prelude.{Err}
use Rattle.osek_kernel.specs.Contexts.{place_of}
use Rattle.osek_machine.specs.Machine.{StepGives, state_of}
use Rattle.osek_machine.specs.Working.Stances.{address_at}
use Rattle.osek_machine.proofs.Kept.{running_exists}
use Rattle.osek_machine.proofs.Made.{stands_at, stuck_here}
use Rattle.osek_machine.proofs.machine.Machine.step_of.Goals as goal

pub place-requires-clause-exists : goal.place-requires-clause-exists
place-requires-clause-exists c = running_exists c.args.system.now (state_of c.args.self.now) c.args.context c.requires.fits.room c.requires.running

pub act-requires-clause-here : goal.act-requires-clause-here
act-requires-clause-here c =
    stands_at c.args.image.now c.args.system.now c.args.self.now c.args.context c.address_at-at.result c.in-Some.insn c.requires.fits c.requires.running
    (search rules) (search rules)

pub returns-in-None-clause-step : goal.returns-in-None-clause-step
returns-in-None-clause-step c =
    let system = c.args.system.now in
    let before = c.args.self.now in
    let at : c.address_at-at.result ≡ address_at before.stances.items (place_of system c.args.context) = search rules in
    subst (λ e. StepGives c.args.image.now system c.args.device c.args.cycles (state_of before) (state_of before) (Err e)) (sym c.stuck.ensures)
    (stuck_here c.args.image.now system c.args.device c.args.cycles before c.args.context c.address_at-at.result c.requires.fits c.requires.running at (search rules))
