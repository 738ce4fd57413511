-- The running context exists, and the step is that of the instruction.
use Rattle.std.proofs.Common.{◌≡◌, ap, rules, ◌∙◌, length}
use Rattle.std.proofs.lemmas.List.{with_items_is}
use Rattle.osek_machine.specs.declared.machine.Machine.{Machine}
use Rattle.rv32_machine.specs.Memory.{memory_of}
use Rattle.osek_machine.specs.Machine.{state_of}
use Rattle.osek_machine.proofs.Made.{executed_there, made_insn}
use Rattle.osek_machine.proofs.Kept.{running_exists}
use Rattle.osek_machine.proofs.machine.Machine.execute.Goals as goal

pub place-place-requires-clause-exists : goal.place-place-requires-clause-exists
place-place-requires-clause-exists c = running_exists c.args.system.now (state_of c.args.self.now) c.args.context c.requires.fits.room c.requires.running

pub returns-clause-step : goal.returns-clause-step
returns-clause-step c =
    let before = c.args.self.now in
    let after = c.pass.new.self in
    let memory : after.memory ≡ c.execute_at.new.memory = search rules in
    let long : length c.execute_at.new.stances ≡ before.stances.len = search rules in
    let stances : after.stances.items ≡ c.execute_at.new.stances =
    ap (λ (m : Machine). m.stances.items) c.pass.ensures ∙ with_items_is before.stances c.execute_at.new.stances long in
    made_insn c.args.image.now c.args.system.now c.args.device c.args.cycles before after c.args.context c.args.at c.address_at.result c.args.insn.now
    c.in_ok-stepped.stepped c.requires.fits c.requires.running c.requires.here
    (executed_there c.in_ok-stepped.ensures.ok (ap memory_of memory) c.deref_mut.ensures.value stances c.place-place.ensures)
    (search rules) (search rules) (search rules) (search rules) (search rules)
