-- Who starts exists, and the machine fits after the step.
use Rattle.std.proofs.Common.{ap, sym, refl, ◌∙◌, ◌<◌, ◌≡◌, length, arith, rules}
use Rattle.std.proofs.lemmas.List.{with_items_is}
use Rattle.osek_machine.specs.declared.machine.Machine.{Machine}
use Rattle.osek_kernel.specs.Sources.{source_count}
use Rattle.osek_kernel.specs.Taken.{taken}
use Rattle.osek_machine.specs.Events.{Take}
use Rattle.osek_machine.specs.Steps.{Takes}
use Rattle.osek_machine.specs.Machine.{state_of, taking_of}
use Rattle.osek_machine.proofs.Kept.{pending_within}
use Rattle.osek_machine.specs.Working.Stances.{started_in}
use Rattle.osek_machine.proofs.Changed.{taken_state}
use Rattle.osek_machine.proofs.Machines.{started_exists, step_fits}
use Rattle.osek_machine.proofs.machine.Machine.take.Goals as goal

pub start_in-requires-clause-exists : goal.start_in-requires-clause-exists
start_in-requires-clause-exists c =
    let system = c.args.system.now in
    let before = c.args.self.now in
    let within : c.args.source < length before.pending.items = pending_within before.pending.items c.args.source c.requires.pending in
    let room : length before.pending.items ≡ source_count system = c.requires.fits.room.pending in
    let in_range : c.args.source < source_count system = omega arith in
    started_exists system before.kernel c.take-started.new.self c.take-started.result c.args.source c.requires.fits.lawful in_range
    (ap (taken system before.kernel) (sym c.at.ensures) ∙ c.take-started.ensures)

pub returns : goal.returns
returns c =
    let image = c.args.image.now in
    let system = c.args.system.now in
    let before = c.args.self.now in
    let after = c.pass.new.self in
    let long : length c.start_in.new.stances ≡ before.stances.len = search rules in
    let given : after.stances.items ≡ c.start_in.new.stances =
    ap (λ (m : Machine). m.stances.items) c.pass.ensures ∙ (ap (λ (m : Machine). m.stances.items) c.settle.ensures ∙ with_items_is before.stances c.start_in.new.stances long) in
    let stances : after.stances.items ≡ started_in image system c.take-started.result before.stances.items =
    given ∙ (c.start_in.ensures.stances ∙ ap (started_in image system c.take-started.result) c.deref_mut.ensures.value) in
    let step : Takes image system (taking_of image system c.args.source c.args.cycles (state_of before)) (state_of before) (state_of c.pass.new.self) = record {
      interrupts = c.requires.open;
      pending = c.requires.pending;
      registers = search rules;
      started = refl;
      becomes = taken_state image system c.args.source c.args.cycles before c.pass.new.self c.take-started.new.self c.take-started.result
          (ap (taken system before.kernel) (sym c.at.ensures) ∙ c.take-started.ensures)
          (search rules) stances (search rules) (search rules) (search rules) (search rules);
    } in
    record {
      step = step;
      fits = step_fits image system (Take (taking_of image system c.args.source c.args.cycles (state_of before))) before c.pass.new.self c.requires.fits step (search rules) (search rules);
    }
