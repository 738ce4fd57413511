use Rattle.std.proofs.Common.{◌≡◌, Some, ◌∙◌, ap}
use Rattle.rv32_machine.specs.declared.turns.Turn.TheVariants.{Calling}
use Rattle.replay.proofs.LapsSteps.{turns_in_call}
use Rattle.replay.proofs.laps.invocations.Invocations.go_on.Goals as goal

pub returns-in-Some-Calling-clause-changes : goal.returns-in-Some-Calling-clause-changes
returns-in-Some-Calling-clause-changes c =
    let is : c.in-Some-Calling.field-0 ≡ Calling c.in-Some-Calling.field-0-0 = rw c.in-Some-Calling.is at c.in-Some-Calling.field-0-is in
    turns_in_call c.args.loops.now c.args.turn c.in-Some-Calling.field-0-0 c.args.from c.args.to c.args.call c.args.self.now c.call.new.self
    (c.in-Some-Calling.is ∙ ap Some is) c.call.ensures.changes
