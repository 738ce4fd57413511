-- The caller and the task exist, and the step is that of the service.
use Rattle.std.proofs.Common.{◌≡◌, ◌∙◌, ap, rules, length}
use Rattle.std.proofs.lemmas.List.{with_items_is}
use Rattle.osek_machine.specs.declared.machine.Machine.{Machine}
use Rattle.osek_machine.specs.Working.Stances.{answered_in}
use Rattle.osek_machine.specs.Events.{Serve}
use Rattle.osek_machine.specs.Machine.{MadeCall, state_of, call_of}
use Rattle.osek_machine.specs.declared.labels.Label.TheVariants as labels
use Rattle.osek_machine.proofs.Made.{made_call}
use Rattle.osek_machine.proofs.Machines.{activated_exists, step_fits}
use Rattle.osek_machine.proofs.Kept.{running_exists}
use Rattle.osek_machine.proofs.machine.Machine.serve.Goals as goal

pub answer_in-requires-clause-caller_exists : goal.answer_in-requires-clause-caller_exists
answer_in-requires-clause-caller_exists c = running_exists c.args.system.now (state_of c.args.self.now) c.args.caller c.requires.fits.room c.requires.running

pub answer_in-requires-clause-task_exists : goal.answer_in-requires-clause-task_exists
answer_in-requires-clause-task_exists c =
    activated_exists c.args.system.now c.args.self.now.kernel c.serve.new.self c.args.caller c.args.service c.args.request.argument c.in_ok-reply.reply
    c.requires.asks.taken c.in_ok-reply.ensures.served

pub returns : goal.returns
returns c =
    let image = c.args.image.now in
    let system = c.args.system.now in
    let before = c.args.self.now in
    let reply = c.in_ok-reply.reply in
    let after = c.pass.new.self in
    let long : length c.answer_in.new.stances ≡ before.stances.len = search rules in
    let given : after.stances.items ≡ c.answer_in.new.stances =
    ap (λ (m : Machine). m.stances.items) c.pass.ensures ∙ (ap (λ (m : Machine). m.stances.items) c.settle.ensures ∙ with_items_is before.stances c.answer_in.new.stances long) in
    let stances : after.stances.items ≡ answered_in image system c.args.caller reply before.stances.items =
    given ∙ (c.answer_in.ensures.stances ∙ ap (answered_in image system c.args.caller reply) c.deref_mut.ensures.value) in
    let made : MadeCall image system c.args.cycles (state_of before) (state_of c.pass.new.self) (labels.Service c.args.caller c.args.at c.args.request.number c.args.request.argument c.number.result reply.misuse) =
    made_call image system c.args.cycles before c.pass.new.self c.args.caller c.args.at c.args.service c.args.request c.serve.new.self reply c.number.result
    c.requires.fits c.requires.running c.requires.here c.requires.asked c.requires.asks c.in_ok-reply.ensures.served
    (search rules) (search rules) stances (search rules) (search rules) (search rules) (search rules) (search rules) in
    record {
      step = λ device. made;
      fits = step_fits image system (Serve (call_of image system c.args.cycles made.caller made.standing made.service (state_of before))) before c.pass.new.self c.requires.fits made.step (search rules) (search rules);
    }
