-- One more task's response.
use Rattle.std.proofs.Common.{◌≡◌, ◌<◌, ℕ, length, None, ap, ◌∙◌, arith}
use Rattle.std.specs.Prelude.{option_map}
use Rattle.std.proofs.lemmas.List.{get_or_read}
use Rattle.osek_machine.specs.Machine.{state_of}
use Rattle.replay.specs.Working.Rounds.{open_at, open_response}
use Rattle.replay.proofs.Rounds.{open_more}
use Rattle.replay.proofs.playing.push_open.Goals as goal

pub loop-task-preserved : goal.loop-task-preserved
loop-task-preserved c =
    let task = c.loop-task.task in
    let active = c.args.player.now.active.items in
    let moment = (state_of c.args.player.now.machine).moment in
    let long = c.len-task-end.ensures in let below = c.loop-task-test.true in
    let within : c.loop-task.task < length c.args.player.now.active.items = omega (arith, c.args.player.now.active.ok.0) in
    let at : c.open_at.result ≡ open_at moment active task =
    c.open_at.ensures ∙ (ap (λ (m : ℕ). option_map (open_response m task) c.index.result.now) c.moment-moment.ensures
    ∙ ap (option_map (open_response moment task)) (get_or_read active task c.index.result.now within c.index.ensures None)) in
    open_more moment active c.args.responses.now c.loop-task.responses c.push_some.new.responses task c.open_at.result c.loop-task.invariant at c.in_ok-push_some.ensures
