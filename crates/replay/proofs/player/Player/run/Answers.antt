-- The running context is ready to make a step, and its step is one of the run.
use Rattle.std.proofs.Common.{sym, ◌∙◌}
use Rattle.replay.proofs.Running.{ready, run_gives}
use Rattle.replay.proofs.player.Player.run.Goals as goal

pub run_context-requires : goal.run_context-requires
run_context-requires c =
    ready c.args.plant.now c.args.schedule.now c.args.self.now _ c.requires.following.0 c.have_graph.ensures.graph c.have_graph.ensures.timing c.requires.lawful c.requires.following.1 c.requires.next
    (sym (c.running.ensures.runs c.args.plant.now.image c.args.plant.now.system c.requires.following.1.fits) ∙ c.in-Some.is)

pub returns : goal.returns
returns c = λ events follows.
    run_gives c.args.plant.now c.args.schedule.now events c.args.self.now c.run_context.new.self c.have_graph.ensures.timing c.requires.lawful follows c.requires.next
    c.run_context.result c.run_context.ensures
