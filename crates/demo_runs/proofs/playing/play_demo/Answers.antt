use Rattle.demo_runs.proofs.Scheduled.{schedule_lawful}
use Rattle.demo_runs.proofs.playing.play_demo.Goals as goal

pub play-requires : goal.play-requires
play-requires c = rw (c.requires.1.plant_is.system_is, c.in_ok-schedule.ensures) (schedule_lawful c.requires.0 c.args.count c.requires.1.few)
