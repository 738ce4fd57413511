use Rattle.std.proofs.Common.{◌≡◌, map, take}
use Rattle.serde_json.specs.View.{view}
use Rattle.demo_gen.specs.Demo as words
use Rattle.demo_gen.specs.Texts.{loop_data}
use Rattle.demo_gen.proofs.timing.loops_value.Given as goal

abbrev pub invariant-loop-task : goal.invariant-loop-task
invariant-loop-task l = map view l.values.items ≡ map (λ task. loop_data (words.loop_of task)) (take l.task-index l.tasks)
