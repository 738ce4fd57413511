use Rattle.std.proofs.Common.{◌≡◌, ◌++◌, map, take}
use Rattle.demo_gen.specs.Demo as words
use Rattle.demo_gen.proofs.objects.put_alarms.Given as goal

abbrev pub invariant-loop-task : goal.invariant-loop-task
invariant-loop-task l = l.objects ≡ l.fn.objects ++ map words.alarm_object (take l.task-index l.tasks)
