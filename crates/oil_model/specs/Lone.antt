-- The system of one task, which is started in the only mode.
use Rattle.std.specs.Prelude.{[], ◌∷◌, None, codes}
use Rattle.oil_model.specs.declared.system.Task.{Task}
use Rattle.oil_model.specs.declared.system.System.{System}
use Rattle.oil_model.specs.Meaning.{scheduler_resource}

abbrev pub lone_task : Task
lone_task = record { name = codes "T"; priority = 1; resources = []; modes = 0 ∷ []; inner = None }

abbrev pub the_lone_system : System
the_lone_system = record { tasks = lone_task ∷ []; isrs = []; resources = scheduler_resource 1 ∷ []; alarms = []; counters = []; modes = codes "Main" ∷ [] }
