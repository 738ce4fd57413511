-- Worked windows: a task that is active at the start calls a service, an ISR is taken and ends, and the task ends.
use Rattle.std.specs.Prelude.{◌≡◌, ℕ, false, List, [], ◌∷◌, Option, Some, None, refl}
use Rattle.elf_image.specs.Image.{ImageData}
use Rattle.oil_model.specs.declared.system.System.{System}
use Rattle.timing_file.specs.declared.timing.Timing.{Timing}
use Rattle.rv32_machine.specs.ContextStep.{Standing}
use Rattle.osek_kernel.specs.declared.context.Context.TheVariants as contexts
use Rattle.osek_kernel.specs.declared.context.Context.{Context}
use Rattle.osek_kernel.specs.declared.kernel.Reply.{Reply}
use Rattle.osek_kernel.specs.declared.service.Code.TheVariants.{Done}
use Rattle.osek_kernel.specs.declared.service.Service.TheVariants.{Schedule, TerminateTask, EndIsr}
use Rattle.osek_kernel.specs.Served.{going_on}
use Rattle.osek_machine.specs.Events.{Taking, ServiceCall, Take, Serve}
use Rattle.wcet_atomic_blocks.specs.declared.block.Block.{Block}
use Rattle.wcet_atomic_blocks.specs.Blocks.{at_entry, behind}
use Rattle.wcet_atomic_blocks.specs.Cases.{worked}
use Rattle.wcet_atomic_blocks.specs.Plants.{PlantData}
use Rattle.abstract_sched.specs.declared.states.AbsState.{AbsState}
use Rattle.abstract_sched.specs.declared.states.TaskAt.TheVariants.{Suspended, At}
use Rattle.scheduler_moves.specs.declared.moves.MoveLabel.TheVariants as labels
use Rattle.row_build.specs.Columns.{Going, Column, In, Starts, Moves, Begins, Stands}
use Rattle.activation_windows.specs.Windows.{Window, open_window, closed_uses}

-- ---- A task that asks for service 12 in a function, and an ISR

abbrev one_task : System
one_task = record {
  tasks = record { name = []; priority = 1; resources = []; modes = 0 ∷ []; inner = None } ∷ [];
  isrs = record { name = [] } ∷ [];
  resources = [];
  alarms = [];
  counters = [];
  modes = [] ∷ [];
}

-- the entry of the task, what is behind its service, and the entry of the ISR
abbrev its_blocks : List Block
its_blocks =
    record { begin = at_entry 0 0; nodes = 5 ∷ []; exits = 2 ∷ [] }
    ∷ record { begin = behind 0 2 3; nodes = 10 ∷ []; exits = 1 ∷ [] }
    ∷ record { begin = at_entry 1 4; nodes = 16 ∷ []; exits = 4 ∷ [] }
    ∷ []

-- the image and the timing don't count here
abbrev plant_of : ImageData → Timing → PlantData
plant_of image timing = record {
  image = image;
  system = one_task;
  timing = timing;
  flow = worked;
  blocks = record { blocks = its_blocks; entries = 0 ∷ 2 ∷ []; afters = None ∷ None ∷ Some 1 ∷ None ∷ None ∷ [] };
}

abbrev at_service : Standing
at_service = record { registers = []; place = 0x200; calls = 0x100 ∷ [] }

abbrev call : ServiceCall
call = record { caller = contexts.Task 0; before = at_service; service = Schedule; reply = going_on Done; registers = []; cycles = 5 }

abbrev interrupt : Taking
interrupt = record { source = 0; started = Some (contexts.Isr 0); registers = []; cycles = 3 }

abbrev ending : Context → Reply
ending caller = record { code = Done; misuse = false; ended = Some caller; activated = None }

abbrev isr_end : ServiceCall
isr_end = record {
  caller = contexts.Isr 0;
  before = record { registers = []; place = 0x300; calls = [] };
  service = EndIsr;
  reply = ending (contexts.Isr 0);
  registers = [];
  cycles = 2;
}

abbrev task_end : ServiceCall
task_end = record {
  caller = contexts.Task 0;
  before = record { registers = []; place = 0x104; calls = [] };
  service = TerminateTask;
  reply = ending (contexts.Task 0);
  registers = [];
  cycles = 4;
}

-- the scheduler state in which the task stands at this block, and the ISR at that one, if it is active
abbrev at_blocks : ℕ → Option ℕ → AbsState
at_blocks block None = record { mode = 0; tasks = At block false [] ∷ []; isr = None; disabled = false; suspended = 0 }
at_blocks block (Some other) =
    record { mode = 0; tasks = At block false [] ∷ []; isr = Some (record { isr = 0; block = other }); disabled = false; suspended = 0 }

abbrev calling : Going
calling = record { from = at_blocks 0 None; move = record { label = labels.Service 2; to = at_blocks 1 None } }

abbrev interrupting : Going
interrupting = record { from = at_blocks 1 None; move = record { label = labels.Take 0; to = at_blocks 1 (Some 2) } }

abbrev isr_ending : Going
isr_ending = record { from = at_blocks 1 (Some 2); move = record { label = labels.Service 4; to = at_blocks 1 None } }

abbrev task_ending : Going
task_ending = record {
  from = at_blocks 1 None;
  move = record { label = labels.Service 1; to = record { mode = 0; tasks = Suspended ∷ []; isr = None; disabled = false; suspended = 0 } };
}

-- ---- Its window

-- these columns are used, and no visit waits
abbrev has_used : List Column → Option Window
has_used uses = Some (record { uses = uses; waiting = None ∷ None ∷ [] })

-- the task runs at once, from the node of its entry
opened_case : (image : ImageData) (timing : Timing) → open_window (plant_of image timing) 0 0 [] ≡ has_used (Stands 0 ∷ Starts (In 0) ∷ [])
opened_case image timing = refl

-- it runs on in the block behind the service
called_case
    : (image : ImageData) (timing : Timing)
    → open_window (plant_of image timing) 0 0 (Serve call ∷ []) ≡ has_used (Begins 1 ∷ Moves calling ∷ Stands 0 ∷ Starts (In 0) ∷ [])
called_case image timing = refl

-- the ISR runs in the block of its entry
interrupted_case
    : (image : ImageData) (timing : Timing)
    → open_window (plant_of image timing) 0 0 (Take interrupt ∷ Serve call ∷ [])
    ≡ has_used (Begins 2 ∷ Moves interrupting ∷ Begins 1 ∷ Moves calling ∷ Stands 0 ∷ Starts (In 0) ∷ [])
interrupted_case image timing = refl

-- it ends, and the task runs on in the block that it has begun
resumed_case
    : (image : ImageData) (timing : Timing)
    → open_window (plant_of image timing) 0 0 (Serve isr_end ∷ Take interrupt ∷ Serve call ∷ [])
    ≡ has_used (Moves isr_ending ∷ Begins 2 ∷ Moves interrupting ∷ Begins 1 ∷ Moves calling ∷ Stands 0 ∷ Starts (In 0) ∷ [])
resumed_case image timing = refl

-- the task ends by one more move, and its window is closed
closed_case
    : (image : ImageData) (timing : Timing)
    → closed_uses (plant_of image timing) 0 0 (Serve task_end) (Serve call ∷ [])
    ≡ Some (Moves task_ending ∷ Begins 1 ∷ Moves calling ∷ Stands 0 ∷ Starts (In 0) ∷ [])
closed_case image timing = refl

nothing_open_case
    : (image : ImageData) (timing : Timing) → open_window (plant_of image timing) 0 0 (Serve task_end ∷ Serve call ∷ []) ≡ None
nothing_open_case image timing = refl
