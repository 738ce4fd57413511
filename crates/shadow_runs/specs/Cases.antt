-- Worked cases of shadows.
use Rattle.std.specs.Prelude.{◌≡◌, ℕ, false, List, [], ◌∷◌, Option, Some, None, Ok, refl}
use Rattle.elf_image.specs.Image.{ImageData}
use Rattle.oil_model.specs.declared.system.System.{System}
use Rattle.timing_file.specs.declared.timing.Timing.{Timing}
use Rattle.rv32_machine.specs.ContextStep.{Standing}
use Rattle.osek_kernel.specs.declared.context.Context.TheVariants as contexts
use Rattle.osek_kernel.specs.declared.service.Code.TheVariants.{Done}
use Rattle.osek_kernel.specs.declared.service.Service.TheVariants.{Schedule}
use Rattle.osek_kernel.specs.Kernel.{fresh}
use Rattle.osek_kernel.specs.Served.{going_on}
use Rattle.osek_machine.specs.State.{MachineState}
use Rattle.osek_machine.specs.Events.{Taking, ServiceCall, Take, Serve}
use Rattle.wcet_atomic_blocks.specs.declared.block.Block.{Block}
use Rattle.wcet_atomic_blocks.specs.Blocks.{at_entry, behind}
use Rattle.wcet_atomic_blocks.specs.Cases.{worked}
use Rattle.wcet_atomic_blocks.specs.Plants.{PlantData}
use Rattle.abstract_sched.specs.declared.states.AbsState.{AbsState}
use Rattle.abstract_sched.specs.declared.states.TaskAt.TheVariants.{At}
use Rattle.scheduler_moves.specs.declared.moves.MoveLabel.TheVariants as labels
use Rattle.scheduler_moves.specs.Moves.{initial, successors}
use Rattle.shadow_runs.specs.Shadow.{node_of, begun, shadow}

-- ---- A task that asks for service 12 in a function, returns and ends, and an ISR that ends

abbrev one_task : System
one_task = record {
  tasks = record { name = []; priority = 1; resources = []; modes = 0 ∷ []; inner = None } ∷ [];
  isrs = record { name = [] } ∷ [];
  resources = [];
  alarms = [];
  counters = [];
  modes = [] ∷ [];
}

-- the entry of the task, what is behind its service, and the entry of the ISR
abbrev its_blocks : List Block
its_blocks =
    record { begin = at_entry 0 0; nodes = 5 ∷ []; exits = 2 ∷ [] }
    ∷ record { begin = behind 0 2 3; nodes = 10 ∷ []; exits = 1 ∷ [] }
    ∷ record { begin = at_entry 1 4; nodes = 16 ∷ []; exits = 4 ∷ [] }
    ∷ []

-- the image and the timing don't count here
abbrev plant_of : ImageData → Timing → PlantData
plant_of image timing = record {
  image = image;
  system = one_task;
  timing = timing;
  flow = worked;
  blocks = record { blocks = its_blocks; entries = 0 ∷ 2 ∷ []; afters = None ∷ None ∷ Some 1 ∷ None ∷ None ∷ [] };
}

-- ---- The task calls its service, then the ISR is taken

abbrev at_service : Standing
at_service = record { registers = []; place = 0x200; calls = 0x100 ∷ [] }

abbrev call : ServiceCall
call = record { caller = contexts.Task 0; before = at_service; service = Schedule; reply = going_on Done; registers = []; cycles = 5 }

abbrev interrupt : Taking
interrupt = record { source = 0; started = Some (contexts.Isr 0); registers = []; cycles = 3 }

-- where the contexts stand then doesn't count either
abbrev state_with : Option ℕ → MachineState
state_with isr = record {
  kernel = record { mode = 0; tasks = Some fresh ∷ []; isr = isr; disabled = false; suspended = 0 };
  standings = [];
  memory = λ address. None;
  pending = [];
  moment = 8;
  last_start = 5;
}

-- the scheduler state in which the task stands at this block, and the ISR at that one, if it is active
abbrev at_blocks : ℕ → Option ℕ → AbsState
at_blocks block None = record { mode = 0; tasks = At block false [] ∷ []; isr = None; disabled = false; suspended = 0 }
at_blocks block (Some other) =
    record { mode = 0; tasks = At block false [] ∷ []; isr = Some (record { isr = 0; block = other }); disabled = false; suspended = 0 }

node_case : (image : ImageData) (timing : Timing) → node_of (plant_of image timing) (contexts.Task 0) at_service ≡ Some 2
node_case image timing = refl

start_case : (image : ImageData) (timing : Timing) → begun (plant_of image timing) 0 [] ≡ Some 0 ∷ None ∷ []
start_case image timing = refl

served_case : (image : ImageData) (timing : Timing) → shadow (plant_of image timing) 0 (Serve call ∷ []) (state_with None) ≡ at_blocks 1 None
served_case image timing = refl

taken_case
    : (image : ImageData) (timing : Timing)
    → shadow (plant_of image timing) 0 (Take interrupt ∷ Serve call ∷ []) (state_with (Some 0)) ≡ at_blocks 1 (Some 2)
taken_case image timing = refl

-- the service is the second move of the state at the start
moves_case
    : (image : ImageData) (timing : Timing)
    → successors (plant_of image timing) (initial (plant_of image timing) 0)
    ≡ Ok (record { label = labels.Take 0; to = at_blocks 0 (Some 2) } ∷ record { label = labels.Service 2; to = at_blocks 1 None } ∷ [])
moves_case image timing = refl
