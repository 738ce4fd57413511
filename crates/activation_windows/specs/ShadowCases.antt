-- Worked cases: the shadows along a run of two small systems.
use Rattle.std.specs.Prelude.{◌≡◌, ℕ, zero, suc, ◌+◌, true, false, List, [], ◌∷◌, ◌++◌, codes, replicate, Option, Some, None, refl}
use Rattle.elf_image.specs.Image.{ImageData}
use Rattle.oil_model.specs.declared.system.System.{System}
use Rattle.timing_file.specs.declared.timing.Timing.{Timing}
use Rattle.rv32_machine.specs.Registers.{zeros, with_value}
use Rattle.osek_kernel.specs.declared.context.Context.{Context}
use Rattle.osek_kernel.specs.declared.context.Context.TheVariants as contexts
use Rattle.osek_kernel.specs.declared.kernel.Reply.{Reply}
use Rattle.osek_kernel.specs.declared.service.Code.TheVariants.{Done}
use Rattle.osek_kernel.specs.declared.service.Service.{Service}
use Rattle.osek_kernel.specs.declared.service.Service.TheVariants.{ActivateTask, TerminateTask, GetResource, ReleaseResource, Schedule, EndIsr}
use Rattle.osek_kernel.specs.Served.{going_on}
use Rattle.osek_machine.specs.Events.{Event, Take, Serve}
use Rattle.flow_graph.specs.declared.node.Node.{Node}
use Rattle.wcet_atomic_blocks.specs.Plants.{PlantData}
use Rattle.abstract_sched.specs.declared.states.AbsState.{AbsState}
use Rattle.abstract_sched.specs.declared.states.IsrAt.{IsrAt}
use Rattle.abstract_sched.specs.declared.states.TaskAt.{TaskAt}
use Rattle.abstract_sched.specs.declared.states.TaskAt.TheVariants.{Suspended, At}
use Rattle.activation_windows.specs.Windows.{shadow_after}

-- ---- Words

-- the nodes of so many words without a branch or call
abbrev straight : ℕ → ℕ → ℕ → List Node
straight context address zero = []
straight context address (suc more) = record { context = context; sites = []; address = address } ∷ straight context (address + 4) more

-- of the flow only the nodes count here, and of the blocks only entries and those behind services
abbrev plant_of : ImageData → Timing → System → List Node → List ℕ → List (Option ℕ) → PlantData
plant_of image timing system nodes entries afters = record {
  image = image;
  system = system;
  timing = timing;
  flow = record { nodes = nodes; leaving = [] };
  blocks = record { blocks = []; entries = entries; afters = afters };
}

abbrev calls : Context → ℕ → Service → ℕ → Reply → Event
calls caller place service argument reply = Serve (record {
  caller = caller;
  before = record { registers = with_value zeros 10 argument; place = place; calls = [] };
  service = service;
  reply = reply;
  registers = zeros;
  cycles = 10;
})

abbrev ending : Context → Reply
ending caller = record { code = Done; misuse = false; ended = Some caller; activated = None }

abbrev activating : ℕ → Reply
activating task = record { code = Done; misuse = false; ended = None; activated = Some task }

abbrev takes : ℕ → Context → Event
takes source started = Take (record { source = source; started = Some started; registers = zeros; cycles = 10 })

-- the shadows after the steps, after those but the newest, and so on down to that at the start
abbrev shadows : PlantData → List Event → List AbsState
shadows plant [] = shadow_after plant 0 [] ∷ []
shadows plant (event ∷ earlier) = shadow_after plant 0 (event ∷ earlier) ∷ shadows plant earlier

abbrev state_of : List TaskAt → Option IsrAt → AbsState
state_of tasks isr = record { mode = 0; tasks = tasks; isr = isr; disabled = false; suspended = 0 }

abbrev isr_at : ℕ → Option IsrAt
isr_at block = Some (record { isr = 0; block = block })

-- ---- A task that holds a resource while an ISR activates a task that names the same resource
-- Task 0 takes resource 0 at 0x108, gives it back at 0x11c and ends at 0x128; task 1 ends at 0x134; the ISR activates
-- task 1 at 0x140 and ends at 0x14c.

abbrev with_resource : System
with_resource = record {
  tasks = record { name = codes "L"; priority = 1; resources = 0 ∷ []; modes = 0 ∷ []; inner = None }
      ∷ record { name = codes "T"; priority = 2; resources = 0 ∷ []; modes = []; inner = None } ∷ [];
  isrs = record { name = codes "I" } ∷ [];
  resources = record { name = codes "R"; ceiling = 2; internal = false } ∷ record { name = codes "RES_SCHEDULER"; ceiling = 2; internal = false } ∷ [];
  alarms = [];
  counters = [];
  modes = codes "Main" ∷ [];
}

-- blocks 0 to 2 are task 0's, 3 is task 1's, and 4 and 5 are the ISR's
abbrev locked : ImageData → Timing → PlantData
locked image timing =
    plant_of image timing with_resource (straight 0 0x100 11 ++ (straight 1 0x12c 3 ++ straight 2 0x138 6)) (0 ∷ 3 ∷ 4 ∷ [])
    (None ∷ None ∷ Some 1 ∷ replicate 4 None ++ (Some 2 ∷ replicate 8 None ++ (Some 5 ∷ None ∷ None ∷ None ∷ [])))

abbrev locked_run : List Event
locked_run =
    calls (contexts.Task 0) 0x128 TerminateTask 0 (ending (contexts.Task 0))
    ∷ calls (contexts.Task 1) 0x134 TerminateTask 0 (ending (contexts.Task 1))
    ∷ calls (contexts.Task 0) 0x11c ReleaseResource 0 (going_on Done)
    ∷ calls (contexts.Isr 0) 0x14c EndIsr 0 (ending (contexts.Isr 0))
    ∷ calls (contexts.Isr 0) 0x140 ActivateTask 1 (activating 1)
    ∷ takes 0 (contexts.Isr 0)
    ∷ calls (contexts.Task 0) 0x108 GetResource 0 (going_on Done)
    ∷ []

locked_case
    : (image : ImageData) (timing : Timing)
    → shadows (locked image timing) locked_run
    ≡ state_of (Suspended ∷ Suspended ∷ []) None
    ∷ state_of (At 2 false [] ∷ Suspended ∷ []) None
    ∷ state_of (At 2 false [] ∷ At 3 false [] ∷ []) None
    ∷ state_of (At 1 false (0 ∷ []) ∷ At 3 false [] ∷ []) None
    ∷ state_of (At 1 false (0 ∷ []) ∷ At 3 false [] ∷ []) (isr_at 5)
    ∷ state_of (At 1 false (0 ∷ []) ∷ Suspended ∷ []) (isr_at 4)
    ∷ state_of (At 1 false (0 ∷ []) ∷ Suspended ∷ []) None
    ∷ state_of (At 0 false [] ∷ Suspended ∷ []) None
    ∷ []
locked_case image timing = refl

-- ---- A task that can't be preempted but where it calls Schedule
-- Task 0 calls Schedule at 0x108 and ends at 0x114; an alarm activates task 1 before, which ends at 0x120.

abbrev not_preemptable : System
not_preemptable = record {
  tasks = record { name = codes "T"; priority = 1; resources = []; modes = 0 ∷ []; inner = Some 2 }
      ∷ record { name = codes "H"; priority = 2; resources = []; modes = []; inner = None } ∷ [];
  isrs = [];
  resources = record { name = codes "RES_SCHEDULER"; ceiling = 2; internal = false } ∷ [];
  alarms = record { name = codes "Tick"; counter = 0; task = 1; cycle = 1000; modes = 0 ∷ [] } ∷ [];
  counters = codes "C" ∷ [];
  modes = codes "Main" ∷ [];
}

abbrev asking : ImageData → Timing → PlantData
asking image timing =
    plant_of image timing not_preemptable (straight 0 0x100 6 ++ straight 1 0x118 3) (0 ∷ 2 ∷ [])
    (None ∷ None ∷ Some 1 ∷ replicate 6 None)

abbrev asking_run : List Event
asking_run =
    calls (contexts.Task 0) 0x114 TerminateTask 0 (ending (contexts.Task 0))
    ∷ calls (contexts.Task 1) 0x120 TerminateTask 0 (ending (contexts.Task 1))
    ∷ calls (contexts.Task 0) 0x108 Schedule 0 (going_on Done)
    ∷ takes 0 (contexts.Task 1)
    ∷ []

asking_case
    : (image : ImageData) (timing : Timing)
    → shadows (asking image timing) asking_run
    ≡ state_of (Suspended ∷ Suspended ∷ []) None
    ∷ state_of (At 1 true [] ∷ Suspended ∷ []) None
    ∷ state_of (At 1 false [] ∷ At 2 false [] ∷ []) None
    ∷ state_of (At 0 true [] ∷ At 2 false [] ∷ []) None
    ∷ state_of (At 0 true [] ∷ Suspended ∷ []) None
    ∷ []
asking_case image timing = refl
