-- Worked cases: what is recorded of a task that calls a service in a function, executes, is interrupted and idles.
use Rattle.std.specs.Prelude.{◌≡◌, ℕ, false, List, [], ◌∷◌, Some, None, refl}
use Rattle.oil_model.specs.declared.system.System.{System}
use Rattle.osek_kernel.specs.declared.context.Context.TheVariants as contexts
use Rattle.osek_kernel.specs.declared.service.Code.TheVariants.{Done}
use Rattle.osek_kernel.specs.declared.service.Service.TheVariants.{Schedule, EndIsr}
use Rattle.osek_kernel.specs.Served.{going_on}
use Rattle.rv32_machine.specs.ContextStep.{Standing}
use Rattle.osek_machine.specs.Events.{Event, Arrive, Take, Execute, Serve, Idle}
use Rattle.trace_check.specs.declared.trace.Event.TheVariants as traces
use Rattle.trace_record.specs.Recording.{recording_of}

abbrev one_task : System
one_task = record {
  tasks = record { name = []; priority = 1; resources = []; modes = 0 ∷ []; inner = None } ∷ [];
  isrs = record { name = [] } ∷ [];
  resources = [];
  alarms = [];
  counters = [];
  modes = [] ∷ [];
}

abbrev standing_at : ℕ → List ℕ → Standing
standing_at place calls = record { registers = []; place = place; calls = calls }

-- the task calls a service inside the function that it called at 0x100, then goes on for 2 cycles
abbrev calls_service : Event
calls_service = Serve (record {
  caller = contexts.Task 0;
  before = standing_at 0x200 (0x100 ∷ []);
  service = Schedule;
  reply = going_on Done;
  registers = [];
  cycles = 5;
})

abbrev executes : Event
executes = Execute (record {
  context = contexts.Task 0;
  before = standing_at 0x204 (0x100 ∷ []);
  after = standing_at 0x208 (0x100 ∷ []);
  stored = None;
  device = 0;
  cycles = 2;
})

-- the ISR has arrived meanwhile, is taken, and ends
abbrev arrives : Event
arrives = Arrive (record { source = 0; moment = 6 })

abbrev interrupts : Event
interrupts = Take (record { source = 0; started = Some (contexts.Isr 0); registers = []; cycles = 3 })

abbrev ends_isr : Event
ends_isr = Serve (record {
  caller = contexts.Isr 0;
  before = standing_at 0x300 [];
  service = EndIsr;
  reply = record { code = Done; misuse = false; ended = Some (contexts.Isr 0); activated = None };
  registers = [];
  cycles = 4;
})

empty_case : recording_of one_task 0 [] ≡ record { mode = 0; end = 0; events = [] }
empty_case = refl

-- the ISR stands behind the task among the contexts, and is the first source
recorded_case
    : recording_of one_task 0 (Idle 6 ∷ ends_isr ∷ interrupts ∷ arrives ∷ executes ∷ calls_service ∷ [])
    ≡ record {
      mode = 0;
      end = 20;
      events = traces.Service 0 5 0 (0x100 ∷ []) 0x200 ∷ traces.Arrive 6 0 ∷ traces.Take 7 10 0 ∷ traces.Service 10 14 1 [] 0x300 ∷ [];
    }
recorded_case = refl
