-- A small system, worked: task T of priority 1 is started in the only mode, and an alarm activates task H
-- of priority 2. Both may take the resource 0, and resource 1 is RES_SCHEDULER.
use Rattle.std.proofs.Common.{◌≡◌, ℕ, ◌+◌, List, [], ◌∷◌, true, false, Option, Some, None, refl}
use Rattle.std.specs.Prelude.{codes}
use Rattle.oil_model.specs.declared.system.Task.{Task}
use Rattle.oil_model.specs.declared.system.System.{System}
use Rattle.osek_kernel.specs.declared.context.Context.{Context}
use Rattle.osek_kernel.specs.declared.context.Context.TheVariants as contexts
use Rattle.osek_kernel.specs.declared.source.Source.TheVariants as sources
use Rattle.osek_kernel.specs.declared.service.Service.TheVariants as service
use Rattle.osek_kernel.specs.declared.service.Code.TheVariants as code
use Rattle.osek_kernel.specs.declared.kernel.Active.{Active}
use Rattle.osek_kernel.specs.declared.kernel.Kernel.{Kernel}
use Rattle.osek_kernel.specs.Kernel.{interrupts_open}
use Rattle.osek_kernel.specs.Running.{runs, dispatched}
use Rattle.osek_kernel.specs.Served.{served, goes_on, misuses}
use Rattle.osek_kernel.specs.Taken.{taken, initial}
use Rattle.osek_kernel.specs.Positions.{answered}

abbrev task : List ℕ → ℕ → List ℕ → Option ℕ → Task
task name priority modes inner = record { name = name; priority = priority; resources = 0 ∷ []; modes = modes; inner = inner }

-- with these inner ceilings of T and of H
abbrev system : Option ℕ → Option ℕ → System
system inner_t inner_h = record {
  tasks = task (codes "T") 1 (0 ∷ []) inner_t ∷ task (codes "H") 2 [] inner_h ∷ [];
  isrs = record { name = codes "I" } ∷ [];
  resources = record { name = codes "R"; ceiling = 2; internal = false } ∷ record { name = codes "RES_SCHEDULER"; ceiling = 2; internal = false } ∷ [];
  alarms = record { name = codes "Tick"; counter = 0; task = 1; cycle = 1000; modes = 0 ∷ [] } ∷ [];
  counters = codes "C" ∷ [];
  modes = codes "Main" ∷ [];
}

abbrev plain : System
plain = system None None

abbrev kernel : Option Active → Option Active → Kernel
kernel t h = record { mode = 0; tasks = t ∷ h ∷ []; isr = None; disabled = false; suspended = 0 }

abbrev ready : Option Active
ready = Some (record { inner = false; held = [] })

abbrev raised : Option Active
raised = Some (record { inner = true; held = [] })

abbrev holding : List ℕ → Option Active
holding held = Some (record { inner = false; held = held })

abbrev t : Context
t = contexts.Task 0

abbrev h : Context
h = contexts.Task 1

abbrev i : Context
i = contexts.Isr 0

-- the mode starts with T alone; the alarm makes H active, which preempts T
start : initial plain 0 ≡ kernel ready None
start = refl

alarm_starts_h : (taken plain (kernel ready None) (sources.Alarm 0)).kernel ≡ kernel ready ready
alarm_starts_h = refl

h_preempts : runs plain (kernel ready ready) ≡ Some h
h_preempts = refl

-- an alarm whose task is active does nothing
alarm_of_active : (taken plain (kernel ready ready) (sources.Alarm 0)).started ≡ None
alarm_of_active = refl

-- a T that holds the resource, whose ceiling is H's priority, isn't preempted by H, nor is an inner ceiling of 2
holder_goes_on : runs plain (kernel (holding (0 ∷ [])) ready) ≡ Some t
holder_goes_on = refl

starts_raised : initial (system (Some 2) None) 0 ≡ kernel raised None
starts_raised = refl

raised_goes_on : runs (system (Some 2) None) (kernel raised ready) ≡ Some t
raised_goes_on = refl

-- H is dispatched with its inner ceiling in force
dispatches_h : dispatched (system (Some 2) (Some 2)) (kernel None ready) ≡ kernel None raised
dispatches_h = refl

-- Schedule lets H go first
schedules : served plain (kernel raised ready) t service.Schedule 0 ≡ goes_on code.Done (kernel ready ready)
schedules = refl

-- an ISR runs before every task, and keeps interrupts shut
in_isr : Kernel
in_isr = record { mode = 0; tasks = ready ∷ ready ∷ []; isr = Some 0; disabled = false; suspended = 0 }

isr_runs : runs plain in_isr ≡ Some i
unfolding in_isr
isr_runs = refl

isr_shuts : interrupts_open in_isr ≡ false
unfolding in_isr
isr_shuts = refl

isr_ends : (served plain in_isr i service.EndIsr 0).kernel ≡ kernel ready ready
unfolding in_isr
isr_ends = refl

isr_may_not_terminate : served plain in_isr i service.TerminateTask 0 ≡ misuses code.CallLevel in_isr
unfolding in_isr
isr_may_not_terminate = refl

-- E_OS_LIMIT for an active task is no misuse
active_already : served plain (kernel ready ready) t service.ActivateTask 1 ≡ goes_on code.Limit (kernel ready ready)
active_already = refl

-- a task may chain itself, and none that is active
chains_itself : (served plain (kernel ready None) t service.ChainTask 0).reply ≡ record { code = code.Done; misuse = false; ended = Some t; activated = Some 0 }
chains_itself = refl

chains_active : served plain (kernel ready ready) h service.ChainTask 0 ≡ misuses code.Limit (kernel ready ready)
chains_active = refl

-- a task may not end with a resource held
ends_holding : served plain (kernel (holding (0 ∷ [])) None) t service.TerminateTask 0 ≡ misuses code.Resource (kernel (holding (0 ∷ [])) None)
ends_holding = refl

-- resources are given back in the other order
takes_both : (served plain (kernel (holding (0 ∷ [])) None) t service.GetResource 1).kernel ≡ kernel (holding (0 ∷ 1 ∷ [])) None
takes_both = refl

gives_last : (served plain (kernel (holding (0 ∷ 1 ∷ [])) None) t service.ReleaseResource 1).kernel ≡ kernel (holding (0 ∷ [])) None
gives_last = refl

gives_first : (served plain (kernel (holding (0 ∷ 1 ∷ [])) None) t service.ReleaseResource 0).reply.code ≡ code.NoFunction
gives_first = refl

held_already : (served plain (kernel (holding (0 ∷ [])) ready) h service.GetResource 0).reply.code ≡ code.Access
held_already = refl

-- while interrupts are disabled, hardly anything may be called
locked : ℕ → Kernel
locked depth = record { mode = 0; tasks = ready ∷ None ∷ []; isr = None; disabled = true; suspended = depth }

locked_activate : served plain (locked 0) t service.ActivateTask 1 ≡ misuses code.CallLevel (locked 0)
unfolding locked
locked_activate = refl

disabled_twice : served plain (locked 0) t service.DisableAllInterrupts 0 ≡ misuses code.State (locked 0)
unfolding locked
disabled_twice = refl

suspends : served plain (locked 6) t service.SuspendOSInterrupts 0 ≡ goes_on code.Done (locked 7)
unfolding locked
suspends = refl

suspends_too_often : served plain (locked 7) t service.SuspendOSInterrupts 0 ≡ misuses code.Limit (locked 7)
unfolding locked
suspends_too_often = refl

resumes_too_often : served plain (locked 0) t service.ResumeAllInterrupts 0 ≡ misuses code.State (locked 0)
unfolding locked
resumes_too_often = refl

-- a chain of T on itself starts it anew, and H's end leaves it alone
entry : Context → Option ℕ
entry (contexts.Task n) = Some (n + 100)
entry (contexts.Isr n) = Some (n + 200)

chain_positions : answered plain entry t (Some 7) (served plain (kernel ready None) t service.ChainTask 0).reply (Some 5 ∷ None ∷ None ∷ []) ≡ Some 100 ∷ None ∷ None ∷ []
unfolding entry
chain_positions = refl

end_positions : answered plain entry h (Some 7) (served plain (kernel ready ready) h service.TerminateTask 0).reply (Some 5 ∷ Some 6 ∷ None ∷ []) ≡ Some 5 ∷ None ∷ None ∷ []
unfolding entry
end_positions = refl
