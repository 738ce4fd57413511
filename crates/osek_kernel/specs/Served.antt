-- What a service does: the table of services, row by row.
use Rattle.std.specs.Prelude.{ℕ, ◌+◌, ◌-◌, ◌==◌, nat_lt, nat_eq, not, ◌&&◌, ◌||◌, Bool, true, false, List, [], ◌∷◌, ◌++◌, length, Option, Some, None, is_some, slice_get, take, if◌then◌else◌}
use Rattle.std.specs.List.{list_any}
use Rattle.std.specs.Option.{option_map_or}
use Rattle.oil_model.specs.declared.system.System.{System}
use Rattle.osek_kernel.specs.declared.context.Context.{Context}
use Rattle.osek_kernel.specs.declared.context.Context.TheVariants as contexts
use Rattle.osek_kernel.specs.declared.kernel.Active.{Active}
use Rattle.osek_kernel.specs.declared.kernel.Kernel.{Kernel}
use Rattle.osek_kernel.specs.declared.kernel.Reply.{Reply}
use Rattle.osek_kernel.specs.declared.service.Service.{Service}
use Rattle.osek_kernel.specs.declared.service.Service.TheVariants.{ActivateTask, TerminateTask, ChainTask, GetResource, ReleaseResource, DisableAllInterrupts, EnableAllInterrupts, SuspendAllInterrupts, ResumeAllInterrupts, SuspendOSInterrupts, ResumeOSInterrupts, Schedule, EndIsr}
use Rattle.osek_kernel.specs.declared.service.Code.{Code}
use Rattle.osek_kernel.specs.declared.service.Code.TheVariants.{Done, Access, CallLevel, Limit, NoFunction, Resource, State}
use Rattle.osek_kernel.specs.Kernel.{with_inner, task_state, held_in, held_by, is_locked, change_task, activate, suspend}
use Rattle.osek_kernel.specs.Running.{is_empty}

-- ---- answers

-- the kernel after a service, and what it answers
pub record Served : Type 0 where
  pub kernel : Kernel
  pub reply : Reply

abbrev pub answer : Kernel → Reply → Served
answer kernel reply = record { kernel = kernel; reply = reply }

abbrev pub going_on : Code → Reply
going_on code = record { code = code; misuse = false; ended = None; activated = None }

abbrev pub misuse : Code → Reply
misuse code = record { code = code; misuse = true; ended = None; activated = None }

-- the caller goes on, with this code and this kernel
abbrev pub goes_on : Code → Kernel → Served
goes_on code kernel = answer kernel (going_on code)

-- the caller broke a rule: it goes on with this code, and the kernel stays as it is
abbrev pub misuses : Code → Kernel → Served
misuses code kernel = answer kernel (misuse code)

abbrev pub activates : ℕ → Kernel → Served
activates task kernel = answer (activate kernel task) (record { code = Done; misuse = false; ended = None; activated = Some task })

abbrev pub ends : Context → Kernel → Served
ends caller kernel = answer (suspend kernel caller) (record { code = Done; misuse = false; ended = Some caller; activated = None })

abbrev pub chains : Context → ℕ → Kernel → Served
chains caller task kernel =
    answer (activate (suspend kernel caller) task) (record { code = Done; misuse = false; ended = Some caller; activated = Some task })

-- ---- what the rows ask

abbrev pub is_suspended : Kernel → ℕ → Bool
is_suspended kernel task = not (is_some (task_state kernel task))

abbrev pub holds_any : Kernel → Context → Bool
holds_any kernel caller = not (is_empty (held_by kernel caller))

abbrev pub is_task : Context → ℕ → Bool
is_task (contexts.Task t) task = t == task
is_task (contexts.Isr i) task = false

-- RES_SCHEDULER is the last resource, and every task may take it
abbrev pub is_scheduler : System → ℕ → Bool
is_scheduler system resource = resource + 1 == length system.resources

abbrev pub is_internal : System → ℕ → Bool
is_internal system resource = option_map_or (λ r. r.internal) (slice_get system.resources resource) false

abbrev pub named_by : System → ℕ → List ℕ
named_by system task = option_map_or (λ t. t.resources) (slice_get system.tasks task) []

-- the resources that a context names; an ISR names none
abbrev pub names_of : System → Context → List ℕ
names_of system (contexts.Task t) = named_by system t
names_of system (contexts.Isr i) = []

abbrev pub may_take : System → Context → ℕ → Bool
may_take system caller resource = list_any (nat_eq resource) (names_of system caller) || is_scheduler system resource

abbrev pub is_held : Kernel → ℕ → Bool
is_held kernel resource = list_any (λ state. list_any (nat_eq resource) (held_in state)) kernel.tasks

-- the resource that was taken last, and those that were taken before it
abbrev pub last : List ℕ → Option ℕ
last held = slice_get held (length held - 1)

abbrev pub all_but_last : List ℕ → List ℕ
all_but_last held = take (length held - 1) held

abbrev pub is_last : List ℕ → ℕ → Bool
is_last held resource = option_map_or (nat_eq resource) (last held) false

-- ---- changes of what the caller has

abbrev pub change_caller : (Active → Active) → Context → Kernel → Kernel
change_caller change (contexts.Task t) kernel = change_task change kernel t
change_caller change (contexts.Isr i) kernel = kernel

abbrev pub holding : ℕ → Active → Active
holding resource active = record active { held = active.held ++ resource ∷ [] }

abbrev pub without_last : Active → Active
without_last active = record active { held = all_but_last active.held }

abbrev pub preemptable : Active → Active
preemptable active = with_inner false active

-- ---- the rows: in each the first line that applies decides

abbrev pub activate_task : Kernel → ℕ → Served
activate_task kernel task =
    if is_suspended kernel task then activates task kernel
    else goes_on Limit kernel

abbrev pub terminate_task : Kernel → Context → Served
terminate_task kernel caller =
    if holds_any kernel caller then misuses Resource kernel
    else ends caller kernel

abbrev pub chain_task : Kernel → Context → ℕ → Served
chain_task kernel caller task =
    if holds_any kernel caller then misuses Resource kernel
    else (if not (is_task caller task) && not (is_suspended kernel task) then misuses Limit kernel
    else chains caller task kernel)

abbrev pub get_resource : System → Kernel → Context → ℕ → Served
get_resource system kernel caller resource =
    if is_internal system resource then misuses Access kernel
    else (if not (may_take system caller resource) then misuses Access kernel
    else (if is_held kernel resource then misuses Access kernel
    else goes_on Done (change_caller (holding resource) caller kernel)))

abbrev pub release_resource : Kernel → Context → ℕ → Served
release_resource kernel caller resource =
    if is_last (held_by kernel caller) resource then goes_on Done (change_caller without_last caller kernel)
    else misuses NoFunction kernel

abbrev pub disable_all : Kernel → Served
disable_all kernel = goes_on Done (record kernel { disabled = true })

abbrev pub enable_all : Kernel → Served
enable_all kernel =
    if kernel.disabled then goes_on Done (record kernel { disabled = false })
    else misuses State kernel

abbrev pub suspend_interrupts : Kernel → Served
suspend_interrupts kernel =
    if nat_lt kernel.suspended 7 then goes_on Done (record kernel { suspended = kernel.suspended + 1 })
    else misuses Limit kernel

abbrev pub resume_interrupts : Kernel → Served
resume_interrupts kernel =
    if nat_lt 0 kernel.suspended then goes_on Done (record kernel { suspended = kernel.suspended - 1 })
    else misuses State kernel

abbrev pub schedule : Kernel → Context → Served
schedule kernel caller =
    if holds_any kernel caller then misuses Resource kernel
    else goes_on Done (change_caller preemptable caller kernel)

-- each service, where no line for several services applies
abbrev pub row : System → Kernel → Context → Service → ℕ → Served
row system kernel caller ActivateTask task = activate_task kernel task
row system kernel caller TerminateTask argument = terminate_task kernel caller
row system kernel caller ChainTask task = chain_task kernel caller task
row system kernel caller GetResource resource = get_resource system kernel caller resource
row system kernel caller ReleaseResource resource = release_resource kernel caller resource
row system kernel caller DisableAllInterrupts argument = disable_all kernel
row system kernel caller EnableAllInterrupts argument = enable_all kernel
row system kernel caller SuspendAllInterrupts argument = suspend_interrupts kernel
row system kernel caller ResumeAllInterrupts argument = resume_interrupts kernel
row system kernel caller SuspendOSInterrupts argument = suspend_interrupts kernel
row system kernel caller ResumeOSInterrupts argument = resume_interrupts kernel
row system kernel caller Schedule argument = schedule kernel caller
row system kernel caller EndIsr argument = ends caller kernel

-- ---- the lines for several services

-- these may be called while interrupts are disabled or suspended
abbrev pub is_allowed_locked : Service → Bool
is_allowed_locked EnableAllInterrupts = true
is_allowed_locked SuspendAllInterrupts = true
is_allowed_locked ResumeAllInterrupts = true
is_allowed_locked SuspendOSInterrupts = true
is_allowed_locked ResumeOSInterrupts = true
is_allowed_locked _ = false

-- disabling what is disabled has a code of its own
abbrev pub locked_code : Kernel → Service → Code
locked_code kernel DisableAllInterrupts = if kernel.disabled then State else CallLevel
locked_code kernel _ = CallLevel

abbrev pub is_for_isrs : Service → Bool
is_for_isrs TerminateTask = false
is_for_isrs ChainTask = false
is_for_isrs GetResource = false
is_for_isrs ReleaseResource = false
is_for_isrs Schedule = false
is_for_isrs _ = true

abbrev pub is_for_tasks : Service → Bool
is_for_tasks EndIsr = false
is_for_tasks _ = true

abbrev pub is_for : Context → Service → Bool
is_for (contexts.Task t) service = is_for_tasks service
is_for (contexts.Isr i) service = is_for_isrs service

-- ---- the whole table

abbrev pub served : System → Kernel → Context → Service → ℕ → Served
served system kernel caller service argument =
    if is_locked kernel && not (is_allowed_locked service) then misuses (locked_code kernel service) kernel
    else (if not (is_for caller service) then misuses CallLevel kernel
    else row system kernel caller service argument)
