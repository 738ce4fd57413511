-- Services: their numbers and names, what their arguments are, and the codes that they answer.
use Rattle.std.specs.Prelude.{ℕ, ◌==◌, nat_lt, List, [], ◌∷◌, length, codes, find, Bool, Option}
use Rattle.oil_model.specs.declared.system.System.{System}
use Rattle.osek_kernel.specs.declared.service.Service.{Service}
use Rattle.osek_kernel.specs.declared.service.Service.TheVariants.{ActivateTask, TerminateTask, ChainTask, GetResource, ReleaseResource, DisableAllInterrupts, EnableAllInterrupts, SuspendAllInterrupts, ResumeAllInterrupts, SuspendOSInterrupts, ResumeOSInterrupts, Schedule, EndIsr}
use Rattle.osek_kernel.specs.declared.service.Argument.{Argument}
use Rattle.osek_kernel.specs.declared.service.Argument.TheVariants as argument
use Rattle.osek_kernel.specs.declared.service.Code.{Code}
use Rattle.osek_kernel.specs.declared.service.Code.TheVariants as code

abbrev pub services : List Service
services = ActivateTask ∷ TerminateTask ∷ ChainTask ∷ GetResource ∷ ReleaseResource
    ∷ DisableAllInterrupts ∷ EnableAllInterrupts ∷ SuspendAllInterrupts ∷ ResumeAllInterrupts
    ∷ SuspendOSInterrupts ∷ ResumeOSInterrupts ∷ Schedule ∷ EndIsr ∷ []

-- the number in register a7 by which code asks for the service
abbrev pub number_of : Service → ℕ
number_of ActivateTask = 1
number_of TerminateTask = 2
number_of ChainTask = 3
number_of GetResource = 4
number_of ReleaseResource = 5
number_of DisableAllInterrupts = 6
number_of EnableAllInterrupts = 7
number_of SuspendAllInterrupts = 8
number_of ResumeAllInterrupts = 9
number_of SuspendOSInterrupts = 10
number_of ResumeOSInterrupts = 11
number_of Schedule = 12
number_of EndIsr = 15

-- the service of a number, and none where there is no such service
abbrev pub service_of : ℕ → Option Service
service_of number = find (λ service. number_of service == number) services

abbrev pub name_of : Service → List ℕ
name_of ActivateTask = codes "ActivateTask"
name_of TerminateTask = codes "TerminateTask"
name_of ChainTask = codes "ChainTask"
name_of GetResource = codes "GetResource"
name_of ReleaseResource = codes "ReleaseResource"
name_of DisableAllInterrupts = codes "DisableAllInterrupts"
name_of EnableAllInterrupts = codes "EnableAllInterrupts"
name_of SuspendAllInterrupts = codes "SuspendAllInterrupts"
name_of ResumeAllInterrupts = codes "ResumeAllInterrupts"
name_of SuspendOSInterrupts = codes "SuspendOSInterrupts"
name_of ResumeOSInterrupts = codes "ResumeOSInterrupts"
name_of Schedule = codes "Schedule"
name_of EndIsr = codes "EndISR"

abbrev pub argument_of : Service → Argument
argument_of ActivateTask = argument.Task
argument_of ChainTask = argument.Task
argument_of GetResource = argument.Resource
argument_of ReleaseResource = argument.Resource
argument_of _ = argument.Nothing

-- the number in register a0 is an argument of the service: an id that exists, or 0 where there is none
abbrev pub is_argument : System → Argument → ℕ → Bool
is_argument system argument.Task n = nat_lt n (length system.tasks)
is_argument system argument.Resource n = nat_lt n (length system.resources)
is_argument system argument.Nothing n = n == 0

abbrev pub takes : System → Service → ℕ → Bool
takes system service n = is_argument system (argument_of service) n

-- the number in register a0 that a caller gets, with its OSEK name
abbrev pub code_number : Code → ℕ
code_number code.Done = 0  -- E_OK
code_number code.Access = 1  -- E_OS_ACCESS
code_number code.CallLevel = 2  -- E_OS_CALLEVEL
code_number code.Limit = 4  -- E_OS_LIMIT
code_number code.NoFunction = 5  -- E_OS_NOFUNC
code_number code.Resource = 6  -- E_OS_RESOURCE
code_number code.State = 7  -- E_OS_STATE
