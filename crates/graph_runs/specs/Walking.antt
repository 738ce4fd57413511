-- Runs of the OSEK machine on the code graph: each active context walks along it from its entry, as long as no
-- return goes elsewhere than behind its call and no service is misused.
use Rattle.std.specs.Prelude.{◌≡◌, ℕ, List, false, Some}
use Rattle.elf_image.specs.Image.{ImageData}
use Rattle.elf_image.specs.Image as images
use Rattle.oil_model.specs.declared.system.System.{System}
use Rattle.oil_model.specs.System as systems
use Rattle.timing_file.specs.declared.timing.Timing.{Timing}
use Rattle.rv32_machine.specs.ContextStep.{Standing}
use Rattle.rv32_machine.specs.Memory.{BytesFit}
use Rattle.osek_kernel.specs.declared.context.Context.{Context}
use Rattle.osek_kernel.specs.Contexts.{IsContext, place_of}
use Rattle.osek_machine.specs.State.{MachineState, standing_of}
use Rattle.osek_machine.specs.Events.{Event, Serve}
use Rattle.osek_machine.specs.Steps.{Step}
use Rattle.osek_machine.specs.Runs.{IsRun, IsInitial}
use Rattle.osek_machine.specs.Room.{HaveEntries, IsStateOf}
use Rattle.osek_machine.specs.Declarations.{EachStep, ReturnsPaired, PairsReturns}
use Rattle.osek_machine.specs.Stuck.{IsStuck}
use Rattle.flow_graph.specs.Graph.{Program, program_of}
use Rattle.flow_graph.specs.Walks.{IsFaultless, Walk}

-- ---- What is kept

-- The memory of a state holds bytes, and each context that stands somewhere has walked there from its entry.
pub record AreWalking (program : Program) (system : System) (state : MachineState) : Type 0 where
  pub bytes : BytesFit state.memory
  pub walks : (c : Context) (standing : Standing) → IsContext system c → standing_of system state c ≡ Some standing
      → Walk program (place_of system c) standing

-- the step is no misuse of a service
abbrev pub IsNoMisuse : Event → Type 0
IsNoMisuse (Serve call) = call.reply.misuse ≡ false
IsNoMisuse event = Unit {0}

abbrev pub MisusesNothing : List Event → Type 0
MisusesNothing events = EachStep (λ event earlier. IsNoMisuse event) events

-- An image and a system whose code graph has no fault.
pub record HaveGraph (image : ImageData) (system : System) (timing : Timing) : Type 0 where
  pub image_lawful : images.IsLawful image
  pub system_lawful : systems.IsLawful system
  pub entries : HaveEntries image system
  pub faultless : IsFaultless (program_of image system timing)

-- ---- The laws

-- contexts walk at the start of a mode
abbrev pub StartsWalk : Type 0
StartsWalk = (image : ImageData) (system : System) (timing : Timing) (mode : ℕ) (state : MachineState)
    → HaveGraph image system timing → IsInitial image system mode state → AreWalking (program_of image system timing) system state

-- and they walk on in each step that is no unpaired return and no misuse
abbrev pub StepsWalkOn : Type 0
StepsWalkOn = (image : ImageData) (system : System) (timing : Timing) (event : Event) (before after : MachineState)
    → HaveGraph image system timing → IsStateOf system before → Step image system event before after
    → ReturnsPaired image event → IsNoMisuse event
    → AreWalking (program_of image system timing) system before → AreWalking (program_of image system timing) system after

-- so they do in a whole run
abbrev pub RunsWalk : Type 0
RunsWalk = (image : ImageData) (system : System) (timing : Timing) (mode : ℕ) (events : List Event) (state : MachineState)
    → HaveGraph image system timing → IsRun image system mode events state → PairsReturns image events → MisusesNothing events
    → AreWalking (program_of image system timing) system state

-- no context that walks along the graph is stuck
abbrev pub WalkersAreNotStuck : Type 0
WalkersAreNotStuck = (image : ImageData) (system : System) (timing : Timing) (context : Context) (address : ℕ) (state : MachineState)
    → HaveGraph image system timing → IsStateOf system state → AreWalking (program_of image system timing) system state
    → IsStuck image system state context address → ⊥
