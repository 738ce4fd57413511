-- What playing a schedule answers: the responses of its run, or the first step that breaks what is declared or that
-- misuses a service.
use Rattle.std.specs.Prelude.{◌≡◌, ℕ, true, List, ◌∷◌, map, Result, Ok, Err}
use Rattle.listed.specs.declared.fault.Fault.{Fault}
use Rattle.listed.specs.declared.fault.Fault.TheVariants.{Kind, Memory}
use Rattle.oil_model.specs.declared.system.System.{System}
use Rattle.elf_image.specs.Image.{ImageData}
use Rattle.timing_file.specs.declared.timing.Timing.{Timing}
use Rattle.osek_kernel.specs.declared.context.Context.{Context}
use Rattle.osek_kernel.specs.Services.{code_number}
use Rattle.osek_machine.specs.State.{MachineState}
use Rattle.osek_machine.specs.Events.{Event, Arrive, Execute, Serve, duration}
use Rattle.osek_machine.specs.Declarations.{IsInTime, arrivals_of, ReturnsPaired, SparesCode, AreWithinBounds, IsDeclared}
use Rattle.osek_machine.specs.Activations.{Activation, activations}
use Rattle.graph_runs.specs.Walking.{MisusesNothing}
use Rattle.replay.specs.declared.response.Response.{Response}
use Rattle.replay.specs.declared.response.PlayKind.{PlayKind}
use Rattle.replay.specs.declared.response.PlayKind.TheVariants.{TooClose, Unpaired, CodeWritten, LoopPast, Misuse}
use Rattle.replay.specs.declared.schedule.Schedule.{Schedule}
use Rattle.replay.specs.Playing.{IsPlayed, HasStopped}

-- ---- The first broken step

-- The context makes the step, from the address on, at the moment.
abbrev pub IsMadeAt : Context → ℕ → ℕ → Event → List Event → Type 0
IsMadeAt context address moment (Execute e) earlier = (context ≡ e.context) × (address ≡ e.before.place) × (moment ≡ duration earlier)
IsMadeAt context address moment (Serve c) earlier = (context ≡ c.caller) × (address ≡ c.before.place) × (moment ≡ duration earlier)
IsMadeAt context address moment event earlier = ⊥

-- the step keeps what is told first
pub record KeepsReturnsAndCode (image : ImageData) (event : Event) : Type 0 where
  pub returns : ReturnsPaired image event
  pub code : SparesCode image event

abbrev pub ComesTooClose : System → Timing → ℕ → ℕ → Event → List Event → Type 0
ComesTooClose system timing source moment (Arrive a) earlier =
    (source ≡ a.source) × (moment ≡ a.moment) × (IsInTime system timing a.source a.moment (arrivals_of a.source earlier) → ⊥)
ComesTooClose system timing source moment event earlier = ⊥

abbrev pub IsMisuse : ℕ → Event → Type 0
IsMisuse code (Serve c) = (c.reply.misuse ≡ true) × (code ≡ code_number c.reply.code)
IsMisuse code event = ⊥

-- The step breaks what the fault tells, and nothing that is told before it.
abbrev pub Breaks : ImageData → System → Timing → Event → List Event → PlayKind → Type 0
Breaks image system timing event earlier (TooClose source moment) = ComesTooClose system timing source moment event earlier
Breaks image system timing event earlier (Unpaired context address moment) =
    IsMadeAt context address moment event earlier × (ReturnsPaired image event → ⊥)
Breaks image system timing event earlier (CodeWritten context address moment) =
    IsMadeAt context address moment event earlier × ReturnsPaired image event × (SparesCode image event → ⊥)
Breaks image system timing event earlier (LoopPast context address moment) =
    IsMadeAt context address moment event earlier × KeepsReturnsAndCode image event × (AreWithinBounds image timing (event ∷ earlier) → ⊥)
Breaks image system timing event earlier (Misuse context address code moment) =
    IsMadeAt context address moment event earlier × AreWithinBounds image timing (event ∷ earlier) × IsMisuse code event

-- ---- The answer

abbrev pub response_of : Activation → Response
response_of a = record { task = a.task; start = a.start; cycles = a.cycles; ended = a.ended }

-- The run was played to its end. It is declared, so the premise of every bound holds of it.
pub record PlaysWhole (image : ImageData) (system : System) (timing : Timing) (schedule : Schedule) (responses : List Response) : Type 0 where
  pub events : List Event
  pub state : MachineState
  pub played : IsPlayed image system timing schedule events state
  pub stopped : HasStopped system schedule events state
  pub declared : IsDeclared image system timing events
  pub clean : MisusesNothing events
  pub told : responses ≡ map response_of (activations system schedule.mode events)

-- The run was played up to its first broken step.
pub record PlaysUpTo (image : ImageData) (system : System) (timing : Timing) (schedule : Schedule) (fault : PlayKind) : Type 0 where
  pub event : Event
  pub earlier : List Event
  pub state : MachineState
  pub played : IsPlayed image system timing schedule (event ∷ earlier) state
  pub declared : IsDeclared image system timing earlier
  pub clean : MisusesNothing earlier
  pub breaks : Breaks image system timing event earlier fault

abbrev pub PlayGives : ImageData → System → Timing → Schedule → Result (List Response) (Fault PlayKind) → Type 0
PlayGives image system timing schedule (Ok responses) = PlaysWhole image system timing schedule responses
PlayGives image system timing schedule (Err (Kind fault)) = PlaysUpTo image system timing schedule fault
PlayGives image system timing schedule (Err Memory) = Unit {0}
