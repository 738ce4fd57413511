-- What a run keeps that is declared: arrivals, loop bounds, paired returns, unwritten code, and costs.
-- A run is given by its steps, of which the newest stands first.
use Rattle.std.specs.Prelude.{◌≡◌, ℕ, ◌+◌, ◌-◌, ◌≤◌, ◌==◌, List, [], ◌∷◌, Bool, true, false, Option, Some, None, IfSome, slice_get, unwrap_or, option_and_then, if◌then◌else◌}
use Rattle.std.specs.List.{AllByRecursion, filter_map}
use Rattle.std.specs.Option.{option_map_or}
use Rattle.oil_model.specs.declared.system.System.{System}
use Rattle.elf_image.specs.Image.{ImageData, meets_code}
use Rattle.rv32_decode.specs.declared.instruction.Insn.{Insn}
use Rattle.rv32_decode.specs.declared.instruction.Insn.TheVariants.{Branch}
use Rattle.rv32_decode.specs.Instructions.{class_of}
use Rattle.rv32_machine.specs.Execution.{branch_holds}
use Rattle.rv32_machine.specs.Code.{insn_at}
use Rattle.rv32_machine.specs.Places.{turn_at}
use Rattle.rv32_machine.specs.ContextStep.{IsPaired}
use Rattle.timing_file.specs.declared.timing.Timing.{Timing}
use Rattle.timing_file.specs.Costs.{insn_cost, service_cost}
use Rattle.timing_file.specs.Names as named
use Rattle.timing_file.specs.Names.{ticks_of}
use Rattle.osek_kernel.specs.declared.context.Context.{Context}
use Rattle.osek_kernel.specs.declared.source.Source.{Source}
use Rattle.osek_kernel.specs.declared.source.Source.TheVariants as sources
use Rattle.osek_kernel.specs.Sources.{source_at, is_one_shot, alarm_distance}
use Rattle.osek_machine.specs.Events.{Event, Arrive, Take, Execute, Serve}
use Rattle.osek_machine.specs.Loops.{laps_of}

-- a fact of each step and of the steps before it
abbrev pub EachStep : (Event → List Event → Type 0) → List Event → Type 0
EachStep P [] = Unit {0}
EachStep P (event ∷ earlier) = P event earlier × EachStep P earlier

-- ---- Arrivals: two of one source are at least its distance apart, and one that is set once arrives once

-- the cycles of a tick of a counter
abbrev pub ticks : System → Timing → ℕ → ℕ
ticks system timing counter = unwrap_or (option_and_then (ticks_of timing) (slice_get system.counters counter)) 0

-- the distance of a source, in cycles
abbrev pub distance_of : System → Timing → Source → ℕ
distance_of system timing (sources.Alarm a) =
    option_map_or (λ alarm. alarm_distance alarm (ticks system timing alarm.counter)) (slice_get system.alarms a) 0
distance_of system timing (sources.Isr i) =
    unwrap_or (option_and_then (λ isr. named.distance_of timing isr.name) (slice_get system.isrs i)) 0

-- how far two moments lie apart
abbrev pub gap : ℕ → ℕ → ℕ
gap a b = (a - b) + (b - a)

abbrev pub arrived : ℕ → Event → Option ℕ
arrived source (Arrive arrival) = if arrival.source == source then Some arrival.moment else None
arrived source event = None

-- the moments at which the source arrived
abbrev pub arrivals_of : ℕ → List Event → List ℕ
arrivals_of source events = filter_map (arrived source) events

pub record IsInTime (system : System) (timing : Timing) (source moment : ℕ) (others : List ℕ) : Type 0 where
  pub apart : AllByRecursion (λ other. distance_of system timing (source_at system source) ≤ gap moment other) others
  pub once : is_one_shot system (source_at system source) ≡ true → others ≡ []

abbrev pub ArrivesInTime : System → Timing → Event → List Event → Type 0
ArrivesInTime system timing (Arrive a) earlier = IsInTime system timing a.source a.moment (arrivals_of a.source earlier)
ArrivesInTime system timing event earlier = Unit {0}

abbrev pub KeepsArrivals : System → Timing → List Event → Type 0
KeepsArrivals system timing events = EachStep (ArrivesInTime system timing) events

-- ---- Paired returns: each goes behind the innermost open call

abbrev pub ReturnsPaired : ImageData → Event → Type 0
ReturnsPaired image (Execute e) =
    IfSome (turn_at (insn_at image) e.before.place) (λ turn. IsPaired turn e.before.calls e.after.place)
ReturnsPaired image event = Unit {0}

abbrev pub PairsReturns : ImageData → List Event → Type 0
PairsReturns image events = EachStep (λ event earlier. ReturnsPaired image event) events

-- ---- Unwritten code: no store meets a byte of a code word

abbrev pub SparesCode : ImageData → Event → Type 0
SparesCode image (Execute e) = IfSome e.stored (λ span. meets_code image span.address span.length ≡ false)
SparesCode image event = Unit {0}

abbrev pub LeavesCode : ImageData → List Event → Type 0
LeavesCode image events = EachStep (λ event earlier. SparesCode image event) events

-- ---- Loop bounds: no invocation goes round more often than its loop's bound

abbrev pub AreWithinBounds : ImageData → Timing → List Event → Type 0
AreWithinBounds image timing events = (context : Context) →
    AllByRecursion (λ declared. AllByRecursion (λ laps. laps ≤ declared.bound) (laps_of image declared context events)) timing.loops

abbrev pub KeepsLoops : ImageData → Timing → List Event → Type 0
KeepsLoops image timing events = EachStep (λ event earlier. AreWithinBounds image timing (event ∷ earlier)) events

-- ---- Costs: no step takes more cycles than its cost

-- whether the instruction is a branch whose comparison holds
abbrev pub takes_branch : Insn → List ℕ → Bool
takes_branch (Branch op rs1 rs2 offset) registers = branch_holds op rs1 rs2 registers
takes_branch insn registers = false

abbrev pub take_cost : Timing → Source → ℕ
take_cost timing (sources.Alarm a) = timing.alarm
take_cost timing (sources.Isr i) = timing.interrupt

abbrev pub CostsAtMost : ImageData → System → Timing → Event → Type 0
CostsAtMost image system timing (Take t) = t.cycles ≤ take_cost timing (source_at system t.source)
CostsAtMost image system timing (Execute e) = IfSome (insn_at image e.before.place)
    (λ insn. e.cycles ≤ insn_cost timing (class_of insn) (takes_branch insn e.before.registers) e.before.place)
CostsAtMost image system timing (Serve s) = s.cycles ≤ service_cost timing s.service s.before.place
CostsAtMost image system timing event = Unit {0}

abbrev pub KeepsCosts : ImageData → System → Timing → List Event → Type 0
KeepsCosts image system timing events = EachStep (λ event earlier. CostsAtMost image system timing event) events

-- ---- All of them

pub record IsDeclared (image : ImageData) (system : System) (timing : Timing) (events : List Event) : Type 0 where
  pub arrivals : KeepsArrivals system timing events
  pub returns : PairsReturns image events
  pub code : LeavesCode image events
  pub loops : KeepsLoops image timing events
  pub costs : KeepsCosts image system timing events
