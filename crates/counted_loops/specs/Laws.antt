-- What holds of counted loops.
use Rattle.std.specs.Prelude.{◌≡◌, ℕ, ◌≤◌, List, length, Contains, Option}
use Rattle.std.specs.List.{AllByRecursion}
use Rattle.elf_image.specs.Image.{ImageData}
use Rattle.oil_model.specs.declared.system.System.{System}
use Rattle.rv32_decode.specs.declared.instruction.Insn.{Insn}
use Rattle.rv32_machine.specs.Code.{insn_at}
use Rattle.timing_file.specs.declared.timing.Loop.{Loop}
use Rattle.timing_file.specs.declared.timing.Timing.{Timing}
use Rattle.timing_file.specs.Lawful.{IsLawful}
use Rattle.osek_kernel.specs.declared.context.Context.{Context}
use Rattle.osek_machine.specs.Declarations.{PairsReturns, IsDeclared}
use Rattle.osek_machine.specs.Events.{Event}
use Rattle.osek_machine.specs.Loops.{laps_of}
use Rattle.osek_machine.specs.Runs.{IsRun}
use Rattle.osek_machine.specs.State.{MachineState}
use Rattle.flow_graph.specs.declared.flow.Flow.{Flow}
use Rattle.flow_graph.specs.Graph.{entries_of}
use Rattle.graph_runs.specs.Walking.{MisusesNothing}
use Rattle.wcet_atomic_blocks.specs.Plants.{PlantData, IsPlant, IsGraphOf}
use Rattle.counted_loops.specs.Counted.{IsCounted, AreFound}
use Rattle.counted_loops.specs.Found.{found_timing, AreBounds, IsDeclaredBut}

-- ---- Bounds

-- A loop is counted with one bound at most.
abbrev pub HaveOneBound : Type 0
HaveOneBound = (code : ℕ → Option Insn) (entries : List (Option ℕ)) (flow : Flow) (l : Loop) (one other : ℕ)
    → IsCounted code entries flow l one → IsCounted code entries flow l other → one ≡ other

-- A counted loop goes round at most as often as its bound says, each time that an invocation comes into it, in every run
-- in which each return goes behind the innermost open call and no service is misused.
abbrev pub GoRoundAtMost : Type 0
GoRoundAtMost = (plant : PlantData) (l : Loop) (bound mode : ℕ) (events : List Event) (state : MachineState) (context : Context)
    → IsPlant plant → Contains plant.timing.loops l
    → IsCounted (insn_at plant.image) (entries_of plant.image plant.system) plant.flow l bound
    → IsRun plant.image plant.system mode events state → PairsReturns plant.image events → MisusesNothing events
    → AllByRecursion (λ laps. laps ≤ bound) (laps_of plant.image l context events)

-- ---- Found timings

-- A lawful timing is lawful with found bounds too,
abbrev pub StayLawful : Type 0
StayLawful = (timing : Timing) (found : List (Option ℕ)) → IsLawful timing → length found ≡ length timing.loops → AreBounds found
    → IsLawful (found_timing timing found)

-- and the code graph stays.
abbrev pub GraphsStay : Type 0
GraphsStay = (image : ImageData) (system : System) (timing : Timing) (flow : Flow) (found : List (Option ℕ))
    → length found ≡ length timing.loops → IsGraphOf image system timing flow → IsGraphOf image system (found_timing timing found) flow

-- A run in which no service is misused keeps the bounds that its loops' code gives. So where it keeps what is declared but
-- for these loops, it keeps what is declared with the found bounds.
abbrev pub CodeKeepsFound : Type 0
CodeKeepsFound = (plant : PlantData) (found : List (Option ℕ)) (mode : ℕ) (events : List Event) (state : MachineState)
    → IsPlant plant → AreFound plant.image plant.system plant.flow plant.timing.loops found
    → IsRun plant.image plant.system mode events state → MisusesNothing events
    → IsDeclaredBut plant.image plant.system plant.timing found events
    → IsDeclared plant.image plant.system (found_timing plant.timing found) events
