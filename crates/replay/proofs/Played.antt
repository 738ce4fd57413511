-- Runs that are played are runs, and each step of them costs what is declared.
use Rattle.std.proofs.Common.{◌≡◌, ◌≤◌, List, [], ◌∷◌, Option, Some, None, arith}
use Rattle.std.specs.Prelude.{IfSome}
use Rattle.oil_model.specs.declared.system.System.{System}
use Rattle.elf_image.specs.Image.{ImageData}
use Rattle.timing_file.specs.declared.timing.Timing.{Timing}
use Rattle.timing_file.specs.Costs.{insn_cost}
use Rattle.rv32_decode.specs.declared.instruction.Insn.{Insn}
use Rattle.rv32_decode.specs.Instructions.{class_of}
use Rattle.rv32_machine.specs.Code.{insn_at}
use Rattle.osek_machine.specs.State.{MachineState}
use Rattle.osek_machine.specs.Events.{Event, Execution}
use Rattle.osek_machine.specs.Declarations.{takes_branch}
use Rattle.osek_machine.specs.Laws.{Stands}
use Rattle.osek_machine.specs.Runs.{IsRun}
use Rattle.osek_machine.proofs.Times.{runs_take_their_time}
use Rattle.replay.specs.declared.schedule.Schedule.{Schedule}
use Rattle.replay.specs.Playing.{IsPlayed, CostsFully}

pub played_run : (image : ImageData) (system : System) (timing : Timing) (schedule : Schedule) (events : List Event) (state : MachineState)
    → IsPlayed image system timing schedule events state → IsRun image system schedule.mode events state
played_run image system timing schedule [] state begins = begins.initial
played_run image system timing schedule (event ∷ earlier) state played =
    (played.0, played_run image system timing schedule earlier played.0 played.1, played.2.step)

pub played_stands : (image : ImageData) (system : System) (timing : Timing) (schedule : Schedule) (events : List Event) (state : MachineState)
    → IsPlayed image system timing schedule events state → Stands schedule.mode events state
played_stands image system timing schedule events state played =
    runs_take_their_time image system schedule.mode events state (played_run image system timing schedule events state played)

costs_at_most : (timing : Timing) (e : Execution) (insn : Option Insn)
    → IfSome insn (λ i. e.cycles ≡ insn_cost timing (class_of i) (takes_branch i e.before.registers) e.before.place)
    → IfSome insn (λ i. e.cycles ≤ insn_cost timing (class_of i) (takes_branch i e.before.registers) e.before.place)
costs_at_most timing e None is = tt
costs_at_most timing e (Some i) is = omega (arith, is)

pub execution_costs : (image : ImageData) (timing : Timing) (e : Execution) → CostsFully image timing e
    → IfSome (insn_at image e.before.place) (λ i. e.cycles ≤ insn_cost timing (class_of i) (takes_branch i e.before.registers) e.before.place)
execution_costs image timing e is = costs_at_most timing e (insn_at image e.before.place) is
