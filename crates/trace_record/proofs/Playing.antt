-- Runs that are played are runs.
use Rattle.std.proofs.Common.{List, [], ◌∷◌}
use Rattle.oil_model.specs.declared.system.System.{System}
use Rattle.elf_image.specs.Image.{ImageData}
use Rattle.timing_file.specs.declared.timing.Timing.{Timing}
use Rattle.osek_machine.specs.Events.{Event}
use Rattle.osek_machine.specs.Runs.{IsRun}
use Rattle.osek_machine.specs.State.{MachineState}
use Rattle.replay.specs.declared.schedule.Schedule.{Schedule}
use Rattle.replay.specs.Playing.{IsPlayed}

pub played_run : (image : ImageData) (system : System) (timing : Timing) (schedule : Schedule) (events : List Event) (state : MachineState)
    → IsPlayed image system timing schedule events state → IsRun image system schedule.mode events state
played_run image system timing schedule [] state begins = begins.initial
played_run image system timing schedule (event ∷ earlier) state played =
    (played.0, played_run image system timing schedule earlier played.0 played.1, played.2.step)
