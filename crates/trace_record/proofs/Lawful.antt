-- The recording of a run that a schedule plays is within the limits of its text.
use Rattle.std.proofs.Common.{Result, Ok, Err, sym, subst}
use Rattle.std.specs.Prelude.{IfOk}
use Rattle.listed.specs.declared.fault.Fault.{Fault}
use Rattle.wcet_atomic_blocks.specs.Plants.{PlantData, IsPlant}
use Rattle.replay.specs.declared.schedule.Schedule.{Schedule}
use Rattle.replay.specs.Lawful as schedules
use Rattle.trace_check.specs.declared.trace.Trace.{Trace}
use Rattle.trace_check.specs.Trace.{IsLawful}
use Rattle.trace_record.specs.declared.fault.RecordKind.{RecordKind}
use Rattle.trace_record.specs.Recorded.{RecordGives, Records}
use Rattle.trace_record.proofs.Limits.{recordings_are_lawful}
use Rattle.trace_record.proofs.Playing.{played_run}
use Rattle.trace_record.proofs.Soon.{ends_soon}

recorded_lawful : (plant : PlantData) (schedule : Schedule) (trace : Trace) → IsPlant plant → schedules.IsLawful plant.system schedule
    → Records plant schedule trace → IsLawful plant.system trace
recorded_lawful plant schedule trace is lawful records =
    let plays = records.plays in
    subst (IsLawful plant.system) (sym records.told)
    (recordings_are_lawful plant schedule.mode records.events plays.state is
    (played_run plant.image plant.system plant.timing schedule records.events plays.state plays.played) plays.declared.returns plays.clean
    (ends_soon plant.image plant.system plant.timing schedule records.events plays.state is.timing lawful.end plays.played plays.declared) records.few)

pub records_are_lawful : (plant : PlantData) (schedule : Schedule) (answer : Result Trace (Fault RecordKind)) → IsPlant plant
    → schedules.IsLawful plant.system schedule → RecordGives plant schedule answer → IfOk answer (IsLawful plant.system)
records_are_lawful plant schedule (Ok trace) is lawful gives = recorded_lawful plant schedule trace is lawful gives
records_are_lawful plant schedule (Err fault) is lawful gives = tt
