-- What the steps of each command leave of the outside: it reads files of its names only.
use Rattle.std.proofs.Common.{ℕ, List, [], ◌∷◌, Contains}
use Rattle.wcet_io.specs.Files.{FilesOutside}
use Rattle.wcet_atomic_blocks.specs.Plants.{PlantData}
use Rattle.replay.specs.declared.schedule.Schedule.{Schedule}
use Rattle.certificate.specs.declared.cert.Cert.{Cert}
use Rattle.trace_check.specs.declared.trace.Trace.{Trace}
use Rattle.command_steps.specs.Steps.{Calls, IsCall, Judged}
use Rattle.command_steps.proofs.Honest.{IsHonest, file, judged, joined}
use Rattle.inputs.specs.declared.subjects.Analysed.{Analysed}
use Rattle.inputs.specs.declared.subjects.Subject.TheVariants.{Named}
use Rattle.inputs.specs.Plants.{PlantOf}
use Rattle.inputs.specs.Schedules.{ScheduleFile}
use Rattle.inputs.specs.States.{CertificateFile}
use Rattle.inputs.specs.Subjects.{AnalysedOf}
use Rattle.inputs.proofs.Honest.{analysed_honest, certificate_honest, fifth, fourth, plant_honest, schedule_honest}
use Rattle.trace_commands.specs.Judge.{HasGood, GoodCertificate, HasTrace, TraceFile, HasJudged, TraceJudged, JudgeOn, TraceJudge, trace_limit}
use Rattle.trace_commands.specs.Record.{HasRecorded, RecordOn, TraceRecord}

pub trace_record_honest : {F : Type 0} (outside : F → FilesOutside) (reads : Calls F) (oil elf timing schedule : List ℕ)
    → IsHonest outside (oil ∷ elf ∷ timing ∷ schedule ∷ []) (TraceRecord (IsCall outside reads) oil elf timing schedule)
trace_record_honest outside reads oil elf timing schedule =
    let names : List (List ℕ) = oil ∷ elf ∷ timing ∷ schedule ∷ [] in
    let calls = IsCall outside reads in
    joined outside names (PlantOf calls oil elf timing) (RecordOn calls schedule)
    (plant_honest outside reads oil elf timing (schedule ∷ []))
    (λ (plant : PlantData). joined outside names (ScheduleFile calls schedule plant) (λ listed. Judged (HasRecorded plant listed))
    (schedule_honest outside reads names schedule plant (fourth oil elf timing schedule []))
    (λ (listed : Schedule). judged outside names (HasRecorded plant listed)))

-- a certificate that is good
pub good_honest : {F : Type 0} (outside : F → FilesOutside) (reads : Calls F) (names : List (List ℕ)) (certificate name : List ℕ) (analysed : Analysed)
    → Contains names certificate → IsHonest outside names (GoodCertificate (IsCall outside reads) certificate name analysed)
good_honest outside reads names certificate name analysed is_named =
    joined outside names (CertificateFile (IsCall outside reads) certificate name analysed) (λ cert. Judged (HasGood analysed cert))
    (certificate_honest outside reads names certificate name analysed is_named)
    (λ (cert : Cert). judged outside names (HasGood analysed cert))

pub trace_judge_honest : {F : Type 0} (outside : F → FilesOutside) (reads : Calls F) (oil elf timing task certificate trace : List ℕ)
    → IsHonest outside (oil ∷ elf ∷ timing ∷ certificate ∷ trace ∷ [])
    (TraceJudge (IsCall outside reads) oil elf timing task certificate trace)
trace_judge_honest outside reads oil elf timing task certificate trace =
    let names : List (List ℕ) = oil ∷ elf ∷ timing ∷ certificate ∷ trace ∷ [] in
    let calls = IsCall outside reads in
    joined outside names (AnalysedOf calls (Named oil elf timing task)) (JudgeOn calls certificate trace task)
    (analysed_honest outside reads (Named oil elf timing task) (certificate ∷ trace ∷ []))
    (λ (analysed : Analysed). joined outside names (GoodCertificate calls certificate task analysed) (TraceJudged calls trace analysed.plant)
    (good_honest outside reads names certificate task analysed (fourth oil elf timing certificate (trace ∷ [])))
    (λ (cert : Cert). joined outside names (TraceFile calls trace analysed.plant) (λ recording. Judged (HasJudged analysed.plant cert recording))
    (file outside reads names trace trace_limit (HasTrace analysed.plant) (fifth oil elf timing certificate trace []))
    (λ (recording : Trace). judged outside names (HasJudged analysed.plant cert recording))))
