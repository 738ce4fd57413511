-- From the steps of each command to what its text means.
use Rattle.std.proofs.Common.{◌≡◌, ℕ, List, [], ◌∷◌, Ok, refl, sym, ◌∙◌, subst}
use Rattle.wcet_io.specs.Files.{FilesOutside}
use Rattle.json_fields.specs.Files.{IsGiven}
use Rattle.wcet_atomic_blocks.specs.Plants.{PlantData, IsPlantOf}
use Rattle.scheduler_moves.specs.Moves.{rules_of}
use Rattle.certificate.specs.declared.cert.Cert.{Cert}
use Rattle.certificate.specs.declared.fault.CertKind.TheVariants as cert_kinds
use Rattle.certificate.specs.Certificate.{cert_in}
use Rattle.certificate.specs.Lawful.{IsLawful}
use Rattle.activation_windows.specs.Bounds.{BoundsActivations}
use Rattle.activation_windows.proofs.Bounding.{good_multipliers_bound_activations}
use Rattle.bound_checker.specs.Good.{IsGood}
use Rattle.trace_check.specs.declared.fault.TraceKind.TheVariants as trace_kinds
use Rattle.trace_check.specs.declared.trace.Trace.{Trace}
use Rattle.trace_check.specs.declared.verdict.TraceVerdict.{TraceVerdict}
use Rattle.trace_check.specs.declared.verdict.TraceVerdict.TheVariants.{Fits, NotAWalk, TooClose, OverBound}
use Rattle.trace_check.specs.Text.{trace_in}
use Rattle.trace_check.specs.Verdict.{verdict_of}
use Rattle.command_steps.specs.Steps.{Calls, IsCall, Judged}
use Rattle.command_steps.proofs.Given.{then_ok, file_ok}
use Rattle.inputs.specs.declared.subjects.Analysed.{Analysed}
use Rattle.inputs.specs.declared.subjects.Subject.{Subject}
use Rattle.inputs.specs.declared.subjects.Subject.TheVariants.{Named}
use Rattle.inputs.specs.Inputs.{states_limit}
use Rattle.inputs.specs.Meaning.{AreBytesOf, OfSystem}
use Rattle.inputs.specs.Plants.{PlantOf}
use Rattle.inputs.specs.Schedules.{schedule_limit, HasSchedule, ScheduleFile}
use Rattle.inputs.specs.States.{CertificateFile, HasCertificate}
use Rattle.inputs.specs.Subjects.{AnalysedOf, HasTask}
use Rattle.inputs.proofs.Analysing.{IsAnalysed, is_analysed}
use Rattle.inputs.proofs.Declared.{AreJudged, DeclarePlant, Judging, judged_three, lasts_as, later_bytes, of_system, plant_declared}
use Rattle.inputs.proofs.Given.{cert_lawful}
use Rattle.inputs.proofs.Honest.{analysed_honest, fourth, plant_honest}
use Rattle.trace_commands.specs.Judge.{HasGood, GoodCertificate, HasTrace, TraceFile, HasJudged, TraceJudged, JudgeOn, TraceJudge, trace_limit}
use Rattle.trace_commands.specs.Meaning.{JudgesFit, RecordsRun}
use Rattle.trace_commands.specs.Record.{HasRecorded, RecordOn, TraceRecord}
use Rattle.trace_commands.specs.Texts.{fits_text, saying}
use Rattle.trace_commands.proofs.Honest.{good_honest}

-- ---- trace record

pub trace_record_says : {F : Type 0} (outside : F → FilesOutside) (reads : Calls F) (start : F) (oil elf timing schedule text : List ℕ) (after : F)
    → TraceRecord (IsCall outside reads) oil elf timing schedule start (Ok text) after
    → (s : List ℕ) × AreBytesOf outside reads start schedule s × OfSystem (AreBytesOf outside reads start) oil elf timing (RecordsRun s text)
trace_record_says outside reads start oil elf timing schedule text after steps =
    let calls = IsCall outside reads in
    let one = then_ok (PlantOf calls oil elf timing) (RecordOn calls schedule) start text after steps in
    let plant : PlantData = one.0 in
    let two = then_ok (ScheduleFile calls schedule plant) (λ listed. Judged (HasRecorded plant listed)) one.1 text after one.3 in
    let was = file_ok calls schedule schedule_limit (HasSchedule plant) one.1 two.0 two.1 two.2 in
    let told : (outside one.1).told ≡ (outside start).told =
    ((plant_honest outside reads oil elf timing (schedule ∷ [])).leaves start (Ok plant) one.1 one.2).goes_on.kept in (
      was.bytes,
      later_bytes outside reads start one.1 schedule schedule_limit (HasSchedule plant) two.0 told was,
      of_system (AreBytesOf outside reads start) oil elf timing (DeclarePlant plant) (RecordsRun was.bytes text)
          (λ o e t declares. record {
            declared = declares.declared;
            plant = plant;
            plant_is = declares.plant_is;
            listed = two.0;
            listed_is = was.fact;
            says = two.3.1;
          })
          (plant_declared outside reads start oil elf timing plant one.1 one.2),
    )

-- ---- trace judge

-- what is judged of a system, an image and a timing where a task is named
abbrev judged_task : List ℕ → Judging Analysed
judged_task name image system timing = HasTask image system name timing

said_fits : (verdict : TraceVerdict) (text : List ℕ) → Ok text ≡ saying verdict → (verdict ≡ Fits) × (text ≡ fits_text)
said_fits Fits text e = (refl, cc)
said_fits (NotAWalk event) text e = absurd cc
said_fits (TooClose event) text e = absurd cc
said_fits (OverBound event) text e = absurd cc

-- what is known of a certificate that is good, of its bytes
record IsGoodCert (plant : PlantData) (task : ℕ) (name bytes : List ℕ) (cert : Cert) : Type 0 where
  given : IsGiven cert_kinds.Json (cert_in (rules_of plant) task name) bytes (Ok cert)
  lawful : IsLawful (rules_of plant) task cert
  good : IsGood plant task cert

good_cert : (plant : PlantData) (task : ℕ) (name bytes : List ℕ) (read cert : Cert) → cert ≡ read
    → IsGiven cert_kinds.Json (cert_in (rules_of plant) task name) bytes (Ok read) → IsGood plant task read → IsGoodCert plant task name bytes cert
good_cert plant task name bytes read cert same given good =
    subst (IsGoodCert plant task name bytes) (sym same)
    (record { given = given; lawful = cert_lawful plant task name bytes read given; good = good })

-- what is known where the steps have come to the verdict
record IsJudged (analysed : Analysed) (name : List ℕ) (cert : Cert) (certificate bytes : List ℕ) (recording : Trace) (text : List ℕ) : Type 0 where
  good : IsGoodCert analysed.plant analysed.task name certificate cert
  bounds : BoundsActivations analysed.plant analysed.task cert.bound
  given : IsGiven trace_kinds.Json (trace_in analysed.plant.system) bytes (Ok recording)
  says : Ok text ≡ saying (verdict_of analysed.plant cert.task cert.bound recording)

judges_fit : (name certificate bytes text o e t : List ℕ) (analysed : Analysed) (cert : Cert) (recording : Trace)
    → IsJudged analysed name cert certificate bytes recording text → AreJudged (judged_task name) analysed o e t
    → JudgesFit name certificate bytes text o e t
judges_fit name certificate bytes text o e t analysed cert recording is judged =
    let declared = judged.declared in
    let of : IsPlantOf declared.image declared.system declared.times analysed.plant = judged.fact.1 in
    let fits = said_fits (verdict_of analysed.plant cert.task cert.bound recording) text is.says in
    record {
      declared = declared;
      task = analysed.task;
      named = judged.fact.0;
      plant = analysed.plant;
      plant_is = of;
      cert = cert;
      cert_is = is.good.given;
      lasts = lasts_as declared.image declared.system declared.times analysed.plant analysed.task cert.bound of is.bounds;
      recording = recording;
      recording_is = is.given;
      fits = subst (λ (n : ℕ). verdict_of analysed.plant n cert.bound recording ≡ Fits) is.good.lawful.for_task fits.0;
      told = fits.1;
    }

pub trace_judge_says : {F : Type 0} (outside : F → FilesOutside) (reads : Calls F) (start : F) (oil elf timing task certificate trace text : List ℕ)
    (after : F)
    → TraceJudge (IsCall outside reads) oil elf timing task certificate trace start (Ok text) after
    → (c : List ℕ) × AreBytesOf outside reads start certificate c
    × ((b : List ℕ) × AreBytesOf outside reads start trace b × OfSystem (AreBytesOf outside reads start) oil elf timing (JudgesFit task c b text))
trace_judge_says outside reads start oil elf timing task certificate trace text after steps =
    let calls = IsCall outside reads in
    let subject : Subject = Named oil elf timing task in
    let others : List (List ℕ) = certificate ∷ trace ∷ [] in
    let names : List (List ℕ) = oil ∷ elf ∷ timing ∷ others in
    let one = then_ok (AnalysedOf calls subject) (JudgeOn calls certificate trace task) start text after steps in
    let analysed : Analysed = one.0 in
    let plant : PlantData = analysed.plant in
    let is : IsAnalysed (AreBytesOf outside reads start) subject analysed = is_analysed outside reads start subject analysed one.1 one.2 in
    let two = then_ok (GoodCertificate calls certificate task analysed) (TraceJudged calls trace plant) one.1 text after one.3 in
    let cert : Cert = two.0 in
    let read = then_ok (CertificateFile calls certificate task analysed) (λ c. Judged (HasGood analysed c)) one.1 cert two.1 two.2 in
    let was_cert = file_ok calls certificate states_limit (HasCertificate analysed task) one.1 read.0 read.1 read.2 in
    let good : IsGoodCert plant analysed.task task was_cert.bytes cert =
    good_cert plant analysed.task task was_cert.bytes read.0 cert read.3.1.0 was_cert.fact read.3.1.1 in
    let three = then_ok (TraceFile calls trace plant) (λ recording. Judged (HasJudged plant cert recording)) two.1 text after two.3 in
    let was = file_ok calls trace trace_limit (HasTrace plant) two.1 three.0 three.1 three.2 in
    let told_one : (outside one.1).told ≡ (outside start).told =
    ((analysed_honest outside reads subject others).leaves start (Ok analysed) one.1 one.2).goes_on.kept in
    let told_two : (outside two.1).told ≡ (outside start).told =
    ((good_honest outside reads names certificate task analysed (fourth oil elf timing certificate (trace ∷ []))).leaves
    one.1 (Ok cert) two.1 two.2).goes_on.kept ∙ told_one in (
      was_cert.bytes,
      later_bytes outside reads start one.1 certificate states_limit (HasCertificate analysed task) read.0 told_one was_cert,
      (
        was.bytes,
        later_bytes outside reads start two.1 trace trace_limit (HasTrace plant) three.0 told_two was,
        of_system (AreBytesOf outside reads start) oil elf timing (AreJudged (judged_task task) analysed) (JudgesFit task was_cert.bytes was.bytes text)
            (λ o e t judged. judges_fit task was_cert.bytes was.bytes text o e t analysed cert three.0 (record {
              good = good;
              bounds = good_multipliers_bound_activations plant cert.states analysed.task cert.multipliers cert.denominator cert.bound
                  (record { belongs = is.belongs; closed = good.good.closed; once = good.lawful.states.once; exists = is.exists }) good.good.good;
              given = was.fact;
              says = three.3.1;
            }) judged)
            (judged_three outside reads start oil elf timing (judged_task task) analysed one.1 one.2),
      ),
    )
