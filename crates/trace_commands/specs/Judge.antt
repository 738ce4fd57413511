-- `trace judge OIL ELF TIMING TASK CERT TRACE`: the certificate is judged as `check` does, before the recording is read; then the verdict
-- on the recording by the certificate's bound is written.
use Rattle.std.specs.Prelude.{◌≡◌, ℕ, List, Result, Ok, Err}
use Rattle.json_fields.specs.Files.{IsGiven}
use Rattle.wcet_atomic_blocks.specs.Plants.{PlantData}
use Rattle.certificate.specs.declared.cert.Cert.{Cert}
use Rattle.certificate.specs.declared.verdict.Why.{Why}
use Rattle.bound_checker.specs.Good.{IsGood, FailsFirst}
use Rattle.trace_check.specs.declared.fault.TraceKind.{TraceKind}
use Rattle.trace_check.specs.declared.fault.TraceKind.TheVariants as trace_kinds
use Rattle.trace_check.specs.declared.trace.Trace.{Trace}
use Rattle.trace_check.specs.Text.{trace_in}
use Rattle.trace_check.specs.Verdict.{verdict_of}
use Rattle.command_steps.specs.declared.halt.Refusal.{Refusal}
use Rattle.command_steps.specs.Steps.{Calls, Step, Judged, Then, File}
use Rattle.inputs.specs.declared.subjects.Analysed.{Analysed}
use Rattle.inputs.specs.declared.subjects.Subject.TheVariants.{Named}
use Rattle.inputs.specs.States.{CertificateFile, why_refusal}
use Rattle.inputs.specs.Subjects.{AnalysedOf}
use Rattle.trace_commands.specs.Texts.{saying, trace_refusal}

-- ---- a certificate that is good

abbrev pub HasGood : Analysed → Cert → Result Cert Refusal → Type 0
HasGood analysed cert (Ok good) = (good ≡ cert) × IsGood analysed.plant analysed.task cert
HasGood analysed cert (Err refusal) = (why : Why) × FailsFirst analysed.plant analysed.task cert why × (refusal ≡ why_refusal analysed.plant why)

abbrev pub GoodCertificate : {F : Type 0} → Calls F → List ℕ → List ℕ → Analysed → Step F Cert
GoodCertificate calls certificate name analysed = Then (CertificateFile calls certificate name analysed) (λ cert. Judged (HasGood analysed cert))

-- ---- a recording, over the plant's system

-- in bytes
abbrev pub trace_limit : ℕ
trace_limit = 16777216

abbrev pub HasTrace : PlantData → List ℕ → Result Trace Refusal → Type 0
HasTrace plant bytes (Ok trace) = IsGiven trace_kinds.Json (trace_in plant.system) bytes (Ok trace)
HasTrace plant bytes (Err refusal) =
    (kind : TraceKind) × IsGiven trace_kinds.Json (trace_in plant.system) bytes (Err kind) × (refusal ≡ trace_refusal kind)

abbrev pub TraceFile : {F : Type 0} → Calls F → List ℕ → PlantData → Step F Trace
TraceFile calls name plant = File calls name trace_limit (HasTrace plant)

-- ---- the verdict

abbrev pub HasJudged : PlantData → Cert → Trace → Result (List ℕ) Refusal → Type 0
HasJudged plant cert trace given = given ≡ saying (verdict_of plant cert.task cert.bound trace)

abbrev pub TraceJudged : {F : Type 0} → Calls F → List ℕ → PlantData → Cert → Step F (List ℕ)
TraceJudged calls name plant cert = Then (TraceFile calls name plant) (λ trace. Judged (HasJudged plant cert trace))

abbrev pub JudgeOn : {F : Type 0} → Calls F → List ℕ → List ℕ → List ℕ → Analysed → Step F (List ℕ)
JudgeOn calls certificate trace name analysed =
    Then (GoodCertificate calls certificate name analysed) (TraceJudged calls trace analysed.plant)

abbrev pub TraceJudge : {F : Type 0} → Calls F → List ℕ → List ℕ → List ℕ → List ℕ → List ℕ → List ℕ → Step F (List ℕ)
TraceJudge calls oil elf timing task certificate trace =
    Then (AnalysedOf calls (Named oil elf timing task)) (JudgeOn calls certificate trace task)
