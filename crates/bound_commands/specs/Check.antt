-- `check OIL ELF TIMING TASK CERT` and `check lone IMAGE CERT`: the files are read and judged, the certificate last, and the verdict
-- is written: yes exactly where the certificate is good, else the first condition that fails.
use Rattle.std.specs.Prelude.{◌≡◌, ℕ, List, Result, Ok, Err}
use Rattle.certificate.specs.declared.cert.Cert.{Cert}
use Rattle.certificate.specs.declared.verdict.Why.{Why}
use Rattle.bound_checker.specs.Good.{IsGood, FailsFirst}
use Rattle.command_steps.specs.declared.halt.Refusal.{Refusal}
use Rattle.command_steps.specs.Steps.{Calls, Step, Judged, Then}
use Rattle.reports.specs.Verdicts.{yes_text}
use Rattle.inputs.specs.declared.subjects.Analysed.{Analysed}
use Rattle.inputs.specs.declared.subjects.Subject.{Subject}
use Rattle.inputs.specs.States.{CertificateFile, why_refusal}
use Rattle.inputs.specs.Subjects.{AnalysedOf, name_of}

abbrev pub HasVerdict : Analysed → List ℕ → Cert → Result (List ℕ) Refusal → Type 0
HasVerdict analysed name cert (Ok text) = IsGood analysed.plant analysed.task cert × (text ≡ yes_text name cert.bound)
HasVerdict analysed name cert (Err refusal) =
    (why : Why) × FailsFirst analysed.plant analysed.task cert why × (refusal ≡ why_refusal analysed.plant why)

abbrev pub CheckOn : {F : Type 0} → Calls F → List ℕ → List ℕ → Analysed → Step F (List ℕ)
CheckOn calls certificate name analysed = Then (CertificateFile calls certificate name analysed) (λ cert. Judged (HasVerdict analysed name cert))

abbrev pub Check : {F : Type 0} → Calls F → Subject → List ℕ → Step F (List ℕ)
Check calls subject certificate = Then (AnalysedOf calls subject) (CheckOn calls certificate (name_of subject))
