-- `split check OIL ELF TIMING TASK CERT`: the files are read and judged, the split certificate last, and the verdict is written: yes
-- exactly where the split certificate is good, else the first condition that fails.
use Rattle.std.specs.Prelude.{◌≡◌, ℕ, List, Result, Ok, Err}
use Rattle.command_steps.specs.declared.halt.Refusal.{Refusal}
use Rattle.command_steps.specs.Steps.{Calls, Step, Judged, Then}
use Rattle.reports.specs.Verdicts.{yes_text}
use Rattle.inputs.specs.declared.subjects.Analysed.{Analysed}
use Rattle.inputs.specs.declared.subjects.Subject.TheVariants.{Named}
use Rattle.inputs.specs.Subjects.{AnalysedOf}
use Rattle.split_cert.specs.declared.cert.SplitCert.{SplitCert}
use Rattle.split_cert.specs.declared.verdict.SplitWhy.{SplitWhy}
use Rattle.split_cert.specs.Good.{IsGoodSplit, FailsFirst}
use Rattle.split_commands.specs.SplitFiles.{SplitFile}
use Rattle.split_commands.specs.Texts.{split_refusal}

abbrev pub HasVerdict : Analysed → List ℕ → SplitCert → Result (List ℕ) Refusal → Type 0
HasVerdict analysed name cert (Ok text) = IsGoodSplit analysed.plant analysed.task cert × (text ≡ yes_text name cert.bound)
HasVerdict analysed name cert (Err refusal) =
    (why : SplitWhy) × FailsFirst analysed.plant analysed.task cert why × (refusal ≡ split_refusal analysed.plant why)

abbrev pub CheckOn : {F : Type 0} → Calls F → List ℕ → List ℕ → Analysed → Step F (List ℕ)
CheckOn calls split name analysed = Then (SplitFile calls split name analysed) (λ cert. Judged (HasVerdict analysed name cert))

abbrev pub CheckSplit : {F : Type 0} → Calls F → List ℕ → List ℕ → List ℕ → List ℕ → List ℕ → Step F (List ℕ)
CheckSplit calls oil elf timing task split = Then (AnalysedOf calls (Named oil elf timing task)) (CheckOn calls split task)
