-- What is said of certificates and lists of scheduler states.
use Rattle.std.specs.Prelude.{ℕ, List, ◌++◌, codes}
use Rattle.std.specs.Fmt.{decimal}
use Rattle.certificate.specs.declared.fault.CertKind.{CertKind}
use Rattle.certificate.specs.declared.fault.StatesKind.{StatesKind}
use Rattle.certificate.specs.declared.verdict.Why.{Why}
use Rattle.certificate.specs.declared.verdict.Why.TheVariants.{MissingInitial, Missing, Misuse, Count, Column, Bound}
use Rattle.certificate.specs.Kinds.{cert_word, states_word}
use Rattle.command_steps.specs.declared.status.Reason.TheVariants.{Input, No}
use Rattle.command_steps.specs.declared.halt.Refusal.{Refusal}
use Rattle.command_steps.specs.Refusals.{refusal, newline}

-- the certificate is good: `yes TASK N`, N in cycles
abbrev pub yes_text : List ℕ → ℕ → List ℕ
yes_text task bound = codes "yes " ++ (task ++ (codes " " ++ (decimal bound ++ newline)))

-- the line that names the first condition that fails; `mode` is the name of the mode that it speaks of, if it speaks of one
abbrev pub no_text : List ℕ → Why → List ℕ
no_text mode (MissingInitial place) = codes "no initial " ++ (mode ++ newline)
no_text mode (Missing state transition) = codes "no state " ++ (decimal state ++ (codes " transition " ++ (decimal transition ++ newline)))
no_text mode (Misuse state code) = codes "no misuse state " ++ (decimal state ++ (codes " code " ++ (decimal code ++ newline)))
no_text mode (Count given wanted) = codes "no count " ++ (decimal given ++ (codes " " ++ (decimal wanted ++ newline)))
no_text mode (Column column) = codes "no column " ++ (decimal column ++ newline)
no_text mode Bound = codes "no bound" ++ newline

abbrev pub no_refusal : List ℕ → Why → Refusal
no_refusal mode why = refusal No (no_text mode why)

-- the bytes are no certificate for the task
abbrev pub cert_refusal : CertKind → Refusal
cert_refusal kind = refusal Input (codes "cert " ++ (cert_word kind ++ newline))

-- the bytes are no list of scheduler states
abbrev pub states_refusal : StatesKind → Refusal
states_refusal kind = refusal Input (codes "states " ++ (states_word kind ++ newline))
