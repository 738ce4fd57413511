-- Refusals, and the texts of reads that gave no bytes.
use Rattle.std.specs.Prelude.{ℕ, List, [], ◌∷◌, ◌++◌, codes}
use Rattle.std.specs.Fmt.{decimal}
use Rattle.command_steps.specs.declared.status.Reason.{Reason}
use Rattle.command_steps.specs.declared.status.Reason.TheVariants.{Input}
use Rattle.command_steps.specs.declared.halt.Refusal.{Refusal}

abbrev pub refusal : Reason → List ℕ → Refusal
refusal reason text = record { reason = reason; text = text }

abbrev pub newline : List ℕ
newline = 10 ∷ []

-- the named file is longer than its limit: so many bytes of it were taken, the limit and one more
abbrev pub long_refusal : List ℕ → ℕ → Refusal
long_refusal name taken = refusal Input (codes "long " ++ (name ++ (codes " " ++ (decimal taken ++ newline))))

-- what is written where the named file could not be read
abbrev pub read_text : List ℕ → List ℕ
read_text name = codes "read " ++ (name ++ newline)
