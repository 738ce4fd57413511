-- What is said of what a solver found, and of one task after the others.
use Rattle.std.specs.Prelude.{◌≡◌, ℕ, List, ◌++◌, map, unsigned_abs, Option, Some, option_map, Result, Ok, Err}
use Rattle.whole_simplex.specs.declared.Optimum.{Optimum}
use Rattle.whole_simplex.specs.declared.SolveFault.{SolveFault}
use Rattle.command_steps.specs.declared.halt.Halt.{Halt}
use Rattle.command_steps.specs.declared.halt.Halt.TheVariants.{Refused, Failed, Memory}
use Rattle.command_steps.specs.declared.halt.Refusal.{Refusal}
use Rattle.command_steps.specs.Refusals.{refusal}
use Rattle.command_steps.specs.Steps.{Says}
use Rattle.bound_commands.specs.Solving.{Saying, fault_refusal}

-- the answer by what was found, if memory sufficed
abbrev pub solved_as : Saying → Result Optimum SolveFault → Option (Result (List ℕ) Refusal)
solved_as say (Ok optimum) = Some (Ok (say (map unsigned_abs optimum.multipliers) (unsigned_abs optimum.denominator) (unsigned_abs optimum.bound)))
solved_as say (Err fault) = option_map Err (fault_refusal fault)

-- The text before got a line that is answered; or a refusal is, which got the text before its own.
abbrev pub AddsLine : (Result (List ℕ) Refusal → Type 0) → List ℕ → List ℕ → Result (Unit {0}) Refusal → Type 0
AddsLine Answers before after (Ok done) = (line : List ℕ) × Answers (Ok line) × (after ≡ before ++ line)
AddsLine Answers before after (Err given) = (refused : Refusal) × Answers (Err refused) × (given ≡ refusal refused.reason (before ++ refused.text))

-- The same of one answer, unless memory was wanted: what ends a command for another reason ends it still.
abbrev pub PutsAnswer : List ℕ → List ℕ → Result (List ℕ) Halt → Result (Unit {0}) Halt → Type 0
PutsAnswer before after (Ok line) given = Says (λ done. (done ≡ Ok tt) × (after ≡ before ++ line)) given
PutsAnswer before after (Err (Refused refused)) given = Says (λ done. done ≡ Err (refusal refused.reason (before ++ refused.text))) given
PutsAnswer before after (Err (Failed name)) given = given ≡ Err (Failed name)
PutsAnswer before after (Err Memory) given = given ≡ Err Memory
