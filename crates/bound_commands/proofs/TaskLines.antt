-- One task's line after the other: what the tasks that are left answer is the answer of all.
use Rattle.std.proofs.Common.{◌≡◌, ℕ, suc, ◌+◌, ◌-◌, ◌<◌, List, [], ◌++◌, Result, Ok, Err, refl, inl, inr, ap, sym, subst, add-one, arith}
use Rattle.command_steps.specs.declared.halt.Refusal.{Refusal}
use Rattle.command_steps.specs.declared.halt.Halt.{Halt}
use Rattle.command_steps.specs.declared.halt.Halt.TheVariants.{Refused, Failed, Memory}
use Rattle.command_steps.specs.Steps.{Says}
use Rattle.bound_commands.specs.All.{Answering, AnswersFrom}
use Rattle.bound_commands.specs.Found.{AddsLine, PutsAnswer}

-- ---- one line

-- the line of a task, put behind the text
pub adds_line : (Answers : Result (List ℕ) Refusal → Type 0) (before after : List ℕ) (answered : Result (List ℕ) Halt) (given : Result (Unit {0}) Halt)
    → Says Answers answered → PutsAnswer before after answered given → Says (AddsLine Answers before after) given
adds_line Answers before after (Ok line) (Ok done) says puts = (line, says, puts.1)
adds_line Answers before after (Ok line) (Err (Refused refusal)) says puts = absurd (cc (puts.0))
adds_line Answers before after (Ok line) (Err (Failed name)) says puts = puts
adds_line Answers before after (Ok line) (Err Memory) says puts = tt
adds_line Answers before after (Err (Refused refused)) (Ok done) says puts = absurd cc
adds_line Answers before after (Err (Refused refused)) (Err (Refused refusal)) says puts = (refused, says, cc)
adds_line Answers before after (Err (Refused refused)) (Err (Failed name)) says puts = puts
adds_line Answers before after (Err (Refused refused)) (Err Memory) says puts = tt
adds_line Answers before after (Err (Failed name)) given says puts = absurd says
adds_line Answers before after (Err Memory) given says puts = subst (Says (AddsLine Answers before after)) (sym puts) tt

-- ---- all lines

-- from this task on, behind this text, the answer is that of all
abbrev pub Continues : Answering → List ℕ → ℕ → ℕ → List ℕ → Type 0
Continues Answers ending total task text =
    (count : ℕ) (given : Result (List ℕ) Refusal) → task + count ≡ total → AnswersFrom Answers ending count task text given
    → AnswersFrom Answers ending total 0 [] given

pub begins : (Answers : Answering) (ending : List ℕ) (total : ℕ) (text : List ℕ) → text ≡ [] → Continues Answers ending total 0 text
begins Answers ending total text empty count given is answers =
    let same : count ≡ total = omega arith in
    subst (λ (n : ℕ). AnswersFrom Answers ending n 0 [] given) same (subst (λ (t : List ℕ). AnswersFrom Answers ending count 0 t given) empty answers)

pub goes_on : (Answers : Answering) (ending : List ℕ) (total task : ℕ) (before after : List ℕ)
    → AddsLine (Answers task) before after (Ok tt) → Continues Answers ending total task before → Continues Answers ending total (task + 1) after
goes_on Answers ending total task before after adds rest count given is answers =
    let here = subst (λ (n : ℕ). AnswersFrom Answers ending count n after given) (add-one task) answers in
    rest (suc count) given (omega arith)
    (inl (adds.0, adds.1, subst (λ (t : List ℕ). AnswersFrom Answers ending count (suc task) t given) adds.2 here))

pub stops : (Answers : Answering) (ending : List ℕ) (total task : ℕ) (before after : List ℕ) (halt : Halt)
    → Says (AddsLine (Answers task) before after) (Err halt) → task < total → Continues Answers ending total task before
    → Says (AnswersFrom Answers ending total 0 []) (Err halt)
stops Answers ending total task before after (Refused refusal) adds below rest =
    rest (suc (total - suc task)) (Err refusal) (omega arith) (inr (adds.0, adds.1, ap Err adds.2))
stops Answers ending total task before after (Failed name) adds below rest = adds
stops Answers ending total task before after Memory adds below rest = tt

pub ends : (Answers : Answering) (ending : List ℕ) (total task : ℕ) (text given : List ℕ) → task ≡ total → given ≡ text ++ ending
    → Continues Answers ending total task text → AnswersFrom Answers ending total 0 [] (Ok given)
ends Answers ending total task text given last same rest =
    subst (λ (t : List ℕ). AnswersFrom Answers ending total 0 [] (Ok t)) (sym same) (rest 0 (Ok (text ++ ending)) (omega arith) refl)
