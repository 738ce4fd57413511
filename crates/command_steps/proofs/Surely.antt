-- A run over objects that never fail.
use Rattle.std.proofs.Common.{◌≡◌, ◌⊎◌, ℕ, List, ◌++◌, Some, Result, Ok, Err, inl, inr, refl, subst, arith}
use Rattle.wcet_io.specs.declared.fault.SinkFault.{SinkFault}
use Rattle.wcet_io.specs.declared.fault.SinkFault.TheVariants as sink
use Rattle.wcet_io.specs.Causes.{Rose}
use Rattle.wcet_io.specs.Files.{FilesOutside}
use Rattle.wcet_io.specs.Sink.{SinkOutside, IsWrite}
use Rattle.command_steps.specs.declared.status.Status.{Status}
use Rattle.command_steps.specs.declared.status.Status.TheVariants as status
use Rattle.command_steps.specs.declared.halt.Refusal.{Refusal}
use Rattle.command_steps.specs.declared.halt.Halt.{Halt}
use Rattle.command_steps.specs.declared.halt.Halt.TheVariants.{Refused, Failed, Memory}
use Rattle.command_steps.specs.Status.{status_of}
use Rattle.command_steps.specs.Refusals.{read_text}
use Rattle.command_steps.specs.Steps.{Step}
use Rattle.command_steps.specs.Reports.{Writes, IsWriteCall, Ends, Wrote, ended_by}
use Rattle.command_steps.specs.Outside.{ReadCause}
use Rattle.command_steps.specs.Running.{Ran, EndsSurely}
use Rattle.command_steps.proofs.Running.{puts}

-- what a sink tells that holds these bytes and never fails
abbrev pub holding : List ℕ → SinkOutside
holding written = record { written = Some written; faults = 0 }

no_rise : (a b : ℕ) → a ≡ 0 → b ≡ 0 → Rose a b → ⊥
no_rise a b calm still (inl rose) = omega (arith, calm, still, rose)
no_rise a b calm still (inr rose) = omega (arith, calm, still, rose)

wholly : (a text b : List ℕ) → Some b ≡ Some (a ++ text) → b ≡ a ++ text
wholly a text b is = cc

-- the text is written whole, or memory was wanted
sure_given : (text : List ℕ) (ended : Status) (given : Result (Unit {0}) SinkFault) (a b : List ℕ) (is : Status) → IsWrite (holding a) text given (holding b)
    → is ≡ ended_by ended given → (is ≡ status.Memory) ⊎ ((is ≡ ended) × (b ≡ a ++ text))
sure_given text ended (Ok done) a b is wrote same = inr (same, wholly a text b wrote.appends)
sure_given text ended (Err sink.Failed) a b is wrote same = absurd (no_rise 0 0 refl refl wrote.cause)
sure_given text ended (Err sink.Memory) a b is wrote same = inl same

sure_end : (writes : Writes (List ℕ)) (text : List ℕ) (ended : Status) (a : List ℕ) (is : Status) (b : List ℕ) → Ends (IsWriteCall holding writes) text ended a is b
    → (is ≡ status.Memory) ⊎ ((is ≡ ended) × (b ≡ a ++ text))
sure_end writes text ended a is b ends = sure_given text ended ends.0 a b is (puts holding writes ends.1.0 a text ends.0 b ends.1.1) ends.2

-- steps that gave something else than want of memory were made
stepped : {F : Type 0} (step : Step F (List ℕ)) (before : F) (answered : Result (List ℕ) Halt) (after : F) → (answered ≡ Err Memory → ⊥)
    → step before answered after ⊎ ((after ≡ before) × (answered ≡ Err Memory)) → step before answered after
stepped step before answered after some (inl made) = made
stepped step before answered after some (inr none) = absurd (some none.1)

sure_text : {F : Type 0} (step : Step F (List ℕ)) (before after : F) (a b : List ℕ) (is : Status) (text : List ℕ) → step before (Ok text) after
    → (is ≡ status.Memory) ⊎ ((is ≡ status.Ok) × (b ≡ a ++ text)) → EndsSurely step before after a b is
sure_text step before after a b is text made (inl memory) = inl memory
sure_text step before after a b is text made (inr whole) = inr (Ok text, made, whole)

sure_refusal : {F : Type 0} (step : Step F (List ℕ)) (before after : F) (a b : List ℕ) (is : Status) (refusal : Refusal) → step before (Err (Refused refusal)) after
    → (is ≡ status.Memory) ⊎ ((is ≡ status_of refusal.reason) × (b ≡ a ++ refusal.text)) → EndsSurely step before after a b is
sure_refusal step before after a b is refusal made (inl memory) = inl memory
sure_refusal step before after a b is refusal made (inr whole) = inr (Err (Refused refusal), made, whole)

sure_failed : {F : Type 0} (outside : F → FilesOutside) (names : List (List ℕ)) (step : Step F (List ℕ)) (before after : F) (a b : List ℕ) (is : Status) (text : List ℕ)
    → ((x : F) → (outside x).faults ≡ 0) → ReadCause names is (outside before) (outside after)
    → (is ≡ status.Memory) ⊎ ((is ≡ status.ReadFault) × (b ≡ a ++ text)) → EndsSurely step before after a b is
sure_failed outside names step before after a b is text calm cause (inl memory) = inl memory
sure_failed outside names step before after a b is text calm cause (inr whole) =
    let failed = subst (λ (s : Status). ReadCause names s (outside before) (outside after)) whole.0 cause in
    absurd (no_rise (outside before).faults (outside after).faults (calm before) (calm after) failed.1.rose)

surely : {F : Type 0} (outside : F → FilesOutside) (writes : Writes (List ℕ)) (names : List (List ℕ)) (step : Step F (List ℕ)) (before after : F) (a b : List ℕ) (is : Status)
    (answered : Result (List ℕ) Halt) → ((x : F) → (outside x).faults ≡ 0) → step before answered after ⊎ ((after ≡ before) × (answered ≡ Err Memory))
    → Wrote (IsWriteCall holding writes) answered a is b → ReadCause names is (outside before) (outside after) → EndsSurely step before after a b is
surely outside writes names step before after a b is (Ok text) calm steps wrote cause =
    sure_text step before after a b is text (stepped step before (Ok text) after (λ wrong. cc) steps) (sure_end writes text status.Ok a is b wrote)
surely outside writes names step before after a b is (Err (Refused refusal)) calm steps wrote cause =
    sure_refusal step before after a b is refusal (stepped step before (Err (Refused refusal)) after (λ wrong. cc) steps)
    (sure_end writes refusal.text (status_of refusal.reason) a is b wrote)
surely outside writes names step before after a b is (Err (Failed name)) calm steps (inl wrote) cause =
    sure_failed outside names step before after a b is (read_text name) calm cause (sure_end writes (read_text name) status.ReadFault a is b wrote)
surely outside writes names step before after a b is (Err (Failed name)) calm steps (inr wrote) cause = inl wrote.0
surely outside writes names step before after a b is (Err Memory) calm steps wrote cause = inl wrote.0

pub ends_surely : {F : Type 0} (outside : F → FilesOutside) (writes : Writes (List ℕ)) (names : List (List ℕ)) (step : Step F (List ℕ)) (before after : F)
    (a b : List ℕ) (is : Status) → ((x : F) → (outside x).faults ≡ 0) → Ran outside holding writes names step before after a b is → EndsSurely step before after a b is
ends_surely outside writes names step before after a b is calm ran = surely outside writes names step before after a b is ran.answered calm ran.steps ran.wrote ran.reads
