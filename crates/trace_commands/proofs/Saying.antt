-- What `trace judge` says of the recording of a declared run.
use Rattle.std.proofs.Common.{◌≡◌, ◌⊎◌, ℕ, List, Result, Ok, Err, inl, inr, sym, ◌∙◌, ap, subst}
use Rattle.std.proofs.lemmas.Option.{same_Some}
use Rattle.json_fields.specs.Files.{IsGiven}
use Rattle.serde_json.specs.Data.{Data}
use Rattle.wcet_atomic_blocks.specs.Plants.{PlantData}
use Rattle.certificate.specs.declared.cert.Cert.{Cert}
use Rattle.trace_check.specs.declared.fault.TraceKind.{TraceKind}
use Rattle.trace_check.specs.declared.fault.TraceKind.TheVariants as trace_kinds
use Rattle.trace_check.specs.declared.trace.Trace.{Trace}
use Rattle.trace_check.specs.declared.verdict.TraceVerdict.TheVariants.{Fits}
use Rattle.trace_check.specs.Text.{trace_in}
use Rattle.trace_check.specs.Verdict.{verdict_of}
use Rattle.trace_record.specs.Fitting.{GoodCertificatesFit}
use Rattle.trace_record.specs.Recording.{recording_of}
use Rattle.command_steps.specs.declared.halt.Halt.{Halt}
use Rattle.command_steps.specs.declared.halt.Halt.TheVariants.{Refused, Failed, Memory}
use Rattle.command_steps.specs.Steps.{Calls, Reading, Says}
use Rattle.command_steps.proofs.Given.{file_ok}
use Rattle.trace_commands.specs.Judge.{HasJudged, HasTrace, TraceFile, trace_limit}
use Rattle.trace_commands.specs.Laws.{IsGoodFor, RecordsDeclared, RecordingsAreSaidToFit, SaysFits, SaysUnread}
use Rattle.trace_commands.specs.Texts.{saying}

-- ---- What a format makes of bytes is one alone

one_given : {X K : Type 0} (no_value : K) (format : Data → Result X K) (bytes : List ℕ) (one other : Result X K)
    → IsGiven no_value format bytes one → IsGiven no_value format bytes other → one ≡ other
one_given no_value format bytes one other (inl a) (inl b) =
    let same : a.0 ≡ b.0 = same_Some a.0 b.0 (sym a.1.1 ∙ b.1.1) in sym a.2 ∙ (ap format same ∙ b.2)
one_given no_value format bytes one other (inl a) (inr b) = absurd (b.0 a.0 a.1)
one_given no_value format bytes one other (inr a) (inl b) = absurd (a.0 b.0 b.1)
one_given no_value format bytes one other (inr a) (inr b) = a.1 ∙ sym b.1

-- ---- The recording of a declared run

fits : GoodCertificatesFit → (plant : PlantData) (task : ℕ) (cert : Cert) (bytes : List ℕ) → IsGoodFor plant task cert
    → (records : RecordsDeclared plant bytes) → verdict_of plant cert.task cert.bound (recording_of plant.system records.mode records.events) ≡ Fits
fits law plant task cert bytes is records =
    subst (λ (n : ℕ). verdict_of plant n cert.bound (recording_of plant.system records.mode records.events) ≡ Fits) (sym is.lawful.for_task)
    (law plant task cert records.mode records.events records.state is.belongs is.lawful.states.once is.exists is.good records.run records.declared)

judged_to_fit : GoodCertificatesFit → (plant : PlantData) (task : ℕ) (cert : Cert) (bytes : List ℕ) (trace : Trace) → IsGoodFor plant task cert
    → RecordsDeclared plant bytes → HasTrace plant bytes (Ok trace) → verdict_of plant cert.task cert.bound trace ≡ Fits
judged_to_fit law plant task cert bytes trace is records given =
    let same : Ok (recording_of plant.system records.mode records.events) ≡ Ok trace =
    one_given trace_kinds.Json (trace_in plant.system) bytes (Ok (recording_of plant.system records.mode records.events)) (Ok trace) records.is_text given in
    subst (λ (t : Trace). verdict_of plant cert.task cert.bound t ≡ Fits) (same_ok (recording_of plant.system records.mode records.events) trace same)
    (fits law plant task cert bytes is records)
  where
    same_ok : (a b : Trace) → ◌≡◌ {A = Result Trace TraceKind} (Ok a) (Ok b) → a ≡ b
    same_ok a b e = cc

never_refused : (plant : PlantData) (bytes : List ℕ) (kind : TraceKind) → RecordsDeclared plant bytes
    → IsGiven trace_kinds.Json (trace_in plant.system) bytes (Err kind) → ⊥
never_refused plant bytes kind records given =
    apart (recording_of plant.system records.mode records.events)
    (one_given trace_kinds.Json (trace_in plant.system) bytes (Ok (recording_of plant.system records.mode records.events)) (Err kind) records.is_text given)
  where
    apart : (trace : Trace) → ◌≡◌ {A = Result Trace TraceKind} (Ok trace) (Err kind) → ⊥
    apart trace e = cc

-- ---- The steps

says_fits : (plant : PlantData) (cert : Cert) (trace : Trace) (given : Result (List ℕ) Halt)
    → verdict_of plant cert.task cert.bound trace ≡ Fits → Says (HasJudged plant cert trace) given → SaysFits given
says_fits plant cert trace (Ok text) is says = let said : Ok text ≡ saying Fits = says ∙ ap saying is in cc
says_fits plant cert trace (Err (Refused refusal)) is says = let said : Err refusal ≡ saying Fits = says ∙ ap saying is in absurd cc
says_fits plant cert trace (Err (Failed failed)) is says = absurd says
says_fits plant cert trace (Err Memory) is says = tt

-- what is said of bytes that were read, where they are no trace
refused_bytes : (plant : PlantData) (bytes : List ℕ) (halt : Halt) → Says (HasTrace plant bytes) (Err halt) → RecordsDeclared plant bytes
    → SaysFits (Err halt)
refused_bytes plant bytes (Refused refusal) says records = absurd (never_refused plant bytes says.0 records says.1)
refused_bytes plant bytes (Failed failed) says records = absurd says
refused_bytes plant bytes Memory says records = tt

-- what is said where none were read
unread : {F : Type 0} (calls : Calls F) (name : List ℕ) (before : F) (halt : Halt) (after : F)
    → Reading calls name trace_limit before (Err halt) after → SaysUnread name (Err halt)
unread calls name before (Refused refusal) after reading = reading.2
unread calls name before (Failed failed) after reading = reading.1
unread calls name before Memory after reading = tt

abbrev IsSaid : {F : Type 0} → Calls F → PlantData → List ℕ → F → Result (List ℕ) Halt → Type 0
IsSaid {F} calls plant name before given =
    ((bytes : List ℕ) × (then : F) × calls before name trace_limit (Ok bytes) then × (RecordsDeclared plant bytes → SaysFits given))
    ⊎ SaysUnread name given

read_fails : {F : Type 0} (calls : Calls F) (name : List ℕ) (plant : PlantData) (before : F) (halt : Halt) (after : F)
    → TraceFile calls name plant before (Err halt) after → IsSaid calls plant name before (Err halt)
read_fails calls name plant before halt after (inl is) = inl (is.0, is.1, is.2, refused_bytes plant is.0 halt is.3.1)
read_fails calls name plant before halt after (inr is) =
    inr (subst (SaysUnread name) (sym (same halt is.0 is.2)) (unread calls name before is.0 after is.1))
  where
    same : (one other : Halt) → ◌≡◌ {A = Result Trace Halt} (Err one) (Err other) → ◌≡◌ {A = Result (List ℕ) Halt} (Err one) (Err other)
    same one other e = cc

pub said_to_fit : {F : Type 0} (calls : Calls F) → GoodCertificatesFit → RecordingsAreSaidToFit calls
said_to_fit calls law plant task cert name before given after is (inl steps) =
    let read = file_ok calls name trace_limit (HasTrace plant) before steps.0 steps.1 steps.2 in
    inl (
      read.bytes,
      read.after,
      read.read,
      λ records.
          says_fits plant cert steps.0 given (judged_to_fit law plant task cert read.bytes steps.0 is records read.fact) steps.3.1,
    )
said_to_fit calls law plant task cert name before given after is (inr steps) =
    subst (IsSaid calls plant name before) (sym steps.2) (read_fails calls name plant before steps.0 after steps.1)
